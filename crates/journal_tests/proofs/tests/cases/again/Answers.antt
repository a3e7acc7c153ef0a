use Rattle.std.proofs.Common.{◌≡◌, refl, sym, ap, ◌∙◌}
use Rattle.issue_journal.specs.Adopted.{WasAdopted}
use Rattle.issue_journal.specs.Issue.{Fixed}
use Rattle.journal_tests.proofs.Answered.{if_ok}
use Rattle.journal_tests.proofs.tests.cases.again.Goals as goal

pub returns : goal.returns
returns c =
    if_ok _ _ c.adopt.result
    (λ i adopted.
    let was : WasAdopted c.args.room c.args.issue i =
    adopted c.args.issue
    (record {
      issue = c.close-closed.ensures.stands;
      running = c.requires.running;
      terms = c.requires.room.terms;
      participants = c.requires.room.participants;
      number = c.requires.room.number;
      capacity = c.requires.room.capacity;
    })
    c.close-closed.ensures.first c.close-closed.ensures.second c.close-closed.ensures.third in
    ap (λ (f : Fixed). f.participants) was.fixed ∙ sym c.requires.room.participants)
    c.adopt.ensures.adopted
