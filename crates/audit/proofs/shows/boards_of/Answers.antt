use Rattle.std.proofs.Common.{◌≡◌, None, Some, length, refl, slice_get}
use Rattle.rules_file.specs.Rules.{issues_in, participants_in}
use Rattle.rules_file.specs.declared.issue.IssueRules.{IssueRules}
use Rattle.issue_machine.specs.Journal.{new_machine}
use Rattle.run_report.specs.declared.ended.EndedIssue.{EndedIssue}
use Rattle.run_report.proofs.IssueLemmas.{journal-ready, machine-made}
use Rattle.audit.proofs.BoardLemmas.{boards-made}
use Rattle.audit.proofs.shows.boards_of.Goals as goal

pub boards_along-requires-clause-room : goal.boards_along-requires-clause-room
boards_along-requires-clause-room c =
    let said = c.args.rules.now in
    let n = length c.args.journal.now in
    let m = c.in-Ok.machine in
    let ended : EndedIssue = record { journal = c.args.journal.now; halt = None } in
    let making : (r : IssueRules) → slice_get (issues_in said) c.args.issue ≡ Some r → m ≡ new_machine said r n = c.in-Ok.ensures in
    let is = machine-made said c.args.issue n m c.requires.number making in
    (journal-ready said is.rules_of n m ended is.made refl (c.history_is_journal.ensures (length (participants_in said)) c.args.journal.now c.requires.history)).0

pub boards_along-requires-clause-entries : goal.boards_along-requires-clause-entries
boards_along-requires-clause-entries c =
    let said = c.args.rules.now in
    let n = length c.args.journal.now in
    let m = c.in-Ok.machine in
    let ended : EndedIssue = record { journal = c.args.journal.now; halt = None } in
    let making : (r : IssueRules) → slice_get (issues_in said) c.args.issue ≡ Some r → m ≡ new_machine said r n = c.in-Ok.ensures in
    let is = machine-made said c.args.issue n m c.requires.number making in
    (journal-ready said is.rules_of n m ended is.made refl (c.history_is_journal.ensures (length (participants_in said)) c.args.journal.now c.requires.history)).1

pub returns : goal.returns
returns c =
    let said = c.args.rules.now in
    let n = length c.args.journal.now in
    let m = c.in-Ok.machine in
    let making : (r : IssueRules) → slice_get (issues_in said) c.args.issue ≡ Some r → m ≡ new_machine said r n = c.in-Ok.ensures in
    let is = machine-made said c.args.issue n m c.requires.number making in
    boards-made said c.args.issue is.rules_of n m c.args.journal.now _ is.there is.made (rw c.new-boards.ensures.items at c.in_ok-boards_along.ensures)
