use Rattle.std.proofs.Common.{◌≡◌, Option, Some, rules, refl, sym, ap, subst, ◌∙◌, arith}
use Rattle.mkt_base.specs.declared.journal.Halt.{Halt}
use Rattle.turn_cell.specs.Marks.{halt_in}
use Rattle.turn_cell.proofs.Marks.{halt_in-made}
use Rattle.issue_journal.specs.Issue.{IsHalted, Stands}
use Rattle.issue_server.proofs.SeenLemmas.{halt-marked, journal-seen}
use Rattle.issue_server.proofs.Meeting.{theirs}
use Rattle.issue_server.proofs.server.Server.close.Goals as goal

pub returns-clause-theirs : goal.returns-clause-theirs
returns-clause-theirs g c = let e = c.close-issue.ensures in
    theirs c.close-issue.result.entries c.args.pass (search rules) e.holds e.nobody_else

pub returns-clause-whole : goal.returns-clause-whole
returns-clause-whole g c = journal-seen c.close-issue.result.entries c.close-issue.result.halt c.args.pass.seen (sym c.close-issue.ensures.marks)

pub returns-clause-halter : goal.returns-clause-halter
returns-clause-halter g c = λ halt is none.
    let same : c.close-issue.result.halt ≡ Some halt = sym (halt_in-made c.close-issue.result.entries c.close-issue.result.halt) ∙ ap halt_in c.close-issue.ensures.marks ∙ is in
    let stands : IsHalted halt c.close-issue.result = subst (λ (h : Option Halt). Stands c.close-issue.result h) same c.length-entries.ensures.stands.stands in
    let some = stands.caller.0 in
    halt-marked halt.caller.0 c.args.pass.seen halt is refl (c.close-issue.ensures.nobody_else halt.caller.0 (λ zero. absurd (omega (arith, some, zero))) none)
