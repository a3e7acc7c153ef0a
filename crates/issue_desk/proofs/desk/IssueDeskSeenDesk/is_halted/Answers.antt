use Rattle.std.proofs.Common.{sym, ap, subst, ◌∙◌}
use Rattle.std.specs.Prelude.{is_some}
use Rattle.turn_cell.specs.Marks.{halt_in}
use Rattle.issue_desk.specs.Desk.{DeskNow, IsDesk}
use Rattle.issue_desk.proofs.HeldLemmas.{held-is}
use Rattle.issue_desk.proofs.StopLemmas.{ended-is}
use Rattle.issue_desk.proofs.desk.IssueDeskSeenDesk.is_halted.Goals as goal

pub returns-clause-ended : goal.returns-clause-ended
returns-clause-ended g c =
    let now = held-is c.self.inside.server.now c.self.inside.pass c.self.inside.stop c.in-Some.pass c.in-Some.is c.args.self.now c.self.view_is in
    c.is_some.ensures ∙ ap is_some c.halted.ensures ∙ ap (λ (d : DeskNow). is_some (halt_in d.pass.seen)) (sym now) ∙ sym (ended-is c.args.self.now (subst IsDesk c.self.view_is c.self.invariant.desk))
