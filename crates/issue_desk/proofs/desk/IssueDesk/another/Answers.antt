use Rattle.std.proofs.Common.{sym, ap, subst, ◌∙◌}
use Rattle.turn_cell.specs.Passes.{Known}
use Rattle.issue_desk.specs.Desk.{IsDesk}
use Rattle.issue_desk.proofs.HeldLemmas.{held-desk, holds-next}
use Rattle.issue_desk.proofs.ShowLemmas.{desk-less}
use Rattle.issue_desk.proofs.desk.IssueDesk.another.Goals as goal

pub invariant_of-self : goal.invariant_of-self
invariant_of-self g c =
    let is = sym c.take.ensures.value ∙ c.in-Some.is in
    let less = c.split-next.ensures.pass in
    let desk = held-desk c.self.inside.server.now c.self.inside.pass c.self.inside.stop c.in-Some.pass is c.self.invariant in
    holds-next c.self.inside.server.now c.self.inside.pass c.self.inside.stop c.in-Some.pass is c.self.invariant c.split-next.new.pass c.self.inside.stop (ap (λ (k : Known _). k.cell) less)
    (subst (λ (q : Known _). IsDesk (record { pass = q; stop = c.self.inside.stop })) (sym less) (desk-less (record { pass = c.in-Some.pass; stop = c.self.inside.stop }) desk))
