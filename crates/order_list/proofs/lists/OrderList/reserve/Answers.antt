use Rattle.std.proofs.Common.{arith}
use Rattle.order_list.proofs.CallLemmas.{grown}
use Rattle.order_list.proofs.lists.OrderList.reserve.Goals as goal

pub invariant_of-self : goal.invariant_of-self
invariant_of-self g c =
    let is = c.in_ok-self-inside.ensures in
    grown c.self.inside.nodes c.in_ok-self-inside.field-0 c.self.inside.ends.items c.self.invariant is.kept (omega (arith, is.room)) is.small
