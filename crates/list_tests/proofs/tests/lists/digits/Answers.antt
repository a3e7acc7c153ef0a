use Rattle.std.proofs.Common.{ℕ, subst}
use Rattle.std.specs.Option.{IfSome}
use Rattle.order_list.specs.Lists.{IsIn}
use Rattle.list_tests.proofs.tests.lists.digits.Goals as goal

-- the item after a live one is in the same list
pub loop-step-preserved : goal.loop-step-preserved
loop-step-preserved c =
    let live = subst (λ place. IfSome place (λ link. (item : ℕ) × IsIn c.args.lists.now.lists link c.args.list item)) c.in-Some.is c.loop-step.invariant in
    c.next-place.ensures.live c.args.list live.0 live.1
