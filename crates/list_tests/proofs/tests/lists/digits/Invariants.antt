use Rattle.std.proofs.Common.{ℕ}
use Rattle.std.specs.Option.{IfSome}
use Rattle.order_list.specs.Lists.{IsIn}
use Rattle.list_tests.proofs.tests.lists.digits.Given as goal

-- the place of the walk is in the list
abbrev pub invariant-loop-step : goal.invariant-loop-step
invariant-loop-step l = IfSome l.place (λ link. (item : ℕ) × IsIn l.lists.lists link l.list item)
