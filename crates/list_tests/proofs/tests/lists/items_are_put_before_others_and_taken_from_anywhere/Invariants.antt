use Rattle.std.proofs.Common.{◌≡◌, length}
use Rattle.list_tests.proofs.tests.lists.items_are_put_before_others_and_taken_from_anywhere.Given as goal

abbrev pub invariant-loop-step : goal.invariant-loop-step
invariant-loop-step g l = length l.lists.lists ≡ 2
