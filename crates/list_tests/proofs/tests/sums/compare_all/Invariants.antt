use Rattle.std.proofs.Common.{◌≡◌, ◌*◌, ◌≤◌, length, sum}
use Rattle.list_tests.proofs.tests.sums.compare_all.Given as goal

abbrev pub invariant-loop-i : goal.invariant-loop-i
invariant-loop-i g l = record { size : length l.index ≡ l.size; small : sum l.index ≤ 5 * l.i }

abbrev pub invariant-loop-i-2 : goal.invariant-loop-i-2
invariant-loop-i-2 g l = l.sum ≤ 5 * l.i

abbrev pub invariant-loop-i-3 : goal.invariant-loop-i-3
invariant-loop-i-3 g l = length l.index ≡ l.size
