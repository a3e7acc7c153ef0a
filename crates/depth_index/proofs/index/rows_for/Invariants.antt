use Rattle.std.proofs.Common.{◌≡◌, ◌+◌, ◌-◌, ◌^◌, ◌<◌, ◌≤◌}
use Rattle.depth_index.proofs.index.rows_for.Given as goal

abbrev pub invariant-loop-leaves : goal.invariant-loop-leaves
invariant-loop-leaves l = record { power : l.leaves ≡ 2 ^ l.rows; digits : l.leaves ≤ l.size + l.size; low : l.rows < l.leaves }

abbrev pub decreases-loop-leaves : goal.decreases-loop-leaves
decreases-loop-leaves l = l.size + 1 - l.leaves
