use Rattle.std.proofs.Common.{◌≡◌, ◌+◌, ◌-◌, ◌*◌, ◌^◌, ◌<◌, ◌≤◌, length}
use Rattle.depth_index.specs.Tree.{left_of}
use Rattle.depth_index.proofs.tree.sum_left_of.Given as goal

-- what has been added, and what stands left of the node above, make the whole
abbrev pub invariant-loop-row : goal.invariant-loop-row
invariant-loop-row g l =
    record {
      first : 2 ^ (l.rows - l._row) ≤ l.at;
      last : l.at < 2 * 2 ^ (l.rows - l._row);
      within : l.at ≤ length l.sums;
      sum : l.left + left_of l.sums (l.rows - l._row) l.at ≡ left_of l.sums l.rows l.node;
      steps : l.steps ≡ l.fn.steps + l._row;
    }
