use Rattle.std.proofs.Common.{◌≡◌, ℕ, ◌+◌, ◌<◌, ◌≤◌, drop, get_or, length, set}
use Rattle.depth_index.proofs.WriteLemmas.{IsTreeBut}
use Rattle.depth_index.proofs.tree.add_at.Given as goal

-- a tree but for the node that comes next; what is at and above it is as it was
abbrev pub invariant-loop-node : goal.invariant-loop-node
invariant-loop-node l =
    record {
      but : IsTreeBut l.leaves l.sums l.node l.qty 0;
      within : l.node < length l.sums;
      same : (k : ℕ) → k ≤ l.node → get_or l.sums k 0 ≡ get_or l.initial.sums k 0;
      first : l.leaves ≤ l.node → (l.node ≡ l.leaves + l.i) × (l.sums ≡ l.initial.sums);
      then : l.node < l.leaves → drop l.leaves l.sums ≡ set (drop l.leaves l.initial.sums) l.i (get_or (drop l.leaves l.initial.sums) l.i 0 + l.qty);
    }

abbrev pub decreases-loop-node : goal.decreases-loop-node
decreases-loop-node l = l.node
