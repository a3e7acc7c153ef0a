use Rattle.std.proofs.Common.{◌≡◌, ◌+◌, ◌*◌, ◌^◌, ◌<◌, ◌≤◌, get_or}
use Rattle.depth_index.specs.Tree.{left_of}
use Rattle.depth_index.proofs.tree.first_reaching.Given as goal

-- what is sought is reached under this node, and in no node left of it
abbrev pub invariant-loop-row : goal.invariant-loop-row
invariant-loop-row g l =
    record {
      first : 2 ^ l._row ≤ l.node;
      last : l.node < 2 * 2 ^ l._row;
      sum : left_of l.sums l._row l.node + l.rest ≡ l.least;
      reached : l.rest ≤ get_or l.sums l.node 0;
      before : 2 ^ l._row < l.node → 1 ≤ l.rest;
      steps : l.steps ≡ l.fn.steps + l._row;
    }
