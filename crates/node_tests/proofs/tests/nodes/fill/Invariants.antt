use Rattle.std.proofs.Common.{◌≡◌, ◌+◌, ◌≤◌, length}
use Rattle.node_tests.proofs.tests.nodes.fill.Given as goal

abbrev pub invariant-loop-n : goal.invariant-loop-n
invariant-loop-n g l =
    (length (g.N.MemoryNode.contents l.node) ≡ l.n) × (3 ≤ length (g.N.MemoryNode.contents l.node) + g.N.MemoryNode.spare l.node)
    × (g.N.MemoryNode.label l.node ≡ g.N.MemoryNode.label l.fn.node)
