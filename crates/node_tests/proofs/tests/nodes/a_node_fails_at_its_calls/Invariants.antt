use Rattle.std.proofs.Common.{◌≡◌, ◌+◌, ◌-◌, length, vec_len}
use Rattle.node_tests.proofs.tests.nodes.a_node_fails_at_its_calls.Given as goal

-- what the node holds and what it has room for are 4 records
abbrev pub invariant-loop-act : goal.invariant-loop-act
invariant-loop-act g l = length l.node.records.items + (l.node.room - vec_len l.node.records) ≡ 4
