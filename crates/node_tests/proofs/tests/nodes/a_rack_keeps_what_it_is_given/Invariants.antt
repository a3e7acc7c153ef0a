use Rattle.memory_node.specs.Slots.{IsOut}
use Rattle.memory_node.specs.declared.node.Label.{Label}
use Rattle.node_tests.proofs.tests.nodes.a_rack_keeps_what_it_is_given.Given as goal

-- no node is out
abbrev pub invariant-loop-issue : goal.invariant-loop-issue
invariant-loop-issue g l = (m : Label) → IsOut l.rack.slots.items m → ⊥
