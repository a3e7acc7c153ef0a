use Rattle.std.proofs.Common.{◌≡◌, ℕ, ◌-◌, ◌+◌, vec_len}
use Rattle.memory_node.specs.Slots.{told_at}
use Rattle.memory_node.proofs.slots.grow.Given as goal

abbrev pub invariant-loop-slots : goal.invariant-loop-slots
invariant-loop-slots l = (i : ℕ) → told_at l.slots.items i ≡ told_at l.fn.slots.items i

abbrev pub decreases-loop-slots : goal.decreases-loop-slots
decreases-loop-slots l = l.place + 1 - vec_len l.slots
