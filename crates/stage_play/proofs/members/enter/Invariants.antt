use Rattle.std.proofs.Common.{◌≡◌, ◌+◌, ◌≤◌, ◌++◌, length, map, vec_capacity}
use Rattle.stage_play.proofs.members.enter.Given as goal

-- what has come so far, and room for the rest
abbrev pub invariant-loop-part : goal.invariant-loop-part
invariant-loop-part g l =
    (l.fn.parts.items ≡ map (λ m. m.part) l.members.items ++ l.part-iterator.rest.items)
    × (length l.members.items + length l.part-iterator.rest.items ≤ vec_capacity l.members)
