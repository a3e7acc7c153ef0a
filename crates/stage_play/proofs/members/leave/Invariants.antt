use Rattle.std.proofs.Common.{◌≡◌, ◌+◌, ◌≤◌, ◌++◌, length, map, vec_capacity}
use Rattle.stage_play.proofs.members.leave.Given as goal

-- what has left so far, and room for the rest
abbrev pub invariant-loop-member : goal.invariant-loop-member
invariant-loop-member g l =
    (map (λ m. m.part) l.fn.members.items ≡ l.parts.items ++ map (λ m. m.part) l.member-iterator.rest.items)
    × (length l.parts.items + length l.member-iterator.rest.items ≤ vec_capacity l.parts)
