use Rattle.std.proofs.Common.{◌≡◌, take}
use Rattle.turn_writer.specs.Went.{without}
use Rattle.turn_writer.proofs.lost.Lost.without.Given as goal

-- those of the places until now that are others
abbrev pub invariant-loop-i : goal.invariant-loop-i
invariant-loop-i l = (l.number ≡ l.fn.k) × (l.rest ≡ without l.number (take l.i l.self))
