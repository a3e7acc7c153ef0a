use Rattle.std.proofs.Common.{◌≡◌, map, take}
use Rattle.audit.specs.Told.{shown}
use Rattle.audit.proofs.shows.pick.Given as goal

-- the reads so far
abbrev pub invariant-loop-a : goal.invariant-loop-a
invariant-loop-a l = l.shows.items ≡ map (shown l.rules l.issues) (take l.a-index l.asked)
