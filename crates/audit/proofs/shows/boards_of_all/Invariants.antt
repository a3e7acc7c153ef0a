use Rattle.std.proofs.Common.{◌≡◌, ◌++◌, drop}
use Rattle.audit.specs.Told.{boards_on}
use Rattle.audit.proofs.shows.boards_of_all.Given as goal

-- the boards so far, and those of the issues that are left
abbrev pub invariant-loop-i : goal.invariant-loop-i
invariant-loop-i l = l.all.items ++ boards_on l.rules l.i (drop l.i l.issues) ≡ boards_on l.rules 0 l.issues
