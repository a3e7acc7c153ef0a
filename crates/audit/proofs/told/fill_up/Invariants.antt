use Rattle.std.proofs.Common.{◌≡◌, ◌-◌, length}
use Rattle.audit.specs.Told.{filled_up}
use Rattle.audit.proofs.told.fill_up.Given as goal

-- the issues that are left make them all
abbrev pub invariant-loop-alloc : goal.invariant-loop-alloc
invariant-loop-alloc l = filled_up l.issues l.done.items ≡ filled_up l.issues l.fn.done.items

abbrev pub decreases-loop-alloc : goal.decreases-loop-alloc
decreases-loop-alloc l = l.issues - length l.done.items
