use Rattle.std.proofs.Common.{◌≡◌, take}
use Rattle.all_gather.proofs.gathered.are_same.Given as goal

-- the words so far are the same
abbrev pub invariant-loop-place : goal.invariant-loop-place
invariant-loop-place l = take l.place l.a ≡ take l.place l.b
