use Rattle.std.proofs.Common.{◌≡◌, ◌+◌, length}
use Rattle.mirror_tests.proofs.tests.mirrors.played.Given as goal

-- what each node holds and has room for are 8 records
abbrev pub invariant-loop-i : goal.invariant-loop-i
invariant-loop-i g l =
    (length l.mirror.first.contents + l.mirror.first.spare ≡ 8) × (length l.mirror.second.contents + l.mirror.second.spare ≡ 8)
    × (length l.mirror.third.contents + l.mirror.third.spare ≡ 8)
