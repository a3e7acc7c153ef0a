use Rattle.std.proofs.Common.{◌≡◌, ◌≤◌, ◌-◌, length, take}
use Rattle.text_match.proofs.matcher.common.Given as goal

-- so many bytes are the same
abbrev pub invariant-loop-n : goal.invariant-loop-n
invariant-loop-n l = record {
  within_a : l.n ≤ length l.a;
  within_b : l.n ≤ length l.b;
  same : take l.n l.a ≡ take l.n l.b;
}

abbrev pub decreases-loop-n : goal.decreases-loop-n
decreases-loop-n l = length l.a - l.n
