use Rattle.std.proofs.Common.{◌≡◌, ◌%◌, ◌≤◌, length, drop}
use Rattle.mkt_io.specs.Ends.{ends_of}
use Rattle.mkt_io.proofs.lanes.ends_of.Given as goal

-- the ends in what stands from here on, and only whole pieces before it
abbrev pub invariant-loop-at : goal.invariant-loop-at
invariant-loop-at l = record {
  ends : l.ends ≡ ends_of (drop l.at l.line);
  within : l.at ≤ length l.line;
  whole : l.at % 16 ≡ 0;
}

abbrev pub decreases-loop-at : goal.decreases-loop-at
decreases-loop-at l = l.at
