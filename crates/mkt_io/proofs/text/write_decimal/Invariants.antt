use Rattle.std.proofs.Common.{◌≡◌, ◌++◌, ◌≤◌, length, drop}
use Rattle.std.specs.Fmt.{decimal}
use Rattle.mkt_io.proofs.text.write_decimal.Given as goal

-- the last digits are written, those of what is left are not
abbrev pub invariant-loop-rest : goal.invariant-loop-rest
invariant-loop-rest l = record {
  left : l.at ≡ length (decimal l.rest);
  within : l.at ≤ length l.out;
  written : decimal l.rest ++ drop l.at l.out ≡ decimal l.n;
}

abbrev pub decreases-loop-rest : goal.decreases-loop-rest
decreases-loop-rest l = l.rest
