use Rattle.std.proofs.Common.{◌≡◌, drop}
use Rattle.record_codec.specs.Check.{first_false}
use Rattle.record_codec.proofs.check.first_false.Given as goal

abbrev pub invariant-loop-check : goal.invariant-loop-check
invariant-loop-check l = first_false (drop l.check-index l.checks) ≡ first_false l.checks
