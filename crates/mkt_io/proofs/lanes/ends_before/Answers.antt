use mir.Val.{bool_byte}
use Rattle.std.proofs.Common.{◌≤◌, Bool, true, false, arith}
use Rattle.mkt_io.proofs.EndsLemmas.{ends-fit}
use Rattle.mkt_io.proofs.lanes.ends_before.Goals as goal

at-most-one : (b : Bool) → bool_byte b ≤ 1
at-most-one true = omega arith
at-most-one false = omega arith

pub overflow_mul-ends : goal.overflow_mul-ends
overflow_mul-ends c =
    omega (arith, c.loop-at.invariant.ends, ends-fit c.args.line.now c.loop-at.at 63 (omega (arith, c.requires.short, c.loop-at-test.true)) c.loop-at.invariant.within)

pub overflow_add-ends : goal.overflow_add-ends
overflow_add-ends c =
    omega (arith, at-most-one c.is_blank.result, c.loop-at.invariant.ends, ends-fit c.args.line.now c.loop-at.at 63 (omega (arith, c.requires.short, c.loop-at-test.true)) c.loop-at.invariant.within)
