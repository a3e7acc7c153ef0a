use Rattle.std.proofs.Common.{arith}
use Rattle.mkt_io.proofs.DecimalLemmas.{length-decimal-more, length-decimal-most}
use Rattle.mkt_io.proofs.text.digit_count.Goals as goal

pub loop-rest-init : goal.loop-rest-init
loop-rest-init c = record {
  counted = omega arith;
  few = omega (arith, length-decimal-most c.args.n (omega arith));
}

pub loop-rest-preserved : goal.loop-rest-preserved
loop-rest-preserved c =
    let more = length-decimal-more c.loop-rest.rest (omega arith) (omega arith) in
    record {
      counted = omega (arith, more, c.loop-rest.invariant.counted);
      few = omega (arith, more, c.loop-rest.invariant.few);
    }
