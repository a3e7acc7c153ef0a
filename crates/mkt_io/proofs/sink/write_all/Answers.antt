use Rattle.std.proofs.Common.{arith, rules}
use Rattle.std.proofs.lemmas.List.{take_rest}
use Rattle.mkt_io.proofs.KnownLemmas.{Appends-more}
use Rattle.mkt_io.proofs.sink.write_all.Goals as goal

pub loop-written-preserved : goal.loop-written-preserved
loop-written-preserved g c =
    let l = c.loop-written in
    let bytes = c.args.bytes.now in
    record {
      within = search rules;
      appended = Appends-more _ _ _ l.written c.in-Ok.n bytes l.invariant.appended (rw (take_rest bytes l.written) at c.in-Ok.ensures.appended);
      count = omega (arith, c.write.ensures.count, l.invariant.count);
    }
