use Rattle.std.proofs.Common.{◌+◌, drop, get_or, arith}
use Rattle.std.proofs.lemmas.List.{drop_more}
use Rattle.text_match.proofs.LineLemmas.{lines-byte, lines-end, lines-no_byte}
use Rattle.text_match.proofs.line.count_lines.Goals as goal
use Rattle.text_match.proofs.line.count_lines.Goals.{else-b-eq10, then-b-eq10}

pub loop-b-preserved : goal.loop-b-preserved
loop-b-preserved c =
    let bytes = c.args.bytes.now in
    let i = c.loop-b.b-index in
    let left = drop_more bytes i 0 c.loop-b-test.true in
    elim c.if-b-eq10.branch [
      | then-b-eq10 w ↦ record {
        all = rw w.n-is (lines-byte bytes i c.loop-b.n (get_or bytes i 0) (drop (i + 1) bytes) left w.if-b-eq10.true c.loop-b.invariant.all);
        few = omega (arith, w.n-is, c.loop-b.invariant.few);
      }
      | else-b-eq10 w ↦ record {
        all = rw w.n-is (lines-no_byte bytes i c.loop-b.n (get_or bytes i 0) (drop (i + 1) bytes) left w.if-b-eq10.false c.loop-b.invariant.all);
        few = omega (arith, w.n-is, c.loop-b.invariant.few);
      }
    ]

pub returns-clause-count : goal.returns-clause-count
returns-clause-count c = lines-end c.args.bytes.now c.loop-b.b-index c.loop-b.n c.loop-b-test.false c.loop-b.invariant.all
