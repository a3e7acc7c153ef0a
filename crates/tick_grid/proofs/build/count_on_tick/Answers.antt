use Rattle.std.proofs.Common.{◌+◌, ◌<◌, ◌^◌, length, sym, ap, ◌∙◌, arith, rules}
use Rattle.tick_grid.proofs.RowLemmas.{Passed-none, Passed-taken, Passed-left, counted-more, length-grid_of, prices-none, prices-all, prices_before-few}
use Rattle.tick_grid.proofs.build.count_on_tick.Goals as goal
use Rattle.tick_grid.proofs.build.count_on_tick.Goals.{then-from-to, else-from-to}

pub loop-row-init : goal.loop-row-init
loop-row-init c = record {
  passed = Passed-none c.args.ticks.now c.args.low c.args.high;
  counted = sym (ap length (prices-none c.args.ticks.now c.args.low));
}

pub overflow_add-count : goal.overflow_add-count
overflow_add-count c =
    let few = prices_before-few c.args.ticks.now c.args.low c.loop-row.from in
    let sum : c.loop-row.count + c.from-count.result < 2 ^ 64 =
    omega (arith, few, c.loop-row.invariant.counted, c.loop-row.invariant.passed.upto, c.count_multiples.type_inv, c.from-count.ensures) in
    search rules

pub loop-row-preserved : goal.loop-row-preserved
loop-row-preserved c =
    let rows = c.args.ticks.now in
    let low = c.args.low in
    let high = c.args.high in
    let i = c.loop-row.row-index in
    let passed = c.loop-row.invariant.passed in
    elim c.if-from-to.branch [
      | then-from-to w ↦ rw (w.count-is, w.from-is) (record {
        passed = Passed-taken rows low high c.loop-row.from i c.min-to.result _ passed (omega arith) c.min-to.ensures w.if-from-to.true;
        counted = omega (
          arith,
          c.loop-row.invariant.counted,
          w.count_multiples.ensures,
          w.from-count.ensures,
          counted-more rows low high c.loop-row.from i c.min-to.result _ passed (omega arith) c.min-to.ensures w.if-from-to.true,
        );
      })
      | else-from-to w ↦ rw (w.count-is, w.from-is) (record {
        passed = Passed-left rows low high c.loop-row.from i c.min-to.result _ passed (omega arith) c.min-to.ensures w.if-from-to.false;
        counted = c.loop-row.invariant.counted;
      })
    ]

pub returns : goal.returns
returns c =
    let all = prices-all c.args.ticks.now c.args.low c.args.high c.loop-row.from c.loop-row.row-index (record { upto = 0; tick = 0 }) c.requires.rows c.requires.high c.loop-row.invariant.passed (omega arith) in
    c.loop-row.invariant.counted ∙ ap length all ∙ sym (length-grid_of c.args.ticks.now c.args.low c.args.high)
