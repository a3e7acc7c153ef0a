use Rattle.std.proofs.Common.{map, sym, ap, ◌∙◌, arith}
use Rattle.tick_grid.specs.Rows.{grid_of, price_of}
use Rattle.tick_grid.proofs.RowLemmas.{Passed-none, Passed-taken, Passed-left, listed-more, prices-none, prices-all}
use Rattle.tick_grid.proofs.build.list_on_tick.Goals as goal
use Rattle.tick_grid.proofs.build.list_on_tick.Goals.{then-from-to+in_ok-push_multiples, else-from-to}

pub loop-row-init : goal.loop-row-init
loop-row-init c = record {
  passed = Passed-none c.args.ticks.now c.args.low c.args.high;
  listed = c.in_ok-prices.ensures.items ∙ sym (ap (map price_of) (prices-none c.args.ticks.now c.args.low));
}

pub loop-row-preserved : goal.loop-row-preserved
loop-row-preserved c =
    let rows = c.args.ticks.now in
    let low = c.args.low in
    let high = c.args.high in
    let i = c.loop-row.row-index in
    let passed = c.loop-row.invariant.passed in
    elim c.if-from-to.branch [
      | then-from-to+in_ok-push_multiples w ↦ rw (w.prices-is, w.from-is) (record {
        passed = Passed-taken rows low high c.loop-row.from i c.min-to.result _ passed (omega arith) c.min-to.ensures w.if-from-to.true;
        listed = listed-more rows low high c.loop-row.from i c.min-to.result _ c.loop-row.prices.items _ passed (omega arith) c.min-to.ensures w.if-from-to.true c.loop-row.invariant.listed w.in_ok-push_multiples.ensures;
      })
      | else-from-to w ↦ rw (w.prices-is, w.from-is) (record {
        passed = Passed-left rows low high c.loop-row.from i c.min-to.result _ passed (omega arith) c.min-to.ensures w.if-from-to.false;
        listed = c.loop-row.invariant.listed;
      })
    ]

pub returns : goal.returns
unfolding grid_of
returns c =
    let all = prices-all c.args.ticks.now c.args.low c.args.high c.loop-row.from c.loop-row.row-index (record { upto = 0; tick = 0 }) c.requires.rows c.requires.high c.loop-row.invariant.passed (omega arith) in
    c.loop-row.invariant.listed ∙ ap (map price_of) all
