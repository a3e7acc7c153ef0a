use Rattle.std.proofs.Common.{◌≡◌, ◌≤◌, length, subst, sym, rules, arith}
use Rattle.tick_grid.specs.Grid.{IsGrid}
use Rattle.tick_grid.specs.Rows.{grid_of}
use Rattle.tick_grid.proofs.RowLemmas.{grid_of-IsGrid}
use Rattle.tick_grid.proofs.grid.Grid.build.Goals as goal

pub invariant_of-result : goal.invariant_of-result
invariant_of-result c =
    let prices = grid_of c.args.ticks.now c.args.low.0 c.args.high.0 in
    let listed : c.in_ok-prices.prices.items ≡ prices = search rules in
    let some : 1 ≤ length prices = omega (arith, c.count_on_tick-count.ensures, c.if-count-eq0.false) in
    let few : length prices ≤ 20000 = omega (arith, c.count_on_tick-count.ensures, c.if-count-gt-MAX_PRICES.false) in
    subst IsGrid (sym listed) (grid_of-IsGrid c.args.ticks.now c.args.low.0 c.args.high.0 c.requires.low c.requires.high some few)

pub returns-clause-stands : goal.returns-clause-stands
returns-clause-stands c =
    let prices = grid_of c.args.ticks.now c.args.low.0 c.args.high.0 in
    let listed : c.in_ok-prices.prices.items ≡ prices = search rules in
    let some : 1 ≤ length prices = omega (arith, c.count_on_tick-count.ensures, c.if-count-eq0.false) in
    let few : length prices ≤ 20000 = omega (arith, c.count_on_tick-count.ensures, c.if-count-gt-MAX_PRICES.false) in
    subst IsGrid (sym listed) (grid_of-IsGrid c.args.ticks.now c.args.low.0 c.args.high.0 c.requires.low c.requires.high some few)
