use Rattle.std.proofs.Common.{◌≡◌, map}
use Rattle.tick_grid.specs.Rows.{price_of}
use Rattle.tick_grid.proofs.RowLemmas.{Passed, prices_before}
use Rattle.tick_grid.proofs.build.list_on_tick.Given as goal

-- what is on tick below `from` is listed
abbrev pub invariant-loop-row : goal.invariant-loop-row
invariant-loop-row l = record {
  passed : Passed l.ticks l.low l.high l.from l.row-index;
  listed : l.prices.items ≡ map price_of (prices_before l.ticks l.low l.from);
}
