use Rattle.std.proofs.Common.{◌≡◌, length}
use Rattle.tick_grid.proofs.RowLemmas.{Passed, prices_before}
use Rattle.tick_grid.proofs.build.count_on_tick.Given as goal

-- what is on tick below `from` is counted
abbrev pub invariant-loop-row : goal.invariant-loop-row
invariant-loop-row l = record {
  passed : Passed l.ticks l.low l.high l.from l.row-index;
  counted : l.count ≡ length (prices_before l.ticks l.low l.from);
}
