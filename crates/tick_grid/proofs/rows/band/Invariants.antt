use Rattle.std.proofs.Common.{ℕ, ◌<◌, ◌≤◌, get_or}
use Rattle.tick_grid.specs.declared.rows.BandRow.{BandRow}
use Rattle.tick_grid.proofs.rows.band.Given as goal

-- p is not below the bounds of the rows so far
abbrev pub invariant-loop-row : goal.invariant-loop-row
invariant-loop-row l = (k : ℕ) (d : BandRow) → k < l.row-index → (get_or l.rows k d).below ≤ l.p.0
