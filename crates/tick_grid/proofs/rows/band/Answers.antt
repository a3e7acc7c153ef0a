use Rattle.std.proofs.Common.{◌-◌, length, sym, arith}
use Rattle.tick_grid.specs.declared.rows.BandRow.{BandRow}
use Rattle.tick_grid.proofs.RowLemmas.{band_of-at}
use Rattle.tick_grid.proofs.rows.band.Goals as goal

abbrev no_row : BandRow
no_row = record { below = 0; value = 0 }

pub returns-then-p-row-clause-exact : goal.returns-then-p-row-clause-exact
returns-then-p-row-clause-exact c =
    sym (band_of-at c.args.rows.now c.loop-row.row-index c.args.p.0 no_row c.loop-row-test.true (λ k less. c.loop-row.invariant k no_row less) c.if-p-row.true)

-- p is below the bound of the last row
pub unreachable-requires : goal.unreachable-requires
unreachable-requires c =
    let rows = c.args.rows.now in
    omega (arith, c.requires.rows.last no_row, c.loop-row.invariant (length rows - 1) no_row (omega (arith, c.requires.rows.some, c.loop-row-test.false)), c.requires.price)
