-- Laws of grids: each is the clause of a function of the same name.
use Rattle.std.specs.Prelude.{◌≡◌, ℕ, ◌<◌, ◌≤◌, List, length, All, MatchOption, Some}
use Rattle.mkt_base.specs.Book.{IsRising, price_at}
use Rattle.mkt_base.specs.declared.units.Price.{Price}
use Rattle.tick_grid.specs.Grid.{IsGreatestUpto, IsLeastFrom, ceil_of, first_price, floor_of, index_of, last_price}
use Rattle.tick_grid.specs.Rows.{grid_of}
use Rattle.tick_grid.specs.declared.rows.TickRow.{TickRow}

-- the grid from the first to the last price of a grid of rows is the same grid
abbrev pub GridBetweenItsEnds : Type 0
GridBetweenItsEnds = (rows : List TickRow) (low high : ℕ) → 1 ≤ length (grid_of rows low high)
    → grid_of rows (first_price (grid_of rows low high)) (last_price (grid_of rows low high)) ≡ grid_of rows low high

-- in a rising list each price is found at its position
abbrev pub PositionsAreFound : Type 0
PositionsAreFound = (prices : List Price) (i : ℕ) → IsRising prices → i < length prices → index_of prices (price_at prices i) ≡ Some i

-- in a rising list the position that is found holds the greatest price not above p; where none is, all are above it
abbrev pub FloorIsGreatest : Type 0
FloorIsGreatest = (prices : List Price) (p : ℕ) → IsRising prices
    → MatchOption (floor_of prices p) (All (λ q. p < q.0) prices) (IsGreatestUpto prices p)

-- the position that is found holds the least price not below p, all before it being below; where none is, all are below it
abbrev pub CeilIsLeast : Type 0
CeilIsLeast = (prices : List Price) (p : ℕ) → MatchOption (ceil_of prices p) (All (λ q. q.0 < p) prices) (IsLeastFrom prices p)
