-- Grids of evenly spaced prices.
use Rattle.std.specs.Prelude.{ℕ, ◌+◌, ◌-◌, ◌*◌, ◌/◌, ◌^◌, ◌≤◌, ◌==◌, List, Option, map, position}
use Rattle.std.specs.List.{range_with_len}
use Rattle.mkt_base.specs.declared.units.Price.{Price}

-- the numbers of a grid
pub record EvenGrid : Type 0 where
  pub low : ℕ
  pub tick : ℕ
  pub count : ℕ

-- by so many parts of 2^32 a step is no more than one, and no price of a grid needs the rest of them
abbrev pub scale_of : ℕ → ℕ
scale_of tick = 2 ^ 32 / tick + 1

-- the prices LOW, LOW + TICK and so on, COUNT of them
unfoldable pub grid_prices : EvenGrid → List Price
grid_prices grid = map (λ i. record { 0 = grid.low + i * grid.tick }) (range_with_len 0 grid.count)

-- the position of a price, where it is on the grid
unfoldable pub position_on : EvenGrid → ℕ → Option ℕ
position_on grid p = position (λ price. price.0 == p) (grid_prices grid)

-- the ranges of a grid's numbers, and of its last price
pub record IsEvenGrid (grid : EvenGrid) : Type 0 where
  pub low : 1 ≤ grid.low
  pub tick : 1 ≤ grid.tick
  pub tick_limit : grid.tick ≤ 1000000
  pub count : 1 ≤ grid.count
  pub count_limit : grid.count ≤ 20000
  pub last : grid.low + (grid.count - 1) * grid.tick ≤ 1000000000
