-- Renewals by the range at a price: at least to the next price of the grid, and not past its ends.
use Rattle.std.specs.Prelude.{ℕ, ◌+◌, ◌-◌, ◌==◌, min, max, List, if◌then◌else◌}
use Rattle.std.specs.Option.{option_map_or}
use Rattle.mkt_base.specs.Book.{price_at}
use Rattle.mkt_base.specs.declared.units.Price.{Price}
use Rattle.tick_grid.specs.Grid.{ceil_of, first_price, floor_of, last_price}
use Rattle.tick_grid.specs.Rows.{band_of}
use Rattle.tick_grid.specs.declared.rows.BandRow.{BandRow}

-- the greatest price not above p; 0 where there is none
unfoldable pub greatest_upto : List Price → ℕ → ℕ
greatest_upto prices p = option_map_or (price_at prices) (floor_of prices p) 0

-- the least price not below p; where there is none, the last price
unfoldable pub least_from : List Price → ℕ → ℕ
least_from prices p = option_map_or (price_at prices) (ceil_of prices p) (last_price prices)

-- the last price stays; any other goes to the greatest price within its range above it, or to the next one if that is greater
unfoldable pub up_of : List Price → List BandRow → ℕ → ℕ
up_of prices ranges p =
    if p == last_price prices then p else max (greatest_upto prices (p + band_of ranges p)) (least_from prices (p + 1))

-- the first price stays; any other goes to the least price within its range below it, or to the next one if that is less
unfoldable pub down_of : List Price → List BandRow → ℕ → ℕ
down_of prices ranges p =
    if p == first_price prices then p else min (least_from prices (p - band_of ranges p)) (greatest_upto prices (p - 1))
