-- Rows of ticks and of bands, as a rules file is accepted with them, and what they say of a price.
use Rattle.std.specs.Prelude.{◌≡◌, ℕ, ◌+◌, ◌-◌, ◌%◌, ◌==◌, ◌<◌, ◌≤◌, Bool, false, List, length, map, filter, find, nat_lt, nat_le, slice_index_or, All}
use Rattle.std.specs.List.{AllAdjacentBelow, range_with_len}
use Rattle.std.specs.Option.{option_map_or}
use Rattle.mkt_base.specs.declared.units.Price.{Price}
use Rattle.tick_grid.specs.declared.rows.TickRow.{TickRow}
use Rattle.tick_grid.specs.declared.rows.BandRow.{BandRow}

-- tick rows: their bounds rise to 1,000,000,000, each a multiple of its own tick and of the next row's
pub record AreTickRows (rows : List TickRow) : Type 0 where
  pub some : 0 < length rows
  pub ticks : All (λ row. (1 ≤ row.tick) × (row.tick ≤ 1000000)) rows
  pub rising : AllAdjacentBelow (λ row next. row.upto < next.upto) rows (length rows)
  pub own : All (λ row. row.upto % row.tick ≡ 0) rows
  pub next : AllAdjacentBelow (λ row next. row.upto % next.tick ≡ 0) rows (length rows)
  pub last : (d : TickRow) → (slice_index_or rows (length rows - 1) d).upto ≡ 1000000000

-- band rows: their bounds rise to 1,000,000,001
pub record AreBandRows (rows : List BandRow) : Type 0 where
  pub some : 0 < length rows
  pub values : All (λ row. (1 ≤ row.value) × (row.value ≤ 1000000000)) rows
  pub rising : AllAdjacentBelow (λ row next. row.below < next.below) rows (length rows)
  pub last : (d : BandRow) → (slice_index_or rows (length rows - 1) d).below ≡ 1000000001

-- p is a multiple of the tick of the first row whose bound it is not above
abbrev pub is_on_tick : List TickRow → ℕ → Bool
is_on_tick rows p = option_map_or (λ row. p % row.tick == 0) (find (λ row. nat_le p row.upto) rows) false

-- the prices on tick from low to high, rising
unfoldable pub prices_on_tick : List TickRow → ℕ → ℕ → List ℕ
prices_on_tick rows low high = filter (is_on_tick rows) (range_with_len low (high + 1 - low))

-- a number as a price
abbrev pub price_of : ℕ → Price
price_of p = record { 0 = p }

-- the same as a list of prices
unfoldable pub grid_of : List TickRow → ℕ → ℕ → List Price
grid_of rows low high = map price_of (prices_on_tick rows low high)

-- of the n numbers from `from` on, those that are multiples of the tick
unfoldable pub multiples : ℕ → ℕ → ℕ → List ℕ
multiples tick from n = filter (λ p. p % tick == 0) (range_with_len from n)

-- the value of the first row whose bound p is below; 0 where there is none
abbrev pub band_of : List BandRow → ℕ → ℕ
band_of rows p = option_map_or (λ row. row.value) (find (λ row. nat_lt p row.below) rows) 0
