-- Worked examples: the definitions compute to what a reader of the rules would say.
use Rattle.std.specs.Prelude.{◌≡◌, List, [], ◌∷◌, Some, None, refl}
use Rattle.tick_grid.specs.Grid.{ceil_of, floor_of, index_of}
use Rattle.tick_grid.specs.Range.{down_of, greatest_upto, least_from, up_of}
use Rattle.tick_grid.specs.Rows.{band_of, grid_of, prices_on_tick}
use Rattle.tick_grid.specs.declared.rows.BandRow.{BandRow}
use Rattle.tick_grid.specs.declared.rows.TickRow.{TickRow}

-- ticks of 10 up to 30000, and of 50 above
abbrev ticks : List TickRow
ticks = record { upto = 30000; tick = 10 } ∷ record { upto = 1000000000; tick = 50 } ∷ []

-- ranges of 300 below 15000, of 400 below 20000, and of 500 above
abbrev ranges : List BandRow
ranges = record { below = 15000; value = 300 } ∷ record { below = 20000; value = 400 } ∷ record { below = 1000000001; value = 500 } ∷ []

-- a range that is less than a tick
abbrev narrow : List BandRow
narrow = record { below = 1000000001; value = 5 } ∷ []

across_a_bound : prices_on_tick ticks 29990 30100 ≡ 29990 ∷ 30000 ∷ 30050 ∷ 30100 ∷ []
unfolding prices_on_tick
across_a_bound = refl

no_price_between : prices_on_tick ticks 30001 30049 ≡ []
unfolding prices_on_tick
no_price_between = refl

-- a row ends below its bound
at_a_bound : band_of ranges 14999 ≡ 300
at_a_bound = refl

above_a_bound : band_of ranges 15000 ≡ 400
above_a_bound = refl

floor_between_two_prices : floor_of (grid_of ticks 29990 30100) 30049 ≡ Some 1
unfolding floor_of grid_of prices_on_tick
floor_between_two_prices = refl

ceil_between_two_prices : ceil_of (grid_of ticks 29990 30100) 30001 ≡ Some 2
unfolding ceil_of grid_of prices_on_tick
ceil_between_two_prices = refl

index_off_the_grid : index_of (grid_of ticks 29990 30100) 30010 ≡ None
unfolding index_of grid_of prices_on_tick
index_off_the_grid = refl

-- 500 above 20000, and 400 below 19990
one_range_up : up_of (grid_of ticks 19500 20700) ranges 20000 ≡ 20500
unfolding up_of greatest_upto least_from floor_of ceil_of grid_of prices_on_tick
one_range_up = refl

one_range_down : down_of (grid_of ticks 19500 20700) ranges 19990 ≡ 19590
unfolding down_of greatest_upto least_from floor_of ceil_of grid_of prices_on_tick
one_range_down = refl

-- at least to the next price, and not past the end
up_by_a_tick : up_of (grid_of ticks 29990 30100) narrow 30000 ≡ 30050
unfolding up_of greatest_upto least_from floor_of ceil_of grid_of prices_on_tick
up_by_a_tick = refl

down_to_the_end : down_of (grid_of ticks 29990 30100) ranges 30050 ≡ 29990
unfolding down_of greatest_upto least_from floor_of ceil_of grid_of prices_on_tick
down_to_the_end = refl

up_at_the_end : up_of (grid_of ticks 29990 30100) ranges 30100 ≡ 30100
unfolding up_of greatest_upto least_from floor_of ceil_of grid_of prices_on_tick
up_at_the_end = refl
