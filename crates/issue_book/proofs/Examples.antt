-- Worked examples: the definitions compute to what a reader of the rules would say.
use Rattle.std.proofs.Common.{◌≡◌, ℕ, true, false, List, [], ◌∷◌, map, Some, refl}
use Rattle.mkt_base.specs.Book.{total_left}
use Rattle.mkt_base.specs.declared.order.Order.{Order}
use Rattle.mkt_base.specs.declared.order.Side.{Side}
use Rattle.mkt_base.specs.declared.order.Side.TheVariants.{Buy, Sell}
use Rattle.mkt_base.specs.declared.order.Spot.{Spot}
use Rattle.mkt_base.specs.declared.order.Spot.TheVariants.{Market, At}
use Rattle.mkt_base.specs.declared.units.Price.{Price}
use Rattle.allotment.specs.declared.round.Round.TheVariants.{Units, All}
use Rattle.tick_grid.specs.Grid.{ceil_of, floor_of}
use Rattle.tick_grid.specs.Range.{down_of, greatest_upto, least_from, up_of}
use Rattle.itayose.specs.declared.margin.Margin.TheVariants.{Time, Rounds}
use Rattle.issue_book.specs.Entering.{lower, take_out}
use Rattle.issue_book.specs.Filled.{left_of}
use Rattle.issue_book.specs.Limits.{first_limit}
use Rattle.issue_book.specs.Sessions.{around_last, close_margin, is_allotted}
use Rattle.issue_book.specs.State.{State, Terms, start}

abbrev price : ℕ → Price
price p = record { 0 = p }

-- five prices from 20000 to 20400, and a range of 100
abbrev terms : Terms
terms =
    record {
      grid = price 20000 ∷ price 20100 ∷ price 20200 ∷ price 20300 ∷ price 20400 ∷ [];
      base = 20200;
      unit = 100;
      ranges = record { below = 1000000001; value = 100 } ∷ [];
      sessions = [];
      rounds = Units 1 ∷ All ∷ [];
      special_ms = 180000;
      sequential_ms = 60000;
    }

-- an order of caller 1, whose own number is its place
abbrev order : ℕ → Side → Spot → ℕ → Order
order place side spot left =
    record { place = place; caller = record { 0 = 1 }; own = place; participant = record { 0 = 0 }; side = side; spot = spot; left = left }

abbrev holding : List Order → State
holding os = record (start terms) { orders = os }

-- a book with more buys than sells at the upper limit
abbrev many_buys : State
many_buys = holding (order 0 Buy Market 300 ∷ order 1 Sell (At 4) 100 ∷ order 2 Buy (At 4) 500 ∷ [])

-- the opening tries one range down and up from the last price
opening : around_last terms (start terms) ≡ record { reference = 20200; lo = 20100; hi = 20300 }
unfolding up_of down_of greatest_upto least_from floor_of ceil_of
opening = refl

-- at the upper limit, with more buys there, a close shares by rounds, and at no other price
by_rounds_at_the_limit : close_margin terms 20400 many_buys ≡ Rounds
unfolding total_left
by_rounds_at_the_limit = refl

by_time_elsewhere : close_margin terms 20300 many_buys ≡ Time
unfolding total_left
by_time_elsewhere = refl

-- a close that buyers press at the upper limit is allotted where there is a sell, and not elsewhere
allotted : is_allotted terms Buy 20400 many_buys ≡ true
allotted = refl

not_below_the_limit : is_allotted terms Buy 20300 many_buys ≡ false
not_below_the_limit = refl

-- the first limit behind a market order
behind_the_market : first_limit (order 0 Buy Market 300 ∷ order 2 Buy (At 4) 500 ∷ []) ≡ Some 4
behind_the_market = refl

-- an order that is lowered keeps its place, and one that is taken out has nothing left
lowered_in_place : map (λ o. o.place) (lower (record { 0 = 1 }) 1 50 many_buys).orders ≡ 0 ∷ 1 ∷ 2 ∷ []
lowered_in_place = refl

lowered_to : left_of (record { 0 = 1 }) 1 (lower (record { 0 = 1 }) 1 50 many_buys) ≡ 50
lowered_to = refl

taken_out : left_of (record { 0 = 1 }) 1 (take_out (record { 0 = 1 }) 1 many_buys) ≡ 0
taken_out = refl
