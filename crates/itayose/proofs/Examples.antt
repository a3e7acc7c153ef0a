-- Worked examples: the definitions compute to what a reader of the rules would say.
use Rattle.std.specs.Prelude.{◌≡◌, ℕ, true, false, List, [], ◌∷◌, refl}
use Rattle.mkt_base.specs.Book.{total_left}
use Rattle.mkt_base.specs.Fills.{filled_at, from_front, less_front, pair, quantity}
use Rattle.mkt_base.specs.Priority.{in_priority}
use Rattle.mkt_base.specs.declared.order.Order.{Order}
use Rattle.mkt_base.specs.declared.order.Side.{Side}
use Rattle.mkt_base.specs.declared.order.Side.TheVariants.{Buy, Sell}
use Rattle.mkt_base.specs.declared.order.Spot.{Spot}
use Rattle.mkt_base.specs.declared.order.Spot.TheVariants.{Market, At}
use Rattle.mkt_base.specs.declared.units.Price.{Price}
use Rattle.mkt_base.specs.declared.auction.Sums.{Sums}
use Rattle.allotment.specs.Allotment.{after_round, allot}
use Rattle.allotment.specs.declared.demand.Demand.{Demand}
use Rattle.allotment.specs.declared.round.Round.{Round}
use Rattle.allotment.specs.declared.round.Round.TheVariants.{Units, Part, All}
use Rattle.book_law.specs.Paired.{trade_of}
use Rattle.itayose.specs.Fills.{allotted_fills, auction_fills, demands_by_number}
use Rattle.depth_index.specs.Depths.{TakesFewSteps}
use Rattle.itayose.specs.Reads.{MakesReads}
use Rattle.itayose.specs.Search.{is_past}
use Rattle.itayose.specs.declared.margin.Margin.TheVariants.{Time, Rounds}
use Rattle.itayose.specs.declared.search.End.TheVariants.{Lower, Upper}

abbrev price : ℕ → Price
price n = record { 0 = n }

abbrev three_prices : List Price
three_prices = price 1000 ∷ price 1010 ∷ price 1020 ∷ []

-- an order of a participant
abbrev order_of : ℕ → ℕ → Side → Spot → ℕ → Order
order_of participant place side spot left = record { place = place; caller = record { 0 = 1 }; own = 0; participant = record { 0 = participant }; side = side; spot = spot; left = left }

abbrev demand : ℕ → ℕ → ℕ → ℕ → Demand
demand participant first asked share = record { participant = record { 0 = participant }; first = first; asked = asked; share = share }

-- one unit each, then a third of the rest, then half of it, then all
abbrev four_rounds : List Round
four_rounds = Units 1 ∷ Part 1 3 ∷ Part 1 2 ∷ All ∷ []

-- The better buys fill whole, and the one at the price has 50 left over. The lowest sell comes first, though its place is later.
better_first : (auction_fills three_prices (order_of 0 1 Buy Market 300 ∷ order_of 0 2 Sell (At 1) 350 ∷ order_of 0 3 Sell (At 0) 100 ∷ order_of 0 4 Buy (At 2) 100 ∷ order_of 0 5 Buy (At 1) 100 ∷ []) 1010 Time [] 100).trades
    ≡ trade_of 1010 100 1 3 ∷ trade_of 1010 200 1 2 ∷ trade_of 1010 100 4 2 ∷ trade_of 1010 50 5 2 ∷ []
unfolding total_left in_priority quantity from_front less_front pair
better_first = refl

-- at the price the earlier buy fills first
earlier_first : (auction_fills three_prices (order_of 0 1 Buy (At 1) 200 ∷ order_of 1 2 Buy (At 1) 200 ∷ order_of 2 3 Sell (At 1) 300 ∷ []) 1010 Time [] 100).trades
    ≡ trade_of 1010 200 1 3 ∷ trade_of 1010 100 2 3 ∷ []
unfolding total_left in_priority quantity from_front less_front pair
earlier_first = refl

-- By rounds 700 shares are 500 and 200 to participants that ask for 800 and 600: a unit each, a third of 700 and of 500 in
-- units, and the 200 that are left to the first.
shared_by_rounds : auction_fills three_prices (order_of 0 1 Buy (At 1) 800 ∷ order_of 1 2 Buy (At 1) 600 ∷ order_of 2 3 Sell (At 1) 700 ∷ []) 1010 Rounds four_rounds 100
    ≡ record { shares = demand 0 1 800 500 ∷ demand 1 2 600 200 ∷ []; trades = trade_of 1010 500 1 3 ∷ trade_of 1010 200 2 3 ∷ [] }
unfolding total_left in_priority quantity from_front less_front pair filled_at allot after_round demands_by_number
shared_by_rounds = refl

-- an allotted close: market orders and the limit at the highest price share 1,000 shares
allotted_close : allotted_fills three_prices (order_of 0 1 Buy Market 800 ∷ order_of 1 2 Buy Market 600 ∷ order_of 2 3 Buy (At 2) 200 ∷ order_of 3 4 Sell (At 0) 1000 ∷ []) Buy four_rounds 100
    ≡ record { shares = demand 0 1 800 500 ∷ demand 1 2 600 300 ∷ demand 2 3 200 200 ∷ []; trades = trade_of 1020 500 1 4 ∷ trade_of 1020 300 2 4 ∷ trade_of 1020 200 3 4 ∷ [] }
unfolding total_left in_priority quantity from_front less_front pair filled_at allot after_round demands_by_number
allotted_close = refl

-- Where 300 are bought and 200 are sold below, the price is not above the run; where 100 are bought it is. Where nothing is sold it
-- is below the run, though nothing is bought above.
abbrev sums_of_four : ℕ → ℕ → ℕ → ℕ → Sums
sums_of_four buys above sells below = record { price = price 1000; buys = buys; above = above; sells = sells; below = below }

not_above_the_run : is_past Upper (sums_of_four 300 0 200 200) ≡ false
not_above_the_run = refl

above_the_run : is_past Upper (sums_of_four 100 0 200 200) ≡ true
above_the_run = refl

below_the_run : is_past Lower (sums_of_four 300 0 0 0) ≡ false
below_the_run = refl

-- two reads of at most four steps over 5 prices
two_reads : (first : TakesFewSteps 5 0 4) (second : TakesFewSteps 5 4 6) → MakesReads 5 2 0 6
unfolding MakesReads
two_reads first second = (4, first, (6, second, refl))
