-- Worked examples: the definitions compute to what a reader of the rules would say.
use Rattle.std.specs.Prelude.{◌≡◌, ℕ, true, false, List, [], ◌∷◌, Some, None, refl}
use Rattle.mkt_base.specs.Book.{total_left}
use Rattle.mkt_base.specs.declared.units.Price.{Price}
use Rattle.mkt_base.specs.declared.order.Side.{Side}
use Rattle.mkt_base.specs.declared.order.Side.TheVariants.{Buy, Sell}
use Rattle.mkt_base.specs.declared.order.Spot.{Spot}
use Rattle.mkt_base.specs.declared.order.Spot.TheVariants.{Market, At}
use Rattle.mkt_base.specs.declared.order.Order.{Order}
use Rattle.auction_law.specs.Nearness.{by_nearness}
use Rattle.mkt_base.specs.declared.auction.Sums.{Sums}
use Rattle.mkt_base.specs.declared.auction.Outcome.TheVariants.{Traded, Calm, Pressed}
use Rattle.auction_law.specs.Attempt.{attempt, meets, chosen, nearer_prices, is_calm}

abbrev price : ℕ → Price
price p = record { 0 = p }

-- 1000, 1010 and so on to 1100
abbrev grid : List Price
grid = price 1000 ∷ price 1010 ∷ price 1020 ∷ price 1030 ∷ price 1040 ∷ price 1050 ∷ price 1060 ∷ price 1070 ∷ price 1080 ∷ price 1090 ∷ price 1100 ∷ []

abbrev plain_order : ℕ → Side → Spot → ℕ → Order
plain_order place side spot left = record { place = place; caller = record { 0 = 0 }; own = 0; participant = record { 0 = 0 }; side = side; spot = spot; left = left }

-- of two prices that are equally far, the lower is nearer
nearest_first : by_nearness 1020 (1000 ∷ 1010 ∷ 1020 ∷ 1030 ∷ 1040 ∷ 1050 ∷ []) ≡ 1020 ∷ 1010 ∷ 1030 ∷ 1000 ∷ 1040 ∷ 1050 ∷ []
nearest_first = refl

-- a market buy, a limit buy at 1060, a limit sell at 1040 and one at 1070
abbrev traded : List Order
traded = plain_order 2 Buy Market 300 ∷ plain_order 3 Buy (At 6) 200 ∷ plain_order 4 Sell (At 4) 400 ∷ plain_order 5 Sell (At 7) 200 ∷ []

-- 1040 is as near to 1050 as 1060 is, and is ruled out
chosen_after_a_tie : chosen grid traded 1050 ≡ Some 1060
unfolding chosen meets total_left
chosen_after_a_tie = refl

both_are_nearer : nearer_prices grid traded 1050 ≡ 1050 ∷ 1040 ∷ []
unfolding nearer_prices meets total_left
both_are_nearer = refl

-- where every price meets the conditions, the reference is chosen
abbrev wide : List Order
wide = plain_order 2 Buy (At 10) 100 ∷ plain_order 3 Sell (At 0) 100 ∷ []

reference_is_chosen : chosen grid wide 1050 ≡ Some 1050
unfolding chosen meets total_left
reference_is_chosen = refl

abbrev sums : ℕ → ℕ → ℕ → ℕ → ℕ → Sums
sums p buys above sells below = record { price = price p; buys = buys; above = above; sells = sells; below = below }

it_trades : attempt grid traded 1050 1000 1100 ≡ Traded 400 (sums 1060 500 300 400 400)
unfolding attempt is_calm chosen meets total_left
it_trades = refl

-- in a narrow window it does not, since the chosen price lies above: 500 are bought above 1050, and 400 sold there
outside_of_the_window : attempt grid traded 1050 1050 1050 ≡ Pressed Buy (price 1050) 500 400
unfolding attempt is_calm chosen meets total_left
outside_of_the_window = refl

-- an empty auction is calm, and no price meets the conditions
empty_is_calm : is_calm grid [] ≡ true
unfolding is_calm
empty_is_calm = refl

none_chosen : chosen grid [] 1050 ≡ None
unfolding chosen meets total_left
none_chosen = refl

-- more is sold at any price than is bought at all
abbrev market_sell : List Order
market_sell = plain_order 2 Buy (At 10) 300 ∷ plain_order 3 Sell Market 500 ∷ []

sellers_press : attempt grid market_sell 1050 1000 1100 ≡ Pressed Sell (price 1000) 500 300
unfolding attempt is_calm chosen meets total_left
sellers_press = refl

-- a limit buy below a limit sell
abbrev apart : List Order
apart = plain_order 2 Buy (At 0) 100 ∷ plain_order 3 Sell (At 1) 100 ∷ []

nobody_presses : attempt grid apart 1050 1000 1100 ≡ Calm (Some (price 1000)) (Some (price 1010))
unfolding attempt is_calm chosen meets total_left
nobody_presses = refl

-- a market order beside them has to trade
abbrev apart_and_market : List Order
apart_and_market = plain_order 1 Sell Market 100 ∷ apart

not_calm_by_a_market_order : is_calm grid apart_and_market ≡ false
unfolding is_calm
not_calm_by_a_market_order = refl

-- at 1000 all of the market sell trades, and at 1010 none of it
it_trades_at_the_limit : chosen grid apart_and_market 1050 ≡ Some 1000
unfolding chosen meets total_left
it_trades_at_the_limit = refl
