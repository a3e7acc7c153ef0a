-- Worked examples: the definitions compute to what a reader of the rules would say.
use Rattle.std.specs.Prelude.{◌≡◌, ℕ, List, [], ◌∷◌, Option, Some, None, refl}
use Rattle.mkt_base.specs.declared.auction.Outcome.TheVariants.{Calm, Pressed}
use Rattle.mkt_base.specs.declared.order.Side.{Side}
use Rattle.mkt_base.specs.declared.order.Side.TheVariants.{Buy, Sell}
use Rattle.mkt_base.specs.declared.quote.Quote.{Quote}
use Rattle.mkt_base.specs.declared.quote.QuoteKind.{QuoteKind}
use Rattle.mkt_base.specs.declared.quote.QuoteKind.TheVariants.{Special, Sequential}
use Rattle.mkt_base.specs.declared.units.Price.{Price}
use Rattle.tick_grid.specs.Grid.{ceil_of, floor_of}
use Rattle.tick_grid.specs.Range.{down_of, greatest_upto, least_from, up_of}
use Rattle.tick_grid.specs.declared.rows.BandRow.{BandRow}
use Rattle.quote_law.specs.Quotes.{after_event, at_due, due_window, sequential_quote, special_quote, window}

abbrev price : ℕ → Price
price p = record { 0 = p }

-- eleven prices from 18000 to 23000, 500 apart
abbrev grid : List Price
grid = price 18000 ∷ price 18500 ∷ price 19000 ∷ price 19500 ∷ price 20000 ∷ price 20500 ∷ price 21000 ∷ price 21500 ∷ price 22000 ∷ price 22500 ∷ price 23000 ∷ []

-- a range of 400 below 20000, and of 500 above
abbrev ranges : List BandRow
ranges = record { below = 20000; value = 400 } ∷ record { below = 1000000001; value = 500 } ∷ []

abbrev quote : QuoteKind → Side → ℕ → Option ℕ → Quote
quote kind side p due = record { kind = kind; side = side; price = price p; due = due }

-- at 09:00 a special buy quote begins at 20500, and is due three minutes later
special_buy : special_quote grid ranges Buy 20000 32400000 180000 ≡ quote Special Buy 20500 (Some 32580000)
unfolding up_of greatest_upto least_from floor_of ceil_of
special_buy = refl

-- at the daily limit it is not due
at_the_daily_limit : special_quote grid ranges Sell 18500 32400000 180000 ≡ quote Special Sell 18000 None
unfolding down_of greatest_upto least_from floor_of ceil_of
at_the_daily_limit = refl

-- the last millisecond of the day is a due moment
last_of_the_day : special_quote grid ranges Buy 20000 86219999 180000 ≡ quote Special Buy 20500 (Some 86399999)
unfolding up_of greatest_upto least_from floor_of ceil_of
last_of_the_day = refl

-- one later the day has ended
past_the_day : special_quote grid ranges Buy 20000 86220000 180000 ≡ quote Special Buy 20500 None
unfolding up_of greatest_upto least_from floor_of ceil_of
past_the_day = refl

-- a sequential quote begins twice the range from the last price
sequential_buy : sequential_quote grid ranges Buy 20000 32400000 60000 ≡ quote Sequential Buy 21000 (Some 32460000)
unfolding greatest_upto floor_of
sequential_buy = refl

-- at the daily limit too it is due
sequential_at_the_limit : sequential_quote grid ranges Sell 18500 32400000 60000 ≡ quote Sequential Sell 18000 (Some 32460000)
unfolding least_from ceil_of
sequential_at_the_limit = refl

-- from one range below the last price to the quote's price, and when it is due one range further
window_of_a_buy : window grid ranges (quote Special Buy 20500 None) 20000 ≡ (19500, 20500)
unfolding down_of greatest_upto least_from floor_of ceil_of
window_of_a_buy = refl

due_window_of_a_sell : due_window grid ranges (quote Sequential Sell 19000 None) 20000 ≡ (18500, 20500)
unfolding up_of down_of greatest_upto least_from floor_of ceil_of
due_window_of_a_sell = refl

-- where its own side presses a quote stays after an event, and moves at its due moment
stays : after_event (quote Special Buy 20500 None) (Pressed Buy (price 20500) 300 100) (quote Special Sell 19500 None) ≡ Some (quote Special Buy 20500 None)
stays = refl

moves : at_due (quote Sequential Buy 21000 None) (Pressed Buy (price 21500) 300 100) (quote Special Buy 21500 None) (quote Special Sell 19500 None) ≡ Some (quote Special Buy 21500 None)
moves = refl

-- where the other side presses its quote takes the place, and in a calm book none is left
turns : after_event (quote Special Buy 20500 None) (Pressed Sell (price 19500) 300 100) (quote Special Sell 19500 None) ≡ Some (quote Special Sell 19500 None)
turns = refl

ends_where_calm : at_due (quote Special Buy 20500 None) (Calm None None) (quote Special Buy 21000 None) (quote Special Sell 19500 None) ≡ None
ends_where_calm = refl
