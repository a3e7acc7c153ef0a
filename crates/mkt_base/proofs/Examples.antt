-- Worked examples: the definitions compute to what a reader of the rules would say.
use Rattle.std.specs.Prelude.{◌≡◌, ℕ, true, false, List, [], ◌∷◌, ◌++◌, map, Some, None, refl, codes}
use Rattle.std.specs.Fmt.{digits}
use Rattle.mkt_base.specs.Book.{total_left, sums_at, has_priority}
use Rattle.mkt_base.specs.Fills.{Fill, after_trades, from_front, less_front, pair, traded_at}
use Rattle.mkt_base.specs.Priority.{in_priority}
use Rattle.mkt_base.specs.ReportWords.{event_words, quote_words, reply_words}
use Rattle.mkt_base.specs.Text.{line, time_text}
use Rattle.mkt_base.specs.Certificate.{certificate_text}
use Rattle.mkt_base.specs.declared.units.Price.{Price}
use Rattle.mkt_base.specs.declared.order.Side.{Side}
use Rattle.mkt_base.specs.declared.order.Side.TheVariants.{Buy, Sell}
use Rattle.mkt_base.specs.declared.order.Spot.{Spot}
use Rattle.mkt_base.specs.declared.order.Spot.TheVariants.{Market, At}
use Rattle.mkt_base.specs.declared.order.Order as orders
use Rattle.mkt_base.specs.declared.auction.Sums.{Sums}
use Rattle.mkt_base.specs.declared.auction.Trade.{Trade}
use Rattle.mkt_base.specs.declared.auction.Outcome.TheVariants.{Traded, Calm, Pressed}
use Rattle.mkt_base.specs.declared.event.Event.TheVariants.{Order}
use Rattle.mkt_base.specs.declared.order.Kind.TheVariants.{Limit}
use Rattle.mkt_base.specs.declared.event.Phase.TheVariants.{Idle}
use Rattle.mkt_base.specs.declared.event.Reason.TheVariants.{Closed, NotYours}
use Rattle.mkt_base.specs.declared.event.Reply.TheVariants.{Accepted, Refused}
use Rattle.mkt_base.specs.declared.quote.QuoteKind.TheVariants.{Special}

abbrev price : ℕ → Price
price p = record { 0 = p }

abbrev grid : List Price
grid = price 1000 ∷ price 1010 ∷ price 1020 ∷ []

-- an order of no one in particular
abbrev plain_order : ℕ → Side → Spot → ℕ → orders.Order
plain_order place side spot left = record { place = place; caller = record { 0 = 1 }; own = 0; participant = record { 0 = 0 }; side = side; spot = spot; left = left }

abbrev plain_sums : ℕ → ℕ → ℕ → ℕ → ℕ → Sums
plain_sums p buys above sells below = record { price = price p; buys = buys; above = above; sells = sells; below = below }

abbrev trade : ℕ → ℕ → ℕ → Trade
trade qty buy sell = record { price = price 1010; qty = qty; buy = buy; sell = sell }

abbrev fill : ℕ → ℕ → Fill
fill place qty = record { place = place; qty = qty }

abbrev book : List orders.Order
book = plain_order 0 Buy Market 300 ∷ plain_order 1 Buy (At 1) 200 ∷ plain_order 2 Sell (At 1) 400 ∷ plain_order 3 Sell (At 0) 70 ∷ []

-- at a limit and at the end of the grid
sums_at_a_limit : sums_at grid book 1010 ≡ plain_sums 1010 500 300 470 70
unfolding total_left
sums_at_a_limit = refl

sums_at_the_end : sums_at grid book 1020 ≡ plain_sums 1020 300 300 470 470
unfolding total_left
sums_at_the_end = refl

-- a market order comes before every limit; the higher buy before the lower, the lower sell before the higher; then the earlier place
market_first : has_priority grid Buy (plain_order 5 Buy Market 1) (plain_order 1 Buy (At 2) 1) ≡ true
market_first = refl

lower_sell_first : has_priority grid Sell (plain_order 5 Sell (At 2) 1) (plain_order 1 Sell (At 1) 1) ≡ false
lower_sell_first = refl

earlier_first : has_priority grid Sell (plain_order 5 Sell (At 2) 1) (plain_order 6 Sell (At 2) 1) ≡ true
earlier_first = refl

-- the places of a side in its priority: the later market order before all limits, then by price, and at one price the earlier first
buys_in_priority :
    map (λ o. o.place) (in_priority 3 Buy (plain_order 0 Buy (At 1) 1 ∷ plain_order 1 Buy (At 2) 1 ∷ plain_order 2 Sell (At 0) 1 ∷ plain_order 3 Buy (At 2) 1 ∷ plain_order 4 Buy Market 1 ∷ []))
    ≡ 4 ∷ 1 ∷ 3 ∷ 0 ∷ []
unfolding in_priority
buys_in_priority = refl

sells_in_priority : map (λ o. o.place) (in_priority 3 Sell book) ≡ 3 ∷ 2 ∷ []
unfolding in_priority
sells_in_priority = refl

-- 5 shares from the front of 3, 0 and 4, and what stands behind them
taken_from_the_front : from_front 5 (fill 1 3 ∷ fill 2 0 ∷ fill 3 4 ∷ []) ≡ fill 1 3 ∷ fill 2 0 ∷ fill 3 2 ∷ []
unfolding from_front
taken_from_the_front = refl

left_behind_the_front : less_front 5 (fill 1 3 ∷ fill 2 0 ∷ fill 3 4 ∷ []) ≡ fill 1 0 ∷ fill 2 0 ∷ fill 3 2 ∷ []
unfolding less_front
left_behind_the_front = refl

-- the first buy takes all of the first sell and a part of the second; the rest of that goes to the second buy
paired_from_the_front : pair 1010 (fill 1 300 ∷ fill 2 200 ∷ []) (fill 3 100 ∷ fill 4 350 ∷ []) ≡ trade 100 1 3 ∷ trade 200 1 4 ∷ trade 150 2 4 ∷ []
unfolding pair from_front less_front
paired_from_the_front = refl

-- an order that traded all that it had is gone, one that traded a part has the rest
book_after_trades : after_trades (trade 70 0 3 ∷ trade 200 1 2 ∷ []) book ≡ plain_order 0 Buy Market 230 ∷ plain_order 2 Sell (At 1) 200 ∷ []
unfolding after_trades traded_at
book_after_trades = refl

evening : time_text 45296007 ≡ codes "12:34:56.007"
evening = refl

-- a nearer price is ruled out by its sums, and the next one trades
traded_lines : certificate_text (record { rejected = plain_sums 1050 500 500 400 400 ∷ []; outcome = Traded 400 (plain_sums 1060 500 300 400 400) })
    ≡ codes "rejected 1050 500 500 400 400" ++ 10 ∷ codes "price 1060 400 500 300 400 400" ++ 10 ∷ []
unfolding digits
traded_lines = refl

calm_line : certificate_text (record { rejected = []; outcome = Calm (Some (price 1000)) None }) ≡ codes "calm 1000 -" ++ 10 ∷ []
unfolding digits
calm_line = refl

pressed_line : certificate_text (record { rejected = []; outcome = Pressed Sell (price 1000) 500 0 }) ≡ codes "pressed sell 1000 500 0" ++ 10 ∷ []
unfolding digits
pressed_line = refl

-- words of the report
an_order : line (event_words (codes "p1" ∷ []) (Order (record { 0 = 0 }) Buy (Limit (price 19990)) (record { 0 = 100 }))) ≡ codes "order p1 buy 19990 100" ++ 10 ∷ []
unfolding digits
an_order = refl

a_quote : line (quote_words (record { kind = Special; side = Buy; price = price 25000; due = None })) ≡ codes "special buy 25000 -" ++ 10 ∷ []
unfolding digits
a_quote = refl

a_reply : line (reply_words [] (Accepted 4 200 100)) ≡ codes "accepted 4 200 100" ++ 10 ∷ []
unfolding digits
a_reply = refl

a_refusal : line (reply_words (codes "p1" ∷ codes "p2" ∷ []) (Refused (NotYours (record { 0 = 1 })))) ≡ codes "refused 5 p2" ++ 10 ∷ []
unfolding digits
a_refusal = refl

a_closed_market : line (reply_words [] (Refused (Closed Idle))) ≡ codes "refused 1 idle" ++ 10 ∷ []
unfolding digits
a_closed_market = refl
