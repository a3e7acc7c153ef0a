-- A volume traded from the fronts of both sides, and what is left of a side behind it.
use Rattle.std.specs.Prelude.{ℕ, ◌-◌, List, [], ◌∷◌, if◌then◌else◌, nat_lt}
use Rattle.mkt_base.specs.Fills.{after_trades, from_front, pair, whole}
use Rattle.mkt_base.specs.Priority.{in_priority}
use Rattle.mkt_base.specs.declared.auction.Trade.{Trade}
use Rattle.mkt_base.specs.declared.order.Side.TheVariants.{Buy, Sell}
use Rattle.mkt_base.specs.declared.order.Order.{Order}
use Rattle.book_law.specs.BookView.{less}

-- a trade of so many shares at a price, between the order at one place that buys and the one at another that sells
abbrev pub trade_of : ℕ → ℕ → ℕ → ℕ → Trade
trade_of p qty buy sell = record { price = record { 0 = p }; qty = qty; buy = buy; sell = sell }

-- the first v shares of the buys against the first v of the sells, from the front on, at one price
abbrev pub paired : ℕ → ℕ → List Order → List Order → List Trade
paired p v bs ss = pair p (from_front v (whole bs)) (from_front v (whole ss))

-- the orders that are left when v shares are taken from their front
unfoldable pub left_front : ℕ → List Order → List Order
left_front v [] = []
left_front v (o ∷ os) = if nat_lt 0 (o.left - v) then less v o ∷ os else left_front (v - o.left) os

-- the book on a grid of n prices after the first v shares of each side were traded at the price p
abbrev pub after_fronts : ℕ → ℕ → ℕ → List Order → List Order
after_fronts n p v orders = after_trades (paired p v (in_priority n Buy orders) (in_priority n Sell orders)) orders
