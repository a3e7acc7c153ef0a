-- What orders fill, who trades with whom, and the book after trades.
use Rattle.std.specs.Prelude.{ℕ, ◌-◌, min, ◌||◌, ◌==◌, List, [], ◌∷◌, ◌++◌, map, filter, sum_by, if◌then◌else◌, nat_lt}
use Rattle.mkt_base.specs.declared.auction.Trade.{Trade}
use Rattle.mkt_base.specs.declared.order.Order.{Order}

-- so many shares of the order at a place
pub record Fill : Type 0 where
  pub place : ℕ
  pub qty : ℕ

-- all that an order has left
abbrev pub all_of : Order → Fill
all_of o = record { place = o.place; qty = o.left }

abbrev pub whole : List Order → List Fill
whole orders = map all_of orders

-- the shares of some fills
unfoldable pub quantity : List Fill → ℕ
quantity fills = sum_by (λ f. f.qty) fills

-- those that have shares
abbrev pub filled : List Fill → List Fill
filled fills = filter (λ f. nat_lt 0 f.qty) fills

-- the first n shares, from the front on
unfoldable pub from_front : ℕ → List Fill → List Fill
from_front n [] = []
from_front n (f ∷ fs) = record f { qty = min n f.qty } ∷ from_front (n - f.qty) fs

-- what stands behind them
unfoldable pub less_front : ℕ → List Fill → List Fill
less_front n [] = []
less_front n (f ∷ fs) = record f { qty = f.qty - n } ∷ less_front (n - f.qty) fs

-- the order at the place `buy` buys a fill at the price p
abbrev pub bought_by : ℕ → ℕ → Fill → Trade
bought_by p buy f = record { price = record { 0 = p }; qty = f.qty; buy = buy; sell = f.place }

-- buys and sells paired from the front at one price: each buy in turn takes its shares from the front of the sells
unfoldable pub pair : ℕ → List Fill → List Fill → List Trade
pair p [] sells = []
pair p (b ∷ bs) sells = map (bought_by p b.place) (filled (from_front b.qty sells)) ++ pair p bs (less_front b.qty sells)

-- the shares that trades bought for a place, and sold for it
unfoldable pub bought_at : ℕ → List Trade → ℕ
bought_at place trades = sum_by (λ t. if place == t.buy then t.qty else 0) trades

unfoldable pub sold_at : ℕ → List Trade → ℕ
sold_at place trades = sum_by (λ t. if place == t.sell then t.qty else 0) trades

-- the shares that trades took from the order at a place
unfoldable pub traded_at : List Trade → ℕ → ℕ
traded_at trades place = sum_by (λ t. if place == t.buy || place == t.sell then t.qty else 0) trades

-- the order has less left by what the trades took from it
abbrev pub less_traded : List Trade → Order → Order
less_traded trades o = record o { left = o.left - traded_at trades o.place }

-- the book after trades: each order has less by what they took from it, and those that have nothing left are gone
unfoldable pub after_trades : List Trade → List Order → List Order
after_trades trades orders = filter (λ o. nat_lt 0 o.left) (map (less_traded trades) orders)

-- the shares that fills have at a place
unfoldable pub filled_at : ℕ → List Fill → ℕ
filled_at place fills = sum_by (λ f. if place == f.place then f.qty else 0) fills
