-- Laws of what orders fill: each is the clause of a function of the same name.
use Rattle.std.specs.Prelude.{◌≡◌, ℕ, ◌+◌, min, List, ◌++◌, length, AllPairs, ◌<◌, sum_by}
use Rattle.mkt_base.specs.Book.{IsInPriority, IsRising}
use Rattle.mkt_base.specs.Fills.{Fill, after_trades, bought_at, filled_at, from_front, less_front, pair, quantity, sold_at}
use Rattle.mkt_base.specs.Priority.{in_priority}
use Rattle.mkt_base.specs.declared.units.Price.{Price}
use Rattle.mkt_base.specs.declared.order.Side.{Side}
use Rattle.mkt_base.specs.declared.order.Order.{Order}
use Rattle.mkt_base.specs.declared.auction.Trade.{Trade}

-- the first n shares of a list are n, or all that it has; and with what stands behind them they are all that it has
abbrev pub TakenAddsUp : Type 0
TakenAddsUp = (n : ℕ) (fills : List Fill)
    → (quantity (from_front n fills) ≡ min n (quantity fills)) × (quantity (from_front n fills) + quantity (less_front n fills) ≡ quantity fills)

-- Of a pairing, each place buys what it has among the first of the buys, as many as are sold, and each place sells what it
-- has among the first of the sells, as many as are bought. So both sides trade the lesser of the two quantities.
abbrev pub PairedAlike : Type 0
PairedAlike = (p place : ℕ) (buys sells : List Fill)
    → (bought_at place (pair p buys sells) ≡ filled_at place (from_front (quantity sells) buys))
    × (sold_at place (pair p buys sells) ≡ filled_at place (from_front (quantity buys) sells))
    × (sum_by (λ t. t.qty) (pair p buys sells) ≡ min (quantity buys) (quantity sells))

-- trades that follow other trades do to a book what all of them do at once
abbrev pub TradesInTurn : Type 0
TradesInTurn = (first more : List Trade) (orders : List Order) → after_trades more (after_trades first orders) ≡ after_trades (first ++ more) orders

-- Over a rising grid the orders of a side of a book, level by level, stand in the side's priority order.
abbrev pub LevelsInPriority : Type 0
LevelsInPriority = (grid : List Price) (side : Side) (orders : List Order) → IsRising grid → AllPairs (λ a b. a.place < b.place) orders
    → IsInPriority grid side (in_priority (length grid) side orders)
