-- Laws of a book's sides: each is the clause of a function of the same name.
use Rattle.std.specs.Prelude.{◌≡◌, ◌⊎◌, ℕ, ◌+◌, ◌≤◌, min, false, List, length, All, sum_by, if◌then◌else◌, IsTrue}
use Rattle.mkt_base.specs.Book.{IsBook, IsRising, above, below, buys, is_buy_above, is_buy_at, is_sell_at, is_sell_below, sells}
use Rattle.mkt_base.specs.Fills.{after_trades}
use Rattle.mkt_base.specs.Priority.{in_priority, is_same_side}
use Rattle.mkt_base.specs.declared.auction.Trade.{Trade}
use Rattle.mkt_base.specs.declared.units.Price.{Price}
use Rattle.mkt_base.specs.declared.order.Side.{Side}
use Rattle.mkt_base.specs.declared.order.Side.TheVariants.{Buy, Sell}
use Rattle.mkt_base.specs.declared.order.Order.{Order}
use Rattle.book_law.specs.BookView.{IsSpotBelow}
use Rattle.book_law.specs.Paired.{after_fronts, left_front}
use Rattle.book_law.specs.Sides.{count_at, total}

-- a book whose orders stand on a grid of n prices
pub record IsBookOn (n : ℕ) (orders : List Order) : Type 0 where
  pub book : IsBook orders
  pub spots : All (λ o. IsSpotBelow n o.spot) orders

-- Trades leave a side in its priority: the side of the book after them is the side after them.
abbrev pub TradesKeepPriority : Type 0
TradesKeepPriority = (n : ℕ) (side : Side) (trades : List Trade) (orders : List Order)
    → in_priority n side (after_trades trades orders) ≡ after_trades trades (in_priority n side orders)

-- A side in its priority has orders of the side alone, and each place of a book stands in the two sides together as often
-- as in the book, which is once or not at all.
abbrev pub StandsOnce : Type 0
StandsOnce = (n : ℕ) (orders : List Order) → IsBookOn n orders
    → ((side : Side) → All (λ o. IsTrue (is_same_side side o.side)) (in_priority n side orders))
    × ((place : ℕ) → count_at place (in_priority n Buy orders) + count_at place (in_priority n Sell orders) ≡ count_at place orders)
    × ((place : ℕ) → count_at place orders ≤ 1)

-- What is added up over a side, level by level, is what is added up over the book's orders of the side.
abbrev pub SidesAddUp : Type 0
SidesAddUp = (f : Order → ℕ) (n : ℕ) (side : Side) (orders : List Order) → IsBookOn n orders
    → sum_by f (in_priority n side orders) ≡ sum_by (λ o. if is_same_side side o.side then f o else 0) orders

-- Where v shares, no more than either side has, were traded from both fronts, each side is left without its first v shares.
abbrev pub FrontsAreTraded : Type 0
FrontsAreTraded = (n p v : ℕ) (orders : List Order) → IsBookOn n orders → v ≤ total (in_priority n Buy orders) → v ≤ total (in_priority n Sell orders)
    → (in_priority n Buy (after_fronts n p v orders) ≡ left_front v (in_priority n Buy orders))
    × (in_priority n Sell (after_fronts n p v orders) ≡ left_front v (in_priority n Sell orders))

-- Where as much as can trade at a price was traded at it from both fronts, and nothing better than the price on either side
-- is more than that, then nothing better is left on either side, and on one side nothing at the price either.
abbrev pub NoneBetterLeft : Type 0
NoneBetterLeft = (grid : List Price) (p v : ℕ) (orders : List Order) → IsRising grid → IsBookOn (length grid) orders
    → v ≡ min (buys grid orders p) (sells grid orders p) → above grid orders p ≤ v → below grid orders p ≤ v
    → All (λ o. is_buy_above grid p o ≡ false) (after_fronts (length grid) p v orders)
    × All (λ o. is_sell_below grid p o ≡ false) (after_fronts (length grid) p v orders)
    × (All (λ o. is_buy_at grid p o ≡ false) (after_fronts (length grid) p v orders) ⊎ All (λ o. is_sell_at grid p o ≡ false) (after_fronts (length grid) p v orders))
