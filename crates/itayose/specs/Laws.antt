-- Laws of the fills of an auction and of an allotted close: each is the clause of a function of the same name.
use Rattle.std.specs.Prelude.{◌≡◌, ℕ, ◌+◌, ◌%◌, ◌<◌, ◌≤◌, true, List, [], length, All, sum_by}
use Rattle.mkt_base.specs.Book.{IsRising, price_at}
use Rattle.mkt_base.specs.Fills.{after_trades, quantity, traded_at}
use Rattle.mkt_base.specs.Priority.{in_priority}
use Rattle.mkt_base.specs.declared.auction.Trade.{Trade}
use Rattle.mkt_base.specs.declared.order.Order.{Order}
use Rattle.mkt_base.specs.declared.order.Side.{Side}
use Rattle.mkt_base.specs.declared.order.Side.TheVariants.{Buy, Sell}
use Rattle.mkt_base.specs.declared.units.Price.{Price}
use Rattle.allotment.specs.Rounds.{AreRounds}
use Rattle.allotment.specs.declared.round.Round.{Round}
use Rattle.auction_law.specs.Attempt.{is_calm, meets, volume_at}
use Rattle.book_law.specs.Laws.{IsBookOn}
use Rattle.book_law.specs.Sides.{count_at, total}
use Rattle.itayose.specs.Fills.{allotted_fills, auction_fills, is_longer, limit_position, side_filling}
use Rattle.itayose.specs.declared.margin.Margin.{Margin}
use Rattle.itayose.specs.declared.margin.Margin.TheVariants.{Rounds, Time}

-- a book over a rising grid, and a price that meets the three conditions
pub record IsSettling (grid : List Price) (orders : List Order) (p : ℕ) : Type 0 where
  pub rising : IsRising grid
  pub book : IsBookOn (length grid) orders
  pub met : meets grid orders p ≡ true

-- a book over a rising grid, a side of which has more at its daily limit than the other side has there
pub record IsClosing (grid : List Price) (orders : List Order) (side : Side) : Type 0 where
  pub rising : IsRising grid
  pub book : IsBookOn (length grid) orders
  pub presses : is_longer grid orders (price_at grid (limit_position grid side)) side ≡ true

-- what an allotment asks for: rounds, orders that have whole trading units left, and participants that are numbered below 64
pub record IsShareable (rounds : List Round) (unit : ℕ) (orders : List Order) : Type 0 where
  pub accepted : AreRounds rounds
  pub some : 1 ≤ unit
  pub units : All (λ o. o.left % unit ≡ 0) orders
  pub participants : All (λ o. o.participant.0 < 64) orders

abbrev pub auction_trades : List Price → List Order → ℕ → Margin → List Round → ℕ → List Trade
auction_trades grid orders p margin rounds unit = (auction_fills grid orders p margin rounds unit).trades

-- the trades of an auction by time; rounds and trading unit count for nothing
abbrev pub trades_by_time : List Price → List Order → ℕ → List Trade
trades_by_time grid orders p = auction_trades grid orders p Time [] 1

-- By time, what the buys fill, what the sells fill, and what is traded, is the volume at the price.
abbrev pub VolumeIsTraded : Type 0
VolumeIsTraded = (grid : List Price) (orders : List Order) (p : ℕ) → IsSettling grid orders p
    → (quantity (side_filling grid orders p Time [] 1 Buy).fills ≡ volume_at grid orders p)
    × (quantity (side_filling grid orders p Time [] 1 Sell).fills ≡ volume_at grid orders p)
    × (sum_by (λ t. t.qty) (trades_by_time grid orders p) ≡ volume_at grid orders p)

-- No order trades more than it has left: so each loses exactly what the trades of its place say. And nothing trades at a
-- place where no order stands.
abbrev pub NoneTradesMore : Type 0
NoneTradesMore = (grid : List Price) (orders : List Order) (p : ℕ) (margin : Margin) (rounds : List Round) (unit : ℕ) → IsSettling grid orders p
    → (margin ≡ Rounds → IsShareable rounds unit orders)
    → All (λ o. traded_at (auction_trades grid orders p margin rounds unit) o.place ≤ o.left) orders
    × ((place : ℕ) → count_at place orders ≡ 0 → traded_at (auction_trades grid orders p margin rounds unit) place ≡ 0)

-- Each side loses just what is traded.
abbrev pub SidesLoseTrades : Type 0
SidesLoseTrades = (grid : List Price) (orders : List Order) (p : ℕ) (margin : Margin) (rounds : List Round) (unit : ℕ) (side : Side) → IsSettling grid orders p
    → (margin ≡ Rounds → IsShareable rounds unit orders)
    → sum_by (λ t. t.qty) (auction_trades grid orders p margin rounds unit)
    + total (in_priority (length grid) side (after_trades (auction_trades grid orders p margin rounds unit) orders))
    ≡ total (in_priority (length grid) side orders)

-- Each trade is at the price, of at least one share and, where the orders have whole units left, of whole units.
abbrev pub TradesAreWhole : Type 0
TradesAreWhole = (grid : List Price) (orders : List Order) (p : ℕ) (margin : Margin) (rounds : List Round) (unit : ℕ) → IsSettling grid orders p
    → (margin ≡ Rounds → IsShareable rounds unit orders) → All (λ o. o.left % unit ≡ 0) orders
    → All (λ t. (1 ≤ t.qty) × (t.qty % unit ≡ 0) × (t.price.0 ≡ p)) (auction_trades grid orders p margin rounds unit)

-- And all this of an allotted close, at the limit of its side.
abbrev pub CloseTradesFairly : Type 0
CloseTradesFairly = (grid : List Price) (orders : List Order) (side : Side) (rounds : List Round) (unit : ℕ) → IsClosing grid orders side → IsShareable rounds unit orders
    → All (λ o. traded_at (allotted_fills grid orders side rounds unit).trades o.place ≤ o.left) orders
    × ((place : ℕ) → count_at place orders ≡ 0 → traded_at (allotted_fills grid orders side rounds unit).trades place ≡ 0)
    × ((t : Side) → sum_by (λ u. u.qty) (allotted_fills grid orders side rounds unit).trades
    + total (in_priority (length grid) t (after_trades (allotted_fills grid orders side rounds unit).trades orders))
    ≡ total (in_priority (length grid) t orders))
    × All (λ t. (1 ≤ t.qty) × (t.qty % unit ≡ 0) × (t.price.0 ≡ price_at grid (limit_position grid side))) (allotted_fills grid orders side rounds unit).trades

-- After the fills by time no market order is left, and no limit buy is at or above a limit sell.
abbrev pub CalmAfterwards : Type 0
CalmAfterwards = (grid : List Price) (orders : List Order) (p : ℕ) → IsSettling grid orders p
    → is_calm grid (after_trades (trades_by_time grid orders p) orders) ≡ true
