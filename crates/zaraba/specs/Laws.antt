-- Laws of an order's arrival: each is the clause of a function of the same name.
use Rattle.std.specs.Prelude.{◌≡◌, ◌≢◌, ◌⊎◌, ℕ, ◌+◌, ◌*◌, ◌%◌, ◌<◌, ◌≤◌, true, List, length, All, sum_by}
use Rattle.mkt_base.specs.Book.{IsRising, price_at}
use Rattle.mkt_base.specs.Fills.{after_trades, traded_at}
use Rattle.mkt_base.specs.Priority.{in_priority}
use Rattle.mkt_base.specs.declared.order.Order.{Order}
use Rattle.mkt_base.specs.declared.order.Side.{Side}
use Rattle.mkt_base.specs.declared.order.Side.TheVariants.{Buy, Sell}
use Rattle.mkt_base.specs.declared.units.Price.{Price}
use Rattle.auction_law.specs.Attempt.{is_calm}
use Rattle.auction_law.specs.Nearness.{distance}
use Rattle.book_law.specs.Laws.{IsBookOn}
use Rattle.book_law.specs.Sides.{total}
use Rattle.zaraba.specs.Arrival.{Arrival, arrival, book_after, opposite}
use Rattle.zaraba.specs.declared.stop.Stop.TheVariants.{Done, Gap, Sequence}

-- an order arrives at a book over a rising grid, later than all that stand there
pub record IsArriving (grid : List Price) (orders : List Order) (o : Order) : Type 0 where
  pub rising : IsRising grid
  pub book : IsBookOn (length grid) orders
  pub later : All (λ x. x.place < o.place) orders

-- the price of a position of the grid
abbrev pub IsGridPrice : List Price → ℕ → Type 0
IsGridPrice grid p = (i : ℕ) × (i < length grid) × (p ≡ price_at grid i)

-- a price is farther than so much from another, to the side's way: a buy's above it, a sell's below it
abbrev pub IsBeyond : Side → ℕ → ℕ → ℕ → Type 0
IsBeyond Buy far from p = from + far < p
IsBeyond Sell far from p = p + far < from

-- No order trades more than it has left, the order that arrives has left what it does not trade, and no other place trades.
abbrev pub NoneFillsMore : Type 0
NoneFillsMore = (grid : List Price) (range : ℕ → ℕ) (orders : List Order) (o : Order) (last : ℕ) → IsArriving grid orders o
    → let a : Arrival = arrival grid range orders o last in
    All (λ x. traded_at a.trades x.place ≤ x.left) orders
    × (traded_at a.trades o.place + a.left ≡ o.left)
    × ((place : ℕ) → place ≢ o.place → All (λ x. place ≢ x.place) orders → traded_at a.trades place ≡ 0)

-- What the order trades is what the other side loses, and what the order itself loses; its own side stays as it is.
abbrev pub BoughtIsSold : Type 0
BoughtIsSold = (grid : List Price) (range : ℕ → ℕ) (orders : List Order) (o : Order) (last : ℕ) → IsArriving grid orders o
    → let a : Arrival = arrival grid range orders o last in
    (sum_by (λ t. t.qty) a.trades + total (in_priority (length grid) (opposite o.side) (after_trades a.trades orders)) ≡ total (in_priority (length grid) (opposite o.side) orders))
    × (sum_by (λ t. t.qty) a.trades + a.left ≡ o.left)
    × (in_priority (length grid) o.side (after_trades a.trades orders) ≡ in_priority (length grid) o.side orders)

-- Each trade has shares and a price of the grid. Where all have whole trading units left, so have the trades, the order and
-- the book behind them.
abbrev pub TradesStand : Type 0
TradesStand = (grid : List Price) (range : ℕ → ℕ) (orders : List Order) (o : Order) (last : ℕ) → IsArriving grid orders o
    → let a : Arrival = arrival grid range orders o last in
    All (λ t. (1 ≤ t.qty) × IsGridPrice grid t.price.0) a.trades
    × ((unit : ℕ) → 1 ≤ unit → All (λ x. x.left % unit ≡ 0) orders → o.left % unit ≡ 0 → All (λ t. t.qty % unit ≡ 0) a.trades × (a.left % unit ≡ 0) × All (λ x. x.left % unit ≡ 0) (after_trades a.trades orders))

-- The last price is within twice the range of the one at arrival, and stays or becomes a price of the grid.
abbrev pub LastIsNear : Type 0
LastIsNear = (grid : List Price) (range : ℕ → ℕ) (orders : List Order) (o : Order) (last : ℕ) → IsArriving grid orders o
    → let a : Arrival = arrival grid range orders o last in
    (distance last a.last ≤ 2 * range last)
    × ((a.last ≡ last) ⊎ IsGridPrice grid a.last)

-- An order that stops at a gap or a sequence has something left.
abbrev pub StoppedHasLeft : Type 0
StoppedHasLeft = (grid : List Price) (range : ℕ → ℕ) (orders : List Order) (o : Order) (last : ℕ) → IsArriving grid orders o
    → let a : Arrival = arrival grid range orders o last in
    (side : Side) → (a.stop ≡ Gap side → 1 ≤ a.left) × (a.stop ≡ Sequence side → 1 ≤ a.left)

-- A sequence is of the order's side, and some price of the grid is beyond twice the range from the one at arrival, to the
-- order's way.
abbrev pub SequenceIsBeyond : Type 0
SequenceIsBeyond = (grid : List Price) (range : ℕ → ℕ) (orders : List Order) (o : Order) (last : ℕ) → IsArriving grid orders o
    → (side : Side) → (arrival grid range orders o last).stop ≡ Sequence side
    → (side ≡ o.side) × (k : ℕ) × (k < length grid) × IsBeyond side (2 * range last) last (price_at grid k)

-- Where an order is done, a calm book is calm behind its arrival.
abbrev pub DoneStaysCalm : Type 0
DoneStaysCalm = (grid : List Price) (range : ℕ → ℕ) (orders : List Order) (o : Order) (last : ℕ) → IsArriving grid orders o → is_calm grid orders ≡ true
    → (arrival grid range orders o last).stop ≡ Done
    → is_calm grid (book_after (arrival grid range orders o last) orders o) ≡ true
