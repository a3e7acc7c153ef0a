-- What contracts see of an order book: its orders by place, each with the handle that names it.
use Rattle.std.specs.Prelude.{◌≡◌, ◌≢◌, ℕ, ◌-◌, ◌<◌, ◌≤◌, ◌==◌, ◌&&◌, Bool, false, not, List, [], ◌∷◌, ◌++◌, length, map, filter, find, Option, Some, if◌then◌else◌, IsSome, MatchOption, nat_lt, slice_get, All, AllPairs}
use Rattle.mkt_base.specs.Book.{IsRising}
use Rattle.mkt_base.specs.Priority.{in_priority}
use Rattle.mkt_base.specs.declared.units.Caller.{Caller}
use Rattle.mkt_base.specs.declared.units.Price.{Price}
use Rattle.mkt_base.specs.declared.order.Side.{Side}
use Rattle.mkt_base.specs.declared.order.Side.TheVariants.{Buy, Sell}
use Rattle.mkt_base.specs.declared.order.Spot.{Spot}
use Rattle.mkt_base.specs.declared.order.Spot.TheVariants.{Market, At}
use Rattle.mkt_base.specs.declared.order.Order.{Order}

-- an order and the handle that names it
pub record Slot : Type 0 where
  pub handle : ℕ
  pub order : Order

-- a book over a grid of so many prices, with room for so many orders: its orders by place
pub record BookView : Type 0 where
  pub prices : ℕ
  pub capacity : ℕ
  pub slots : List Slot

abbrev pub slot_of : ℕ → Order → Slot
slot_of handle o = record { handle = handle; order = o }

-- the orders of a book, by place
abbrev pub orders : BookView → List Order
orders b = map (λ s. s.order) b.slots

-- the orders of a side in their priority
abbrev pub side_of : BookView → Side → List Order
side_of b side = in_priority b.prices side (orders b)

abbrev pub bids : BookView → List Order
bids b = side_of b Buy

abbrev pub asks : BookView → List Order
asks b = side_of b Sell

-- the handle names this slot
abbrev pub is_at : ℕ → Slot → Bool
is_at handle s = handle == s.handle

-- the order is the caller's entry of this own number
abbrev pub is_of : Caller → ℕ → Order → Bool
is_of caller own o = caller.0 == o.caller.0 && (own == o.own)

-- the handle is live in the book: it names an order
abbrev pub IsLive : BookView → ℕ → Type 0
IsLive b handle = IsSome (find (is_at handle) b.slots)

-- the handle names this order
abbrev pub Names : BookView → ℕ → Order → Type 0
Names b handle o = find (is_at handle) b.slots ≡ Some (slot_of handle o)

-- a handle that names the first of these orders, or none where there are none
abbrev pub NamesFirst : BookView → List Order → Option ℕ → Type 0
NamesFirst b os found = MatchOption found (os ≡ []) (λ handle. (o : Order) × Names b handle o × (slice_get os 0 ≡ Some o))

-- the book without the order that the handle names
abbrev pub without : ℕ → BookView → BookView
without handle b = record b { slots = filter (λ s. not (is_at handle s)) b.slots }

-- the order with so many shares less
abbrev pub less : ℕ → Order → Order
less by o = record o { left = o.left - by }

abbrev pub less_at : ℕ → ℕ → Slot → Slot
less_at handle by s = record s { order = less (if is_at handle s then by else 0) s.order }

-- the book with so many shares less left of the order that the handle names
abbrev pub reduced : ℕ → ℕ → BookView → BookView
reduced handle by b = record b { slots = map (less_at handle by) b.slots }

-- the spot is the market, or a position of a grid of n prices
abbrev pub IsSpotBelow : ℕ → Spot → Type 0
IsSpotBelow n Market = Unit {0}
IsSpotBelow n (At i) = i < n

-- a rising grid of as many prices as the book is for
pub record IsGridOf (b : BookView) (grid : List Price) : Type 0 where
  pub rising : IsRising grid
  pub size : length grid ≡ b.prices

-- what holds of every book: the places rise, no handle and no caller's own number stands twice, each order has 1 to
-- 100,000,000 shares left and stands on the grid, and no more orders than it has room for
pub record IsBookView (b : BookView) : Type 0 where
  pub few : length b.slots ≤ b.capacity
  pub bound : b.capacity ≤ 4294967295
  pub some_price : 1 ≤ b.prices
  pub few_prices : b.prices ≤ 20000
  pub by_place : AllPairs (λ s t. s.order.place < t.order.place) b.slots
  pub handles : AllPairs (λ s t. s.handle ≢ t.handle) b.slots
  pub pairs : AllPairs (λ s t. is_of s.order.caller s.order.own t.order ≡ false) b.slots
  pub some : All (λ s. 1 ≤ s.order.left) b.slots
  pub limit : All (λ s. s.order.left ≤ 100000000) b.slots
  pub spots : All (λ s. IsSpotBelow b.prices s.order.spot) b.slots

-- an order that the book may take in: later than all that it has, of a caller's entry that it has not, and there is room
pub record IsFresh (b : BookView) (o : Order) : Type 0 where
  pub last : All (λ s. s.order.place < o.place) b.slots
  pub pair : All (λ s. is_of o.caller o.own s.order ≡ false) b.slots
  pub room : length b.slots < b.capacity
  pub some : 1 ≤ o.left
  pub limit : o.left ≤ 100000000
  pub spot : IsSpotBelow b.prices o.spot

-- the new book has the order more, at its end, under a handle that named none
pub record IsInserted (old : BookView) (o : Order) (handle : ℕ) (new : BookView) : Type 0 where
  pub slots : new ≡ record old { slots = old.slots ++ slot_of handle o ∷ [] }
  pub fresh : All (λ s. s.handle ≢ handle) old.slots

-- the orders after so many shares were taken from the one at a place, which is gone where it has nothing left
abbrev pub less_taken : ℕ → ℕ → Order → Order
less_taken place by o = less (if place == o.place then by else 0) o

unfoldable pub taken : ℕ → ℕ → List Order → List Order
taken place by os = filter (λ o. nat_lt 0 o.left) (map (less_taken place by) os)
