-- How far an order that arrives has come: what the parts of the code promise of it.
use Rattle.std.specs.Prelude.{◌≡◌, ℕ, ◌<◌, ◌≤◌, ◌||◌, Bool, true, false, List, [], ◌++◌, Option, Some, None, All, IsTrue, if◌then◌else◌, length, map, slice_get}
use Rattle.std.specs.Option.{is_some}
use Rattle.mkt_base.specs.Book.{limit_of}
use Rattle.mkt_base.specs.Fills.{after_trades}
use Rattle.mkt_base.specs.declared.auction.Trade.{Trade}
use Rattle.mkt_base.specs.declared.order.Order.{Order}
use Rattle.mkt_base.specs.declared.order.Spot.TheVariants.{At}
use Rattle.mkt_base.specs.declared.order.Side.{Side}
use Rattle.mkt_base.specs.declared.output.Output.{Output}
use Rattle.mkt_base.specs.declared.units.Price.{Price}
use Rattle.book_law.specs.BookView.{BookView, Names, is_of, orders, side_of}
use Rattle.zaraba.specs.Arrival.{Arrival, Jump, arrival_over, crossed, crosses, is_beyond, is_gap, limit_price, opposite, way}
use Rattle.zaraba.specs.declared.next.Next.{Next}
use Rattle.zaraba.specs.declared.stop.Stop.{Stop}
use Rattle.zaraba.specs.declared.stop.Stop.TheVariants.{Gap, Sequence}
use Rattle.mkt_base.specs.declared.output.Output.TheVariants.{Traded}

-- a book over the grid that has no market order and would take the order in, whatever it has left
pub record Awaits (grid : List Price) (o : Order) (b : BookView) : Type 0 where
  pub size : length grid ≡ b.prices
  pub limited : All (λ x. is_some (limit_of grid x.spot) ≡ true) (orders b)
  pub earlier : All (λ x. x.place < o.place) (orders b)
  pub others : All (λ x. is_of o.caller o.own x ≡ false) (orders b)
  pub room : length b.slots < b.capacity

-- the order with so many shares left
abbrev pub with_left : Order → ℕ → Order
with_left o left = record o { left = left }

-- what the order does, with so many shares left, against the book from a last price on
abbrev pub ahead : List Price → (ℕ → ℕ) → ℕ → Order → BookView → ℕ → ℕ → Arrival
ahead grid range first o b left last = arrival_over grid range first (crossed grid o (orders b)) (with_left o left) last

-- the same arrival behind other trades
abbrev pub with_trades : List Trade → Arrival → Arrival
with_trades ts a = record a { trades = ts ++ a.trades }

abbrev pub jump : ℕ → ℕ → Jump
jump from to = record { from = from; to = to }

-- from the last price to that of an order
abbrev pub jump_to : List Price → ℕ → Order → Jump
jump_to grid last x = jump last (limit_price grid x)

-- the price of the order is too far from the last price, or from the first
abbrev pub is_too_far : List Price → (ℕ → ℕ) → ℕ → ℕ → Order → Bool
is_too_far grid range first last x = is_gap range (jump_to grid last x) || is_beyond range first (jump_to grid last x)

-- why an order of this side stops before a price that is too far, where it is
abbrev pub stop_before : (ℕ → ℕ) → ℕ → Side → Jump → Option Stop
stop_before range first side j = if is_gap range j then Some (Gap (way j)) else if is_beyond range first j then Some (Sequence side) else None

-- the first order on the other side: its handle names it, its limit stands on the grid, and it has something left
pub record IsFront (grid : List Price) (o : Order) (b : BookView) (next : Next) : Type 0 where
  pub names : Names b next.handle next.order
  pub front : slice_get (side_of b (opposite o.side)) 0 ≡ Some next.order
  pub spot : next.order.spot ≡ At next.at
  pub inside : next.at < length grid
  pub some : 1 ≤ next.order.left

-- it is crossed, and near enough
pub record IsNext (grid : List Price) (range : ℕ → ℕ) (first last : ℕ) (o : Order) (b : BookView) (next : Next) : Type 0 where
  pub front : IsFront grid o b next
  pub crossed : IsTrue (crosses grid o next.order)
  pub near : is_too_far grid range first last next.order ≡ false

-- An order with so many shares left stops at this last price with nothing more to trade.
abbrev pub IsStopped : List Price → (ℕ → ℕ) → ℕ → Order → BookView → ℕ → ℕ → Stop → Type 0
IsStopped grid range first o b left last stop =
    ahead grid range first o b left last ≡ record { trades = []; left = left; last = last; stop = stop }

-- the trades of an order since its arrival: it goes on as if it came now, with what is left of it
pub record IsWalked (grid : List Price) (range : ℕ → ℕ) (first : ℕ) (o : Order) (old new : BookView) (from to last now : ℕ) (done : List Trade) : Type 0 where
  pub rest : ahead grid range first o old from last ≡ with_trades done (ahead grid range first o new to now)
  pub book : orders new ≡ after_trades done (orders old)
  pub awaits : Awaits grid o new
  pub capacity : new.capacity ≡ old.capacity
  pub within : to ≤ from

-- what the loop over the resting orders has done, and what the watch was told of it
pub record IsWalking {W : Type 0} (took : W → List Output → W → Type 0) (grid : List Price) (range : ℕ → ℕ) (first : ℕ) (o : Order) (old new : BookView) (left now : ℕ) (from to : W) : Type 0 where
  pub done : List Trade
  pub walked : IsWalked grid range first o old new o.left left first now done
  pub told : (start : W) (outputs : List Output) → took start outputs from → took start (outputs ++ map (λ t. Traded t) done) to
