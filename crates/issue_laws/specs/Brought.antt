-- What an entry trades, and the orders that it finds.
use Rattle.std.specs.Prelude.{ℕ, ◌==◌, ◌&&◌, not, Bool, true, false, List, [], ◌∷◌, ◌++◌, map, filter, filter_map, find, Option, None, Some, unwrap_or, if◌then◌else◌, nat_lt, sum_by}
use Rattle.mkt_base.specs.Book.{total_left}
use Rattle.mkt_base.specs.Priority.{is_same_side, is_same_spot}
use Rattle.mkt_base.specs.declared.auction.Trade.{Trade}
use Rattle.mkt_base.specs.declared.event.Entry.{Entry}
use Rattle.mkt_base.specs.declared.event.Event.{Event}
use Rattle.mkt_base.specs.declared.event.Event.TheVariants as events
use Rattle.mkt_base.specs.declared.event.Reply.{Reply}
use Rattle.mkt_base.specs.declared.event.Reply.TheVariants as replies
use Rattle.mkt_base.specs.declared.order.Order.{Order}
use Rattle.mkt_base.specs.declared.order.Side.{Side}
use Rattle.mkt_base.specs.declared.order.Spot.{Spot}
use Rattle.mkt_base.specs.declared.order.Spot.TheVariants.{Market}
use Rattle.mkt_base.specs.declared.output.Output.{Output}
use Rattle.book_law.specs.BookView.{is_of}
use Rattle.issue_book.specs.Entering.{lowered, spot_of}
use Rattle.issue_book.specs.Filled.{trade_in}
use Rattle.issue_book.specs.State.{State, Terms}
use Rattle.issue_machine.specs.Answering.{order_of}
use Rattle.issue_machine.specs.Step.{step}

-- the trades among outputs
abbrev pub trades_in : List Output → List Trade
trades_in outputs = filter_map trade_in outputs

-- and the shares of trades
abbrev pub shares_of : List Trade → ℕ
shares_of trades = sum_by (λ t. t.qty) trades

-- what the orders of a side have left
abbrev pub left_on : Side → List Order → ℕ
left_on side os = total_left (λ o. is_same_side side o.side) os

-- what the order at a place has left; at most one stands there
abbrev pub left_at : ℕ → List Order → ℕ
left_at place os = sum_by (λ o. if place == o.place then o.left else 0) os

-- the orders without one of them
abbrev pub without : Order → List Order → List Order
without o os = filter (λ x. not (is_of o.caller o.own x)) os

-- the orders where one of them is to have another spot and quantity: a lower quantity at the same spot keeps its place, and
-- with every other change the order comes last
abbrev pub with_change : Entry → Spot → ℕ → Order → List Order → List Order
with_change e spot qty o os =
    if is_same_spot spot o.spot && nat_lt qty o.left then map (lowered o.caller o.own qty) os
    else without o os ++ record o { place = e.place; spot = spot; left = qty } ∷ []

-- what is done with an order, where it is in the book
abbrev pub where_found : Option Order → (Order → List Order → List Order) → List Order → List Order
where_found None does os = os
where_found (Some o) does os = does o os

-- the orders that an event finds where it is not refused: a new order has joined them, a changed or cancelled one is changed or
-- gone, and the clock finds them as they are
abbrev pub brought_by : Terms → Entry → Event → List Order → List Order
brought_by t e (events.Order participant side kind qty) os = os ++ order_of e participant side (unwrap_or (spot_of t kind) Market) qty.0 ∷ []
brought_by t e (events.Change participant target kind qty) os = where_found (find (is_of e.caller target) os) (with_change e (unwrap_or (spot_of t kind) Market) qty.0) os
brought_by t e (events.Cancel participant target) os = where_found (find (is_of e.caller target) os) without os
brought_by t e event os = os

-- a reply that changes nothing
abbrev pub is_refused : Reply → Bool
is_refused (replies.Refused reason) = true
is_refused reply = false

-- the orders that an entry finds, before anything trades
abbrev pub brought : Terms → Entry → State → List Order
brought t e s = if is_refused (step t e s).reply then s.orders else brought_by t e e.event s.orders
