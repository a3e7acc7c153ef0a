-- Orders, changes and cancellations: their refusals and their replies.
use Rattle.std.specs.Prelude.{ℕ, ◌%◌, ◌==◌, ◌&&◌, Bool, true, false, List, [], ◌∷◌, Option, None, Some, unwrap_or, is_none, if◌then◌else◌, nat_lt, nat_le}
use Rattle.mkt_base.specs.Priority.{is_same_spot}
use Rattle.mkt_base.specs.declared.event.Entry.{Entry}
use Rattle.mkt_base.specs.declared.event.Phase.{Phase}
use Rattle.mkt_base.specs.declared.event.Phase.TheVariants.{Idle}
use Rattle.mkt_base.specs.declared.event.Reason.{Reason}
use Rattle.mkt_base.specs.declared.event.Reason.TheVariants.{Closed, BadQty, BadPrice, UnknownOrder, NotYours}
use Rattle.mkt_base.specs.declared.event.Reply.{Reply}
use Rattle.mkt_base.specs.declared.event.Reply.TheVariants as replies
use Rattle.mkt_base.specs.declared.order.Kind.{Kind}
use Rattle.mkt_base.specs.declared.order.Kind.TheVariants as kinds
use Rattle.mkt_base.specs.declared.order.Order.{Order}
use Rattle.mkt_base.specs.declared.order.Side.{Side}
use Rattle.mkt_base.specs.declared.order.Spot.{Spot}
use Rattle.mkt_base.specs.declared.order.Spot.TheVariants.{Market}
use Rattle.mkt_base.specs.declared.units.Participant.{Participant}
use Rattle.mkt_base.specs.declared.units.Qty.{Qty}
use Rattle.tick_grid.specs.Grid.{index_of}
use Rattle.issue_book.specs.Entering.{enter, lower, named, spot_of, take_out}
use Rattle.issue_book.specs.Filled.{filled_on, left_of}
use Rattle.issue_book.specs.Quoting.{try_quote}
use Rattle.issue_book.specs.State.{Move, State, Terms, stay, ◌then◌}

-- ---- reasons to refuse

-- the first reason of several that may stand or not
abbrev pub first_reason : List (Option Reason) → Option Reason
first_reason [] = None
first_reason (None ∷ rs) = first_reason rs
first_reason (Some r ∷ rs) = Some r

abbrev pub is_idle : Phase → Bool
is_idle Idle = true
is_idle phase = false

-- no orders are taken while the phase is idle
abbrev pub closed : State → Option Reason
closed s = if is_idle s.phase then Some (Closed s.phase) else None

-- a quantity is 1 to 100,000,000 shares and a multiple of the unit
abbrev pub is_quantity : Terms → ℕ → Bool
is_quantity t qty = nat_le 1 qty && nat_le qty 100000000 && (qty % t.unit == 0)

abbrev pub bad_qty : Terms → Qty → Option Reason
bad_qty t qty = if is_quantity t qty.0 then None else Some (BadQty qty)

-- a limit stands on the grid
abbrev pub bad_price : Terms → Kind → Option Reason
bad_price t kinds.Market = None
bad_price t (kinds.Limit p) = if is_none (index_of t.grid p.0) then Some (BadPrice p) else None

-- no such order, or one of another participant
abbrev pub unknown : ℕ → Option Order → Option Reason
unknown target None = Some (UnknownOrder target)
unknown target (Some o) = None

abbrev pub not_yours : Participant → Option Order → Option Reason
not_yours participant None = None
not_yours participant (Some o) = if participant.0 == o.participant.0 then None else Some (NotYours o.participant)

-- ---- what is replied

-- a move with its reply
pub record Replied : Type 0 where
  pub move : Move
  pub reply : Reply

abbrev pub refused : Reason → State → Replied
refused reason s = record { move = stay s; reply = replies.Refused reason }

-- a refusal where there is a reason, else what follows
abbrev pub unless : Option Reason → State → Replied → Replied
unless None s replied = replied
unless (Some reason) s replied = refused reason s

-- the order of an entry
abbrev pub order_of : Entry → Participant → Side → Spot → ℕ → Order
order_of e participant side spot qty =
    record { place = e.place; caller = e.caller; own = e.own; participant = participant; side = side; spot = spot; left = qty }

-- an order that was taken or changed is told its place, what it filled in the event and what it has left after it
abbrev pub accepted : Order → Move → Replied
accepted o m = record { move = m; reply = replies.Accepted o.place (filled_on m o.place) (left_of o.caller o.own m.state) }

abbrev pub changed : Order → Move → Replied
changed o m = record { move = m; reply = replies.Changed o.place (filled_on m o.place) (left_of o.caller o.own m.state) }

-- An order.
abbrev pub take_order : Terms → Entry → Participant → Side → Kind → Qty → State → Replied
take_order t e participant side kind qty s =
    let o : Order = order_of e participant side (unwrap_or (spot_of t kind) Market) qty.0 in
    unless (first_reason (closed s ∷ bad_qty t qty ∷ bad_price t kind ∷ [])) s (accepted o (enter t o s then try_quote t))

-- A change: a lower quantity of the same kind keeps the order's place; every other change takes it out and lets it enter anew
-- under its own number, with the entry's place.
abbrev pub change_to : Terms → Entry → Spot → ℕ → Order → State → Replied
change_to t e spot qty o s =
    let anew : Order = record o { place = e.place; spot = spot; left = qty } in
    if is_same_spot spot o.spot && nat_lt qty o.left then changed o (stay (lower o.caller o.own qty s) then try_quote t)
    else changed anew (enter t anew (take_out o.caller o.own s) then try_quote t)

abbrev pub change_named : Terms → Entry → Spot → ℕ → Option Order → State → Replied
change_named t e spot qty None s = refused (UnknownOrder e.own) s
change_named t e spot qty (Some o) s = change_to t e spot qty o s

abbrev pub take_change : Terms → Entry → Participant → ℕ → Kind → Qty → State → Replied
take_change t e participant target kind qty s =
    let found : Option Order = named e.caller target s in
    unless (first_reason (closed s ∷ bad_qty t qty ∷ bad_price t kind ∷ unknown target found ∷ not_yours participant found ∷ [])) s
    (change_named t e (unwrap_or (spot_of t kind) Market) qty.0 found s)

-- A cancellation.
abbrev pub cancel_named : Terms → Entry → Option Order → State → Replied
cancel_named t e None s = refused (UnknownOrder e.own) s
cancel_named t e (Some o) s = record { move = stay (take_out o.caller o.own s) then try_quote t; reply = replies.Cancelled o.left }

abbrev pub take_cancel : Terms → Entry → Participant → ℕ → State → Replied
take_cancel t e participant target s =
    let found : Option Order = named e.caller target s in
    unless (first_reason (closed s ∷ unknown target found ∷ not_yours participant found ∷ [])) s (cancel_named t e found s)
