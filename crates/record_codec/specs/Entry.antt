-- The spelling of an entry: which fields its event has, and what they say.
use Rattle.std.specs.Prelude.{◌≡◌, ℕ, ◌==◌, ◌^◌, ◌<◌, List, if◌then◌else◌}
use Rattle.mkt_base.specs.declared.event.Entry.{Entry}
use Rattle.mkt_base.specs.declared.event.Event.{Event}
use Rattle.mkt_base.specs.declared.event.Event.TheVariants.{Order, Change, Cancel, Clock, Crash, Rejoin}
use Rattle.mkt_base.specs.declared.order.Kind.{Kind}
use Rattle.mkt_base.specs.declared.order.Kind.TheVariants.{Market, Limit}
use Rattle.mkt_base.specs.declared.order.Side.{Side}
use Rattle.mkt_base.specs.declared.order.Side.TheVariants.{Buy, Sell}
use Rattle.record_codec.specs.Record.{bytes_of}
use Rattle.record_codec.specs.declared.row.Row.{Row}

-- the number of a side
abbrev pub side_number : Side → ℕ
side_number Buy = 1
side_number Sell = 2

-- whether there is a limit price: 1 without one, 2 with one
abbrev pub limit_number : Kind → ℕ
limit_number Market = 1
limit_number (Limit price) = 2

-- the limit price; a market order has none
abbrev pub price_number : Kind → ℕ
price_number Market = 0
price_number (Limit price) = price.0

-- the fields of an event in a row in which none of them is set
abbrev pub with_event : Event → Row → Row
with_event (Order participant side kind qty) r =
    record r { kind = 1; participant = participant.0; side = side_number side; limit = limit_number kind; price = price_number kind; quantity = qty.0 }
with_event (Change participant target kind qty) r =
    record r { kind = 2; participant = participant.0; limit = limit_number kind; price = price_number kind; quantity = qty.0; target = target }
with_event (Cancel participant target) r = record r { kind = 3; participant = participant.0; target = target }
with_event (Clock at) r = record r { kind = 4; moment = at }
with_event (Crash node) r = record r { kind = 5; node = node }
with_event (Rejoin node) r = record r { kind = 6; node = node }

-- the fields of an entry in a record of a form
abbrev pub fields_of : ℕ → Entry → Row
fields_of form e =
    with_event e.event (record {
      form = form;
      kind = 0;
      caller = e.caller.0;
      own = e.own;
      place = e.place;
      participant = 0;
      side = 0;
      limit = 0;
      price = 0;
      quantity = 0;
      target = 0;
      moment = 0;
      node = 0;
    })

-- the numbers of an event are of their types
abbrev pub IsEvent : Event → Type 0
IsEvent (Order participant side kind qty) = (participant.0 < 2 ^ 16) × (price_number kind < 2 ^ 32) × (qty.0 < 2 ^ 32)
IsEvent (Change participant target kind qty) =
    (participant.0 < 2 ^ 16) × (target < 2 ^ 32) × (price_number kind < 2 ^ 32) × (qty.0 < 2 ^ 32)
IsEvent (Cancel participant target) = (participant.0 < 2 ^ 16) × (target < 2 ^ 32)
IsEvent (Clock at) = at < 86400000
IsEvent (Crash node) = node < 3
IsEvent (Rejoin node) = node < 3

-- the numbers of an entry are of their types
pub record IsEntry (e : Entry) : Type 0 where
  pub caller : e.caller.0 < 2 ^ 16
  pub own : e.own < 2 ^ 32
  pub place : e.place < 2 ^ 64
  pub event : IsEvent e.event

-- the spelling of an entry in a form, and in form 1, in which records are written
unfoldable pub spelling_in : ℕ → Entry → List ℕ
spelling_in form e = bytes_of (fields_of form e)

abbrev pub spelling : Entry → List ℕ
spelling e = spelling_in 1 e

-- the bytes spell the entry at the place, in a form
pub record SpellsIn (form : ℕ) (rec : List ℕ) (place : ℕ) (e : Entry) : Type 0 where
  pub numbers : IsEntry e
  pub place_is : e.place ≡ place
  pub bytes : rec ≡ spelling_in form e

abbrev pub Spells : List ℕ → ℕ → Entry → Type 0
Spells rec place e = SpellsIn 1 rec place e

-- the side of a number, and the kind of a number with its price
abbrev pub side_of : ℕ → Side
side_of n = if n == 1 then Buy else Sell

abbrev pub kind_of : ℕ → ℕ → Kind
kind_of limit price = if limit == 1 then Market else Limit (record { 0 = price })

-- the event of a record whose fields are right
abbrev pub event_of : Row → Event
event_of r =
    if r.kind == 1 then Order (record { 0 = r.participant }) (side_of r.side) (kind_of r.limit r.price) (record { 0 = r.quantity })
    else if r.kind == 2 then Change (record { 0 = r.participant }) r.target (kind_of r.limit r.price) (record { 0 = r.quantity })
    else if r.kind == 3 then Cancel (record { 0 = r.participant }) r.target
    else if r.kind == 4 then Clock r.moment
    else if r.kind == 5 then Crash r.node
    else Rejoin r.node

-- the entry of a record whose fields are right
abbrev pub entry_of : Row → Entry
entry_of r = record { place = r.place; caller = record { 0 = r.caller }; own = r.own; event = event_of r }
