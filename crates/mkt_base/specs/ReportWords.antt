-- The words that the report prints for phases, quotes, node states, events, replies and refusals. Those for sides and
-- prices stand with the certificate.
use Rattle.std.specs.Prelude.{ℕ, List, [], ◌∷◌, Option, Some, None, codes, slice_index_or}
use Rattle.std.specs.Fmt.{decimal}
use Rattle.mkt_base.specs.Text.{time_text}
use Rattle.mkt_base.specs.Certificate.{side_word}
use Rattle.mkt_base.specs.declared.event.Event.{Event}
use Rattle.mkt_base.specs.declared.event.Event.TheVariants as events
use Rattle.mkt_base.specs.declared.event.Phase.{Phase}
use Rattle.mkt_base.specs.declared.event.Phase.TheVariants.{Idle, Collecting, Trading}
use Rattle.mkt_base.specs.declared.event.Reason.{Reason}
use Rattle.mkt_base.specs.declared.event.Reason.TheVariants.{Closed, BadQty, BadPrice, UnknownOrder, NotYours, TimeBack, NodeDown, NodeUp}
use Rattle.mkt_base.specs.declared.event.Reply.{Reply}
use Rattle.mkt_base.specs.declared.event.Reply.TheVariants as replies
use Rattle.mkt_base.specs.declared.journal.NodeState.{NodeState}
use Rattle.mkt_base.specs.declared.journal.NodeState.TheVariants.{Lost, Joining, Synchronised}
use Rattle.mkt_base.specs.declared.order.Kind.{Kind}
use Rattle.mkt_base.specs.declared.order.Kind.TheVariants.{Market, Limit}
use Rattle.mkt_base.specs.declared.quote.QuoteKind.{QuoteKind}
use Rattle.mkt_base.specs.declared.quote.QuoteKind.TheVariants.{Special, Sequential}
use Rattle.mkt_base.specs.declared.quote.Quote.{Quote}

abbrev pub phase_word : Phase → List ℕ
phase_word Idle = codes "idle"
phase_word Collecting = codes "collecting"
phase_word Trading = codes "trading"

abbrev pub node_state_word : NodeState → List ℕ
node_state_word Lost = codes "lost"
node_state_word (Joining records) = codes "joining"
node_state_word Synchronised = codes "synchronised"

-- a moment, or a dash where there is none
abbrev pub moment_word : Option ℕ → List ℕ
moment_word None = codes "-"
moment_word (Some at) = time_text at

abbrev pub quote_kind_word : QuoteKind → List ℕ
quote_kind_word Special = codes "special"
quote_kind_word Sequential = codes "sequential"

-- KIND SIDE PRICE DUE
abbrev pub quote_words : Quote → List (List ℕ)
quote_words q = quote_kind_word q.kind ∷ side_word q.side ∷ decimal q.price.0 ∷ moment_word q.due ∷ []

-- a name by its number; each number that is printed has one
abbrev pub name_of : List (List ℕ) → ℕ → List ℕ
name_of names n = slice_index_or names n []

-- `market`, or the limit price
abbrev pub kind_word : Kind → List ℕ
kind_word Market = codes "market"
kind_word (Limit price) = decimal price.0

-- an event, as a script enters it behind the gateway and the issue, under the participants' names
abbrev pub event_words : List (List ℕ) → Event → List (List ℕ)
event_words participants (events.Order participant side kind qty) =
    codes "order" ∷ name_of participants participant.0 ∷ side_word side ∷ kind_word kind ∷ decimal qty.0 ∷ []
event_words participants (events.Change participant target kind qty) =
    codes "change" ∷ name_of participants participant.0 ∷ decimal target ∷ kind_word kind ∷ decimal qty.0 ∷ []
event_words participants (events.Cancel participant target) = codes "cancel" ∷ name_of participants participant.0 ∷ decimal target ∷ []
event_words participants (events.Clock at) = codes "clock" ∷ time_text at ∷ []
event_words participants (events.Crash node) = codes "crash" ∷ decimal node ∷ []
event_words participants (events.Rejoin node) = codes "rejoin" ∷ decimal node ∷ []

-- the number of a refusal's reason
abbrev pub reason_number : Reason → ℕ
reason_number (Closed phase) = 1
reason_number (BadQty qty) = 2
reason_number (BadPrice price) = 3
reason_number (UnknownOrder target) = 4
reason_number (NotYours participant) = 5
reason_number (TimeBack now) = 6
reason_number (NodeDown node) = 7
reason_number (NodeUp node) = 8

-- the value that shows a reason, under the participants' names
abbrev pub reason_word : List (List ℕ) → Reason → List ℕ
reason_word participants (Closed phase) = phase_word phase
reason_word participants (BadQty qty) = decimal qty.0
reason_word participants (BadPrice price) = decimal price.0
reason_word participants (UnknownOrder target) = decimal target
reason_word participants (NotYours participant) = name_of participants participant.0
reason_word participants (TimeBack now) = time_text now
reason_word participants (NodeDown node) = decimal node
reason_word participants (NodeUp node) = decimal node

-- a reply, under the participants' names
abbrev pub reply_words : List (List ℕ) → Reply → List (List ℕ)
reply_words participants (replies.Accepted place filled left) = codes "accepted" ∷ decimal place ∷ decimal filled ∷ decimal left ∷ []
reply_words participants (replies.Changed place filled left) = codes "changed" ∷ decimal place ∷ decimal filled ∷ decimal left ∷ []
reply_words participants (replies.Cancelled left) = codes "cancelled" ∷ decimal left ∷ []
reply_words participants (replies.Moment steps) = codes "moment" ∷ decimal steps ∷ []
reply_words participants (replies.NodeOut node) = codes "out" ∷ decimal node ∷ []
reply_words participants (replies.NodeIn node) = codes "joined" ∷ decimal node ∷ []
reply_words participants (replies.Refused reason) = codes "refused" ∷ decimal (reason_number reason) ∷ reason_word participants reason ∷ []
