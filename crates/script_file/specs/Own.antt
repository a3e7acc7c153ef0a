-- Own numbers: a gateway's events in an issue, counted from 0.
use Rattle.std.specs.Prelude.{ℕ, Bool, true, false, ◌&&◌, ◌==◌, List, filter, slice_get}
use Rattle.std.specs.Option.{option_map_or}
use Rattle.mkt_base.specs.declared.event.Event.TheVariants as events
use Rattle.mkt_base.specs.declared.script.Act.{Act}
use Rattle.mkt_base.specs.declared.script.Act.TheVariants.{Do, Show}
use Rattle.mkt_base.specs.declared.units.Caller.{Caller}
use Rattle.script_file.specs.declared.script.GatewayScriptLine.{GatewayScriptLine}

-- a line makes an event, or only reads the board
abbrev pub is_event : Act → Bool
is_event (Do event) = true
is_event Show = false

-- a line enters a new order
abbrev pub is_order : Act → Bool
is_order (Do (events.Order participant side kind qty)) = true
is_order act = false

-- the events that lines make of a gateway in an issue, in the order of the lines: their places are its own numbers there
abbrev pub events_by : Caller → ℕ → List GatewayScriptLine → List GatewayScriptLine
events_by gateway issue made = filter (λ (of : GatewayScriptLine). of.gateway.0 == gateway.0 && of.line.issue == issue && is_event of.line.act) made

-- the gateway's event of this own number in the issue is an order
unfoldable pub is_order_of : List GatewayScriptLine → Caller → ℕ → ℕ → Bool
is_order_of made gateway issue own = option_map_or (λ (of : GatewayScriptLine). is_order of.line.act) (slice_get (events_by gateway issue made) own) false
