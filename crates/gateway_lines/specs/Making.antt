-- The gateways of a script, before their first lines.
use Rattle.std.specs.Prelude.{◌≡◌, ℕ, ◌+◌, ◌<◌, List, [], length, slice_index_or}
use Rattle.script_file.specs.declared.script.GatewayScriptLine.{GatewayScriptLine}
use Rattle.gateway.specs.Ran.{GatewayNow}
use Rattle.stage_law.specs.Played.{bare, lines_by}

-- the gateway of this number, with all its lines in file order, and no board read
pub record IsGatewayOf (made : List GatewayScriptLine) (number : ℕ) (g : GatewayNow) : Type 0 where
  pub caller : g.caller.0 ≡ number
  pub lines : g.lines ≡ bare (lines_by number made)
  pub shows : g.shows ≡ []

-- so many gateways, in the order of their numbers, from 1
pub record AreGatewaysOf (made : List GatewayScriptLine) (gateways : ℕ) (gs : List GatewayNow) : Type 0 where
  pub many : length gs ≡ gateways
  pub each : (k : ℕ) (g : GatewayNow) → k < gateways → IsGatewayOf made (k + 1) (slice_index_or gs k g)
