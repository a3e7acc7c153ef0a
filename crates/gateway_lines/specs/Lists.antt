-- The lists of lines of the gateways, while they are made.
use Rattle.std.specs.Prelude.{◌≡◌, ℕ, ◌+◌, ◌<◌, ◌≤◌, List, [], ◌∷◌, Vec, length, All, slice_index_or, vec_capacity}
use Rattle.std.specs.declared.alloc.Global.{Global}
use Rattle.mkt_base.specs.declared.script.ScriptLine.{ScriptLine}
use Rattle.script_file.specs.declared.script.GatewayScriptLine.{GatewayScriptLine}
use Rattle.gateway.specs.Ran.{GatewayNow}
use Rattle.stage_law.specs.Played.{bare, lines_by}

-- each line is of one of so many gateways
abbrev pub AreOfGateways : ℕ → List GatewayScriptLine → Type 0
AreOfGateways gateways made = All (λ (of : GatewayScriptLine). (1 ≤ of.gateway.0) × (of.gateway.0 ≤ gateways)) made

-- how many of the lines each gateway has
pub record AreCounts (made : List GatewayScriptLine) (gateways : ℕ) (counts : List ℕ) : Type 0 where
  pub many : length counts ≡ gateways
  pub each : (k d : ℕ) → k < gateways → slice_index_or counts k d ≡ length (lines_by (k + 1) made)

-- each gateway's list holds its lines among the first ones, and has just the room for those among all
pub record AreLists (made first : List GatewayScriptLine) (gateways : ℕ) (lists : List (Vec ScriptLine Global)) : Type 0 where
  pub many : length lists ≡ gateways
  pub lines : (k : ℕ) (list : Vec ScriptLine Global) → k < gateways → (slice_index_or lists k list).items ≡ bare (lines_by (k + 1) first)
  pub room : (k : ℕ) (list : Vec ScriptLine Global) → k < gateways → vec_capacity (slice_index_or lists k list) ≡ length (lines_by (k + 1) made)

-- the gateways of these lists, numbered from one number on, before their first lines
abbrev pub numbered : ℕ → List (Vec ScriptLine Global) → List GatewayNow
numbered number [] = []
numbered number (list ∷ lists) = record { caller = record { 0 = number }; lines = list.items; shows = [] } ∷ numbered (number + 1) lists
