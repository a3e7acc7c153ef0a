-- What the reader of a script keeps beside the script.
use Rattle.std.specs.Prelude.{◌≡◌, ℕ, ◌<◌, ◌≤◌, Bool, List, All, ◌++◌, map}
use Rattle.std.specs.List.{range_with_len}
use Rattle.mkt_base.specs.declared.script.Act.{Act}
use Rattle.mkt_base.specs.declared.script.Act.TheVariants.{Do, Show}
use Rattle.mkt_base.specs.declared.units.Caller.{Caller}
use Rattle.rules_file.specs.declared.rules.Rules.{Rules}
use Rattle.script_file.specs.Orders.{AreRowsOf}
use Rattle.script_file.specs.Script.{IsScript, event_count, line_for}
use Rattle.script_file.specs.declared.script.GatewayScriptLine.{GatewayScriptLine}
use Rattle.script_file.specs.declared.script.Script.{Script}

-- how many events a line makes for so many issues
abbrev pub events_of : Act → ℕ → ℕ
events_of (Do event) count = count
events_of Show count = 0

-- the script with a line for each of so many issues from the first on
abbrev pub with_run : Script → ℕ → Caller → Act → ℕ → ℕ → Script
with_run script number gateway act first count = record script { lines = script.lines ++ map (line_for script number gateway act) (range_with_len first count) }

-- what holds of a script before its line of this number: its lines have numbers below it, and no line ended more than one stage
pub record IsScriptBefore (rules : Rules) (script : Script) (number : ℕ) : Type 0 where
  pub sound : IsScript rules script
  pub earlier : All (λ (of : GatewayScriptLine). of.line.line < number) script.lines
  pub ended : script.stages ≤ number

-- a stage is open, the events are those that the lines make, and the rows tell the orders among them
pub record IsKept (made : List GatewayScriptLine) (rows : List (List Bool)) (stages events : ℕ) : Type 0 where
  pub open_stage : 1 ≤ stages
  pub count : events ≡ event_count made
  pub few : events ≤ 500000
  pub orders : AreRowsOf rows made
