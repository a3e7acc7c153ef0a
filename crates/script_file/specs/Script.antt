-- What the bytes of a script mean, under rules: the lines of the gateways with their stages, or the first fault.
use Rattle.std.specs.Prelude.{◌≡◌, ◌⊎◌, ℕ, Bool, false, ◌+◌, ◌-◌, ◌<◌, ◌≤◌, List, All, AllPairs, [], ◌∷◌, ◌++◌, length, filter, map, Result, Ok, Err, if◌then◌else◌, nat_lt, codes}
use Rattle.std.specs.List.{range_with_len}
use Rattle.std.specs.Str.{bytes_eq}
use Rattle.mkt_base.specs.declared.script.Act.{Act}
use Rattle.mkt_base.specs.declared.units.Caller.{Caller}
use Rattle.mkt_io.specs.Lines.{lines}
use Rattle.mkt_io.specs.LineFault.{◌>>=◌, checked_words, is_skipped, wanted}
use Rattle.mkt_io.specs.declared.fault.LineFault.{LineFault}
use Rattle.mkt_io.specs.declared.fault.LineFault.TheVariants.{TooMany}
use Rattle.rules_file.specs.Rules.{gateways_in, issues_in}
use Rattle.rules_file.specs.declared.rules.Rules.{Rules}
pub use Rattle.script_file.specs.Commands.{IsActOf, IsEventOf}
use Rattle.script_file.specs.Commands.{act_words, next_command}
use Rattle.script_file.specs.Faults.{at_line}
pub use Rattle.script_file.specs.Own.{is_event, is_order_of}
use Rattle.script_file.specs.Words.{AreIssues, IsGateway, gateway_of, next_issues}
use Rattle.script_file.specs.declared.fault.ScriptFault.{ScriptFault}
use Rattle.script_file.specs.declared.reader.Said.{Said}
use Rattle.script_file.specs.declared.reader.Said.TheVariants.{Nothing, Barrier, Line}
use Rattle.script_file.specs.declared.script.GatewayScriptLine.{GatewayScriptLine}
use Rattle.script_file.specs.declared.script.Script.{Script}
use Rattle.script_file.specs.declared.words.Issues.{Issues}
use Rattle.script_file.specs.declared.words.Issues.TheVariants.{One, Each}

-- how many events lines make
abbrev pub event_count : List GatewayScriptLine → ℕ
event_count made = length (filter (λ (of : GatewayScriptLine). is_event of.line.act) made)

-- the numbers of the issues that a line is for: `*` stands for all of them in file order
abbrev pub numbers_of : Rules → Issues → List ℕ
numbers_of rules (One issue) = issue ∷ []
numbers_of rules Each = range_with_len 0 (length (issues_in rules))

-- a gateway's line for one issue, in the stage that is open
abbrev pub line_for : Script → ℕ → Caller → Act → ℕ → GatewayScriptLine
line_for script number gateway act issue =
    record { gateway = gateway; line = record { line = number; stage = script.stages - 1; issue = issue; act = act } }

-- the script with these lines more: the count of events comes last
unfoldable pub with_lines : Script → List GatewayScriptLine → Result Script LineFault
with_lines script more =
    let all = script.lines ++ more in
    if nat_lt 500000 (event_count all) then Err TooMany else Ok (record script { lines = all })

-- what a gateway's line says, word by word: the gateway, the issues, the command and its own words, after the lines made so far
unfoldable pub gateway_line : Rules → List GatewayScriptLine → List (List ℕ) → Result Said LineFault
gateway_line rules made words = do
  first ← wanted words
  gateway ← gateway_of rules first.0
  issues ← next_issues rules first.1
  command ← next_command issues.1
  act ← act_words rules made gateway issues.0 command.0 command.1
  Ok (Line gateway issues.0 act)

-- the line of the one word `barrier`: no gateway's, also where a gateway has that name
abbrev pub is_barrier : List (List ℕ) → Bool
is_barrier (word ∷ []) = bytes_eq word (codes "barrier")
is_barrier words = false

-- what a line with these words says
unfoldable pub said_by : Rules → List GatewayScriptLine → List (List ℕ) → Result Said LineFault
said_by rules made words =
    if is_skipped words then Ok Nothing
    else (if is_barrier words then Ok Barrier else gateway_line rules made words)

-- what a line with this number says, after the tests that come before its words
unfoldable pub words_said : Rules → List GatewayScriptLine → ℕ → List ℕ → Result Said LineFault
words_said rules made number line = checked_words number line >>= said_by rules made

-- the script with what its line of this number says: a barrier makes no line, and ends the stage that is open
abbrev pub with_said : Rules → Script → ℕ → Said → Result Script LineFault
with_said rules script number Nothing = Ok script
with_said rules script number Barrier = Ok (record script { stages = script.stages + 1 })
with_said rules script number (Line gateway issues act) = with_lines script (map (line_for script number gateway act) (numbers_of rules issues))

-- the script after a line, or the line's first fault
unfoldable pub line_said : Rules → Script → ℕ → List ℕ → Result Script ScriptFault
line_said rules script number line = at_line number (words_said rules script.lines number line >>= with_said rules script number)

-- the script after the lines from this number on
unfoldable pub read_lines : Rules → Script → ℕ → List (List ℕ) → Result Script ScriptFault
read_lines rules script number [] = Ok script
read_lines rules script number (line ∷ more) = do
  next ← line_said rules script number line
  read_lines rules next (number + 1) more

-- what the bytes of a script say, or its first fault
abbrev pub script_of : Rules → List ℕ → Result Script ScriptFault
script_of rules bytes = read_lines rules (record { lines = []; stages = 1 }) 1 (lines bytes)

-- what holds of what a line says: its issues, its gateway and its act are of the rules
abbrev pub IsFor : Rules → Said → Type 0
IsFor rules Nothing = Unit {0}
IsFor rules Barrier = Unit {0}
IsFor rules (Line gateway issues act) = AreIssues rules issues × IsGateway rules gateway × IsActOf rules act

-- a line stands before another: its number is below the other's, or both are of one line and its issue is below the other's
abbrev pub IsBefore : GatewayScriptLine → GatewayScriptLine → Type 0
IsBefore a b = (a.line.line < b.line.line) ⊎ ((a.line.line ≡ b.line.line) × (a.line.issue < b.line.issue))

-- what holds of a script that was read
pub record IsScript (rules : Rules) (script : Script) : Type 0 where
  pub issues : All (λ (of : GatewayScriptLine). of.line.issue < length (issues_in rules)) script.lines
  pub gateways : All (λ (of : GatewayScriptLine). (1 ≤ of.gateway.0) × (of.gateway.0 ≤ length (gateways_in rules))) script.lines
  pub acts : All (λ (of : GatewayScriptLine). IsActOf rules of.line.act) script.lines
  pub few : event_count script.lines ≤ 500000
  pub stages : AllPairs (λ (a b : GatewayScriptLine). a.line.stage ≤ b.line.stage) script.lines
  pub below : All (λ (of : GatewayScriptLine). of.line.stage < script.stages) script.lines
  pub rise : AllPairs IsBefore script.lines
  pub some : 1 ≤ script.stages
