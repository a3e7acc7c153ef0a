-- What holds of every run of a script: each gateway's events once and in its order, stage by stage, and what its reads of boards show. The
-- order between gateways inside one stage is free.
use Rattle.std.specs.Prelude.{◌≡◌, ℕ, ◌==◌, ◌≤◌, Bool, not, if◌then◌else◌, List, length, map, filter, filter_map, take, drop, count_by, min, nat_lt, nat_le, Option, Some, None, IfSome, All, AllPairs, slice_get}
use Rattle.std.specs.List.{AllZip}
use Rattle.mkt_base.specs.declared.event.Entry.{Entry}
use Rattle.mkt_base.specs.declared.event.Event.{Event}
use Rattle.mkt_base.specs.declared.journal.Halt.{Halt}
use Rattle.mkt_base.specs.declared.script.Act.{Act}
use Rattle.mkt_base.specs.declared.script.Act.TheVariants.{Do, Show}
use Rattle.mkt_base.specs.declared.script.ShowLine.{ShowLine}
use Rattle.rules_file.specs.declared.rules.Rules.{Rules}
use Rattle.script_file.specs.Own.{events_by, is_event}
use Rattle.script_file.specs.declared.script.GatewayScriptLine.{GatewayScriptLine}
use Rattle.script_file.specs.declared.script.Script.{Script}
use Rattle.issue_machine.specs.History.{entries_by}
use Rattle.run_report.specs.Report.{IsRun, Run}
use Rattle.run_report.specs.declared.ended.EndedIssue.{EndedIssue}

-- ---- what a gateway enters in an issue

-- the event that a line enters
abbrev pub event_in : Act → Option Event
event_in (Do event) = Some event
event_in Show = None

-- the lines by which a gateway enters events in an issue, in the script's order: their places are its own numbers there
abbrev pub lines_of : ℕ → ℕ → List GatewayScriptLine → List GatewayScriptLine
lines_of issue gateway made = events_by (record { 0 = gateway }) issue made

-- their events, and their stages
abbrev pub events_for : ℕ → ℕ → List GatewayScriptLine → List Event
events_for issue gateway made = filter_map (λ (of : GatewayScriptLine). event_in of.line.act) (lines_of issue gateway made)

abbrev pub stages_for : ℕ → ℕ → List GatewayScriptLine → List ℕ
stages_for issue gateway made = map (λ (of : GatewayScriptLine). of.line.stage) (lines_of issue gateway made)

-- what a gateway entered in a journal
abbrev pub entered_by : ℕ → List Entry → List Event
entered_by gateway journal = map (λ (e : Entry). e.event) (entries_by gateway journal)

-- how many events a gateway has entered in a journal
abbrev pub count_of : ℕ → List Entry → ℕ
count_of gateway journal = length (entries_by gateway journal)

-- ---- stages

-- the stage of a gateway's entry: that of the line that entered it. The losses of a turn belong to the stage of its event.
abbrev pub stage_of : ℕ → List GatewayScriptLine → Entry → Option ℕ
stage_of issue made e = if e.caller.0 == 0 then None else slice_get (stages_for issue e.caller.0 made) e.own

-- the stages of the gateways' entries, in the journal's order
abbrev pub stages_in : ℕ → List GatewayScriptLine → List Entry → List ℕ
stages_in issue made journal = filter_map (stage_of issue made) journal

-- ---- an issue that is halted

-- what a gateway entered in an issue that was halted in this stage: its first events, among them all of earlier stages and none of a later
-- one
pub record IsCut (issue gateway : ℕ) (made : List GatewayScriptLine) (journal : List Entry) (stage : ℕ) : Type 0 where
  pub first : entered_by gateway journal ≡ take (count_of gateway journal) (events_for issue gateway made)
  pub within : count_of gateway journal ≤ length (events_for issue gateway made)
  pub earlier : count_by (λ (s : ℕ). nat_lt s stage) (stages_for issue gateway made) ≤ count_of gateway journal
  pub no_later : count_of gateway journal ≤ count_by (λ (s : ℕ). nat_le s stage) (stages_for issue gateway made)

-- the halt's event is the next one of its gateway
pub record IsHaltIn (issue : ℕ) (made : List GatewayScriptLine) (journal : List Entry) (h : Halt) : Type 0 where
  pub next : slice_get (events_for issue h.caller.0 made) (count_of h.caller.0 journal) ≡ Some h.event
  pub stage : ℕ
  pub at : slice_get (stages_for issue h.caller.0 made) (count_of h.caller.0 journal) ≡ Some stage
  pub cut : (gateway : ℕ) → 1 ≤ gateway → IsCut issue gateway made journal stage

-- each gateway's events are in the journal, in the script's order; of a halted issue those before the halt
abbrev pub AreEntered : ℕ → List GatewayScriptLine → List Entry → Option Halt → Type 0
AreEntered issue made journal None = (gateway : ℕ) → 1 ≤ gateway → entered_by gateway journal ≡ events_for issue gateway made
AreEntered issue made journal (Some h) = IsHaltIn issue made journal h

-- what holds of one issue
pub record IsIssueRun (issue : ℕ) (made : List GatewayScriptLine) (ended : EndedIssue) : Type 0 where
  pub entered : AreEntered issue made ended.journal ended.halt
  pub order : AllPairs (λ (s t : ℕ). s ≤ t) (stages_in issue made ended.journal)

-- ---- reads of boards

-- a line reads the board
abbrev pub is_show : GatewayScriptLine → Bool
is_show of = not (is_event of.line.act)

-- how many events a gateway enters in an issue by lines before this one
abbrev pub made_before : ℕ → ℕ → ℕ → List GatewayScriptLine → ℕ
made_before issue gateway line made = count_by (λ (of : GatewayScriptLine). nat_lt of.line.line line) (lines_of issue gateway made)

-- A read of the board stands for a line, and names the front of the journal that it was read from, by its length: whole turns, with all
-- entries of earlier stages and none of a later one, and of its own gateway's entries those of the lines before it.
pub record IsShowOf (made : List GatewayScriptLine) (journal : List Entry) (of : GatewayScriptLine) (s : ShowLine) : Type 0 where
  pub line : s.line ≡ of.line.line
  pub gateway : s.gateway ≡ of.gateway
  pub issue : s.issue ≡ of.line.issue
  pub whole : IfSome (slice_get journal s.board.length) (λ (e : Entry). 1 ≤ e.caller.0)
  pub front : All (λ (n : ℕ). n ≤ of.line.stage) (stages_in of.line.issue made (take s.board.length journal))
  pub behind : All (λ (n : ℕ). of.line.stage ≤ n) (stages_in of.line.issue made (drop s.board.length journal))
  pub own : count_of of.gateway.0 (take s.board.length journal) ≡ min (made_before of.line.issue of.gateway.0 of.line.line made) (count_of of.gateway.0 journal)

-- a gateway's reads of one issue's board never go back
abbrev pub IsNoShorter : ShowLine → ShowLine → Type 0
IsNoShorter a b = a.gateway ≡ b.gateway → a.issue ≡ b.issue → a.board.length ≤ b.board.length

-- ---- the run

-- one read of the board for each line that asks for one and each issue that it names, and no other
abbrev pub AreShowsOf : List GatewayScriptLine → List EndedIssue → List ShowLine → Type 0
AreShowsOf made issues shows =
    AllZip (λ (of : GatewayScriptLine) (s : ShowLine). (ended : EndedIssue) → slice_get issues of.line.issue ≡ Some ended → IsShowOf made ended.journal of s) (filter is_show made) shows

-- A run of a script: it may be printed; each issue has what the script's gateways entered, in the order of stages; and each read of a board
-- shows what its gateway could see.
pub record IsRunOf (rules : Rules) (script : Script) (run : Run) : Type 0 where
  pub printable : IsRun rules run
  pub issues : (issue : ℕ) (ended : EndedIssue) → slice_get run.issues issue ≡ Some ended → IsIssueRun issue script.lines ended
  pub shows : AreShowsOf script.lines run.issues run.shows
  pub forward : AllPairs IsNoShorter run.shows
