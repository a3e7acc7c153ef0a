-- The laws of runs by stages: the clauses of functions.
use Rattle.std.specs.Prelude.{◌≡◌, ℕ, ◌≤◌, List, filter_map, length, Some, AllPairs, slice_get}
use Rattle.mkt_base.specs.declared.journal.Halt.{Halt}
use Rattle.mkt_base.specs.declared.units.Caller.{Caller}
use Rattle.rules_file.specs.declared.rules.Rules.{Rules}
use Rattle.rules_file.specs.Rules.{issues_in}
use Rattle.script_file.specs.Script.{IsScript}
use Rattle.script_file.specs.declared.script.Script.{Script}
use Rattle.issue_machine.specs.History.{IsHistory}
use Rattle.run_law.specs.Run.{IsIssueRun, IsNoShorter}
use Rattle.run_report.specs.declared.ended.EndedIssue.{EndedIssue}
use Rattle.gateway.specs.Ran.{Deed, show_of}
use Rattle.stage_law.specs.Come.{Cut}
use Rattle.stage_law.specs.Played.{AreReadsBy, HasPlayedLines, bare, deeds_at, lines_by, lines_done}

-- every gateway did its lines in an issue: the deeds of each by its number; and a halt is of a gateway's event
pub record AllPlayed (script : Script) (issue : ℕ) (cuts : ℕ → Cut) (ended : EndedIssue) (deeds : ℕ → List Deed) : Type 0 where
  pub each : (gateway : ℕ) → 1 ≤ gateway → HasPlayedLines script.lines script.stages issue gateway cuts ended (deeds gateway)
  pub halter : (h : Halt) → ended.halt ≡ Some h → 1 ≤ h.caller.0

-- An issue in which every gateway did its lines, stage by stage, is one of a run of the script.
abbrev pub PlayedIsRun : Type 0
PlayedIsRun =
    (rules : Rules) (script : Script) (participants issue : ℕ) (cuts : ℕ → Cut) (ended : EndedIssue) (deeds : ℕ → List Deed)
    → IsScript rules script → IsHistory participants ended.journal → AllPlayed script issue cuts ended deeds → IsIssueRun issue script.lines ended

-- The boards that a gateway read, over all issues, are those that its lines ask for.
abbrev pub PlayedShows : Type 0
PlayedShows =
    (rules : Rules) (script : Script) (participants : ℕ) (issues : List EndedIssue) (cuts : ℕ → ℕ → Cut) (deeds : ℕ → List Deed) (gateway : Caller)
    → IsScript rules script → 1 ≤ gateway.0 → length issues ≡ length (issues_in rules)
    → ((issue : ℕ) (ended : EndedIssue) → slice_get issues issue ≡ Some ended → IsHistory participants ended.journal)
    → ((issue : ℕ) (ended : EndedIssue) → slice_get issues issue ≡ Some ended → AllPlayed script issue (cuts issue) ended (λ g. deeds_at issue (deeds g)))
    → lines_done (deeds gateway.0) ≡ bare (lines_by gateway.0 script.lines)
    → AreReadsBy script.lines issues gateway.0 (filter_map (show_of gateway) (deeds gateway.0)) × AllPairs IsNoShorter (filter_map (show_of gateway) (deeds gateway.0))
