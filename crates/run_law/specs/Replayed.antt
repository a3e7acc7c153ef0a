-- What holds beside it of a script that is replayed: its lines are done in file order.
use Rattle.std.specs.Prelude.{◌≡◌, ℕ, ◌==◌, ◌≤◌, if◌then◌else◌, List, ◌∷◌, ◌++◌, length, filter, filter_map, take, min, nat_lt, Option, Some, None, option_map, IfSome, slice_get}
use Rattle.std.specs.List.{AllZip}
use Rattle.mkt_base.specs.declared.event.Entry.{Entry}
use Rattle.mkt_base.specs.declared.event.Event.{Event}
use Rattle.mkt_base.specs.declared.journal.Halt.{Halt}
use Rattle.mkt_base.specs.declared.script.ShowLine.{ShowLine}
use Rattle.script_file.specs.declared.script.GatewayScriptLine.{GatewayScriptLine}
use Rattle.script_file.specs.declared.script.Script.{Script}
use Rattle.run_report.specs.Report.{Run}
use Rattle.run_report.specs.declared.ended.EndedIssue.{EndedIssue}
use Rattle.run_law.specs.Run.{event_in, is_show}

-- an event, with the gateway that enters it
pub record Call : Type 0 where
  pub gateway : ℕ
  pub event : Event

-- the call that a line makes in this issue
abbrev pub call_in : ℕ → GatewayScriptLine → Option Call
call_in issue of =
    if of.line.issue == issue then option_map (λ (event : Event). record { gateway = of.gateway.0; event = event }) (event_in of.line.act) else None

-- the calls of lines in an issue, in file order
abbrev pub calls_for : ℕ → List GatewayScriptLine → List Call
calls_for issue made = filter_map (call_in issue) made

-- the call of a gateway's entry; the system's entries are of no call
abbrev pub call_of : Entry → Option Call
call_of e = if e.caller.0 == 0 then None else Some (record { gateway = e.caller.0; event = e.event })

-- the calls of a journal
abbrev pub calls_in : List Entry → List Call
calls_in journal = filter_map call_of journal

abbrev pub call_at_halt : Halt → Call
call_at_halt h = record { gateway = h.caller.0; event = h.event }

-- the journal has the calls in file order: all of them, or those before the halt's
abbrev pub AreInFileOrder : ℕ → List GatewayScriptLine → List Entry → Option Halt → Type 0
AreInFileOrder issue made journal None = calls_in journal ≡ calls_for issue made
AreInFileOrder issue made journal (Some h) = (rest : List Call) × (calls_for issue made ≡ calls_in journal ++ call_at_halt h ∷ rest)

-- the lines before a line
abbrev pub lines_before : ℕ → List GatewayScriptLine → List GatewayScriptLine
lines_before line made = filter (λ (of : GatewayScriptLine). nat_lt of.line.line line) made

-- a read of the board shows the journal as it stands at its line: the calls of the lines before, with their losses
pub record IsShowAt (made : List GatewayScriptLine) (journal : List Entry) (of : GatewayScriptLine) (s : ShowLine) : Type 0 where
  pub line : s.line ≡ of.line.line
  pub gateway : s.gateway ≡ of.gateway
  pub issue : s.issue ≡ of.line.issue
  pub whole : IfSome (slice_get journal s.board.length) (λ (e : Entry). 1 ≤ e.caller.0)
  pub calls : length (calls_in (take s.board.length journal)) ≡ min (length (calls_for of.line.issue (lines_before of.line.line made))) (length (calls_in journal))

abbrev pub AreShownInFileOrder : List GatewayScriptLine → List EndedIssue → List ShowLine → Type 0
AreShownInFileOrder made issues shows =
    AllZip (λ (of : GatewayScriptLine) (s : ShowLine). (ended : EndedIssue) → slice_get issues of.line.issue ≡ Some ended → IsShowAt made ended.journal of s) (filter is_show made) shows

-- a script that is replayed
pub record IsReplayOf (script : Script) (run : Run) : Type 0 where
  pub issues : (issue : ℕ) (ended : EndedIssue) → slice_get run.issues issue ≡ Some ended → AreInFileOrder issue script.lines ended.journal ended.halt
  pub shows : AreShownInFileOrder script.lines run.issues run.shows
