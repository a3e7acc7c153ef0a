-- What the gateways did in one issue, when all stages are done, against the journal and the halt that the issue has at its end.
use Rattle.std.specs.Prelude.{◌≡◌, ℕ, ◌==◌, ◌&&◌, ◌≤◌, true, false, List, map, filter, take, length, Option, None, Some, IfSome, All, AllPairs, slice_get}
use Rattle.std.specs.List.{AllZip}
use Rattle.mkt_base.specs.Desk.{DeskState}
use Rattle.mkt_base.specs.declared.event.Entry.{Entry}
use Rattle.mkt_base.specs.declared.journal.Halt.{Halt}
use Rattle.mkt_base.specs.declared.journal.Stopped.{Stopped}
use Rattle.mkt_base.specs.declared.journal.TurnStop.TheVariants.{NoNode}
use Rattle.mkt_base.specs.declared.quote.Board.{Board}
use Rattle.mkt_base.specs.declared.script.ScriptLine.{ScriptLine}
use Rattle.mkt_base.specs.declared.script.ShowLine.{ShowLine}
use Rattle.script_file.specs.declared.script.GatewayScriptLine.{GatewayScriptLine}
use Rattle.run_law.specs.Run.{IsShowOf, count_of, entered_by, is_show}
use Rattle.run_report.specs.declared.ended.EndedIssue.{EndedIssue}
use Rattle.gateway.specs.Ran.{Deed}
use Rattle.gateway.specs.Served.{Answer, AreTold, act_of, first_stop, is_no_node, lengths_shown, made_by}
use Rattle.stage_law.specs.Come.{Cut, IsReadWithin, answers_of, done_before, entered_in}

-- a board of this length was read when this caller had entered so many events: the journal's front part of the length has just these of the
-- caller, and ends with a whole turn
pub record IsTold (caller : ℕ) (journal : List Entry) (board : Board) (made : ℕ) : Type 0 where
  pub within : board.length ≤ length journal
  pub own : count_of caller (take board.length journal) ≡ made
  pub whole : IfSome (slice_get journal board.length) (λ (e : Entry). 1 ≤ e.caller.0)

-- What is known of a gateway's desk when its pass has ended and the issue is closed.
pub record IsAtEnd (caller : ℕ) (journal : List Entry) (outcome : Option Halt) (state : DeskState) (tells : Board → ℕ → Type 0) : Type 0 where
  pub entered : entered_by caller journal ≡ state.made
  pub told : (board : Board) (made : ℕ) → tells board made → IsTold caller journal board made
  -- its first stop found no node
  pub stop : (stopped : Stopped) → state.stop ≡ Some stopped → stopped.cause ≡ NoNode
  -- a halt that it has seen is the issue's; it ended only since it saw one; and a halt of its own event is its first stop
  pub halt : (h : Halt) → state.halt ≡ Some h → outcome ≡ Some h
  pub ended : state.ended ≡ true → outcome ≡ None → ⊥
  pub own : (h : Halt) → outcome ≡ Some h → h.caller.0 ≡ caller → state.stop ≡ Some (record { event = h.event; cause = NoNode })

-- What a gateway did in an issue, by the journal and the halt at the issue's end. The deeds are those in this issue alone.
pub record HasPlayed (caller stages : ℕ) (cuts : ℕ → Cut) (journal : List Entry) (halt : Option Halt) (deeds : List Deed) : Type 0 where
  pub entered : entered_by caller journal ≡ entered_in deeds
  pub first : (stopped : Stopped) → first_stop None (answers_of deeds) ≡ Some stopped → stopped.cause ≡ NoNode
  pub quiet : AllPairs (λ (x y : Answer). is_no_node x ≡ true → made_by y ≡ None) (answers_of deeds)
  pub calm : halt ≡ None → All (λ (x : Answer). is_no_node x ≡ false) (answers_of deeds)
  pub boards : AreTold (IsTold caller journal) 0 (answers_of deeds)
  pub forward : AllPairs (λ (m n : ℕ). m ≤ n) (lengths_shown (answers_of deeds))
  pub read : All (IsReadWithin cuts) deeds
  pub cut : (s : ℕ) → s ≤ stages → count_of caller (take (cuts s).length journal) ≡ length (entered_in (done_before s deeds))
  pub running : (s : ℕ) → s ≤ stages → (cuts s).halted ≡ false → All (λ (x : Deed). is_no_node x.answer ≡ false) (done_before s deeds)
  pub halted : (s : ℕ) → s ≤ stages → (cuts s).halted ≡ true → entered_in deeds ≡ entered_in (done_before s deeds)
  pub own : (h : Halt) → halt ≡ Some h → h.caller.0 ≡ caller → first_stop None (answers_of deeds) ≡ Some (record { event = h.event; cause = NoNode })
  pub known : (s : ℕ) → s ≤ stages → (cuts s).halted ≡ true → (h : Halt) → halt ≡ Some h → h.caller.0 ≡ caller → first_stop None (answers_of (done_before s deeds)) ≡ None → ⊥

-- ---- the lines that the deeds are of

-- the lines of a gateway, and those of it in one issue
abbrev pub lines_by : ℕ → List GatewayScriptLine → List GatewayScriptLine
lines_by gateway made = filter (λ (of : GatewayScriptLine). of.gateway.0 == gateway) made

abbrev pub lines_at : ℕ → ℕ → List GatewayScriptLine → List GatewayScriptLine
lines_at issue gateway made = filter (λ (of : GatewayScriptLine). of.gateway.0 == gateway && of.line.issue == issue) made

-- their script lines
abbrev pub bare : List GatewayScriptLine → List ScriptLine
bare made = map (λ (of : GatewayScriptLine). of.line) made

abbrev pub lines_done : List Deed → List ScriptLine
lines_done deeds = map (λ (x : Deed). x.line) deeds

-- the deeds at the desk of an issue
abbrev pub deeds_at : ℕ → List Deed → List Deed
deeds_at issue deeds = filter (λ (x : Deed). x.line.issue == issue) deeds

-- every line of a gateway in an issue was done, and the desk told of it what its journal bears out
pub record HasPlayedLines (made : List GatewayScriptLine) (stages issue gateway : ℕ) (cuts : ℕ → Cut) (ended : EndedIssue) (deeds : List Deed) : Type 0 where
  pub lines : lines_done deeds ≡ bare (lines_at issue gateway made)
  pub asked : All (λ (x : Deed). act_of x.answer ≡ x.line.act) deeds
  pub played : HasPlayed gateway stages cuts ended.journal ended.halt deeds

-- a gateway's reads of boards are those that its lines ask for, and show what they may
abbrev pub AreReadsBy : List GatewayScriptLine → List EndedIssue → ℕ → List ShowLine → Type 0
AreReadsBy made issues gateway shows =
    AllZip (λ (of : GatewayScriptLine) (s : ShowLine). (ended : EndedIssue) → slice_get issues of.line.issue ≡ Some ended → IsShowOf made ended.journal of s)
    (filter is_show (lines_by gateway made)) shows
