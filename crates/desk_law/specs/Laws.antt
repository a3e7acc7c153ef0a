-- The law of an issue that was closed when all its gateways had done their lines at its desks: the clause of a function.
use Rattle.std.specs.Prelude.{◌≡◌, ℕ, ◌<◌, ◌≤◌, List, [], length, take, IfSome, All}
use Rattle.mkt_base.specs.declared.event.Entry.{Entry}
use Rattle.mkt_base.specs.declared.journal.Halt.{Halt}
use Rattle.mkt_base.specs.declared.quote.Board.{Board}
use Rattle.turn_cell.specs.Passes.{Known}
use Rattle.rules_file.specs.Rules.{gateways_in}
use Rattle.rules_file.specs.declared.rules.Rules.{Rules}
use Rattle.script_file.specs.Script.{IsScript}
use Rattle.script_file.specs.declared.script.Script.{Script}
use Rattle.issue_machine.specs.Step.{board_of, state_after}
use Rattle.issue_journal.specs.Issue.{Fixed, IssueNow}
use Rattle.issue_desk.specs.Closed.{HasClosed}
use Rattle.issue_desk.specs.Desk.{DeskNow, Tells, state_of}
use Rattle.gateway.specs.Ran.{Deed}
use Rattle.gateway.specs.Served.{act_of, board_by}
use Rattle.stage_law.specs.Come.{Cut, HasCome}
use Rattle.stage_law.specs.Laws.{AllPlayed}
use Rattle.stage_law.specs.Played.{bare, lines_at, lines_done}
use Rattle.script_run.specs.Running.{capacity_for, count_for, ended_as}

-- a gateway has done all its lines in an issue, at this desk
pub record HasDoneLines (script : Script) (issue gateway : ℕ) (cuts : ℕ → Cut) (deeds : List Deed) (d : DeskNow) : Type 0 where
  pub lines : lines_done deeds ≡ bare (lines_at issue gateway script.lines)
  pub asked : All (λ (x : Deed). act_of x.answer ≡ x.line.act) deeds
  pub come : HasCome gateway script.stages cuts deeds (state_of d) (Tells d.pass)

-- all gateways of the rules have, and the issue, which was opened for the script, was closed with their passes; the deeds of each by its number
pub record HasEnded (rules : Rules) (script : Script) (issue : ℕ) (cuts : ℕ → Cut) (deeds : ℕ → List Deed) (desks : ℕ → DeskNow) (final : Known Fixed) (i : IssueNow) : Type 0 where
  pub capacity : i.fixed.capacity ≡ capacity_for (count_for issue script.lines)
  pub closed : HasClosed (length (gateways_in rules)) desks final i
  pub did : (gateway : ℕ) → 1 ≤ gateway → gateway ≤ length (gateways_in rules) → HasDoneLines script issue gateway cuts (deeds gateway) (desks gateway)
  pub others : (gateway : ℕ) → length (gateways_in rules) < gateway → deeds gateway ≡ []

-- a board is that of the issue's first entries, as many as it tells
pub record IsBoardIn (i : IssueNow) (board : Board) : Type 0 where
  pub within : board.length ≤ length i.entries
  pub board_is : board ≡ board_of i.fixed.terms (state_after i.fixed.terms (take board.length i.entries))

-- what the gateways did in the issue is played; the boards that they read are the issue's; and no caller is above the gateways
pub record IsPlayed (gateways : ℕ) (script : Script) (issue : ℕ) (cuts : ℕ → Cut) (deeds : ℕ → List Deed) (i : IssueNow) : Type 0 where
  pub all : AllPlayed script issue cuts (ended_as i) deeds
  pub boards : (gateway : ℕ) → 1 ≤ gateway → All (λ (x : Deed). IfSome (board_by x.answer) (IsBoardIn i)) (deeds gateway)
  pub callers : All (λ (e : Entry). e.caller.0 ≤ gateways) i.entries
  pub halter : IfSome i.halt (λ (h : Halt). h.caller.0 ≤ gateways)

-- No journal was too small for its events, so each stop had found no node, and what the desks tell holds of the closed issue.
abbrev pub EndIsPlayed : Type 0
EndIsPlayed =
    (rules : Rules) (script : Script) (issue : ℕ) (cuts : ℕ → Cut) (deeds : ℕ → List Deed) (desks : ℕ → DeskNow) (final : Known Fixed) (i : IssueNow)
    → IsScript rules script → HasEnded rules script issue cuts deeds desks final i → IsPlayed (length (gateways_in rules)) script issue cuts deeds i
