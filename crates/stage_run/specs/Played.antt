-- What gateways did in issues that were opened, served, played and closed.
use Rattle.std.specs.Prelude.{◌≡◌, ℕ, ◌+◌, ◌<◌, ◌≤◌, List, [], length, filter_map, Some, All, slice_index_or}
use Rattle.atomic_table.specs.Seated.{TableId}
use Rattle.mkt_base.specs.declared.script.Act.{Act}
use Rattle.mkt_base.specs.declared.script.Act.TheVariants.{Do, Show}
use Rattle.turn_cell.specs.Passes.{Known}
use Rattle.script_file.specs.declared.script.GatewayScriptLine.{GatewayScriptLine}
use Rattle.script_file.specs.declared.script.Script.{Script}
use Rattle.issue_machine.specs.Journal.{IsEventOf}
use Rattle.issue_journal.specs.Issue.{Fixed, IssueNow}
use Rattle.gateway.specs.Ran.{Deed, GatewayNow, show_of}
use Rattle.issue_desk.specs.Closed.{HasClosed}
use Rattle.issue_desk.specs.Desk.{DeskNow}
use Rattle.issue_seats.specs.Back.{AllMet}
use Rattle.stage_law.specs.Come.{Cut}
use Rattle.stage_law.specs.Played.{bare, deeds_at, lines_by, lines_done}
use Rattle.desk_law.specs.Laws.{HasDoneLines}

-- an issue of so many participants takes the act's event
abbrev pub IsActIn : ℕ → Act → Type 0
IsActIn participants (Do event) = IsEventOf participants event
IsActIn participants Show = Unit {0}

-- each line is of an issue, which takes it, and of a stage
pub record AreLinesFor (participants stages : ℕ) (made : List GatewayScriptLine) (issues : List IssueNow) : Type 0 where
  pub issue : All (λ (of : GatewayScriptLine). of.line.issue < length issues) made
  pub acts : All (λ (of : GatewayScriptLine). IsActIn participants of.line.act) made
  pub below : All (λ (of : GatewayScriptLine). of.line.stage < stages) made
  pub same : (n : ℕ) (i : IssueNow) → n < length issues → (slice_index_or issues n i).fixed.participants ≡ participants

-- What each gateway did, by its number from 1, at the desks of so many issues, by issue and gateway; the cuts are those between the stages.
-- It has done all its lines, and at an issue's desk those of the issue; and it has what it read of boards.
pub record AllDid (script : Script) (gateways issues : ℕ) (deeds : ℕ → List Deed) (cuts : ℕ → ℕ → Cut) (desks : ℕ → ℕ → DeskNow) (gs : List GatewayNow) : Type 0 where
  pub did : (n gateway : ℕ) → n < issues → 1 ≤ gateway → gateway ≤ gateways → HasDoneLines script n gateway (cuts n) (deeds_at n (deeds gateway)) (desks n gateway)
  pub lines : (gateway : ℕ) → 1 ≤ gateway → gateway ≤ gateways → lines_done (deeds gateway) ≡ bare (lines_by gateway script.lines)
  pub others : (gateway : ℕ) → gateways < gateway → deeds gateway ≡ []
  pub many : length gs ≡ gateways
  pub numbers : (k : ℕ) (g : GatewayNow) → k < gateways → (slice_index_or gs k g).caller.0 ≡ k + 1
  pub shows : (k : ℕ) (g : GatewayNow) → k < gateways → (slice_index_or gs k g).shows ≡ filter_map (show_of (slice_index_or gs k g).caller) (deeds (k + 1))

-- They did it at the servers of issues, and of each issue the passes of all gateways have met in one.
pub record WereAtDesks (script : Script) (gateways : ℕ) (issues : List IssueNow) (servers : List TableId) (gs : List GatewayNow) (passes : List (Known Fixed)) : Type 0 where
  pub deeds : ℕ → List Deed
  pub cuts : ℕ → ℕ → Cut
  pub desks : ℕ → ℕ → DeskNow
  pub all : AllDid script gateways (length issues) deeds cuts desks gs
  pub passes_each : length passes ≡ length servers
  pub met : (n : ℕ) (s : TableId) (q : Known Fixed) → n < length issues → AllMet gateways (desks n) (slice_index_or servers n s) (slice_index_or passes n q)
  pub fixed : (n : ℕ) (i : IssueNow) (q : Known Fixed) → n < length issues → (slice_index_or passes n q).fixed ≡ Some (slice_index_or issues n i).fixed

-- They did it in these issues, each of which was closed with the passes of all gateways.
pub record WerePlayed (script : Script) (gateways : ℕ) (old new : List IssueNow) (gs : List GatewayNow) : Type 0 where
  pub deeds : ℕ → List Deed
  pub cuts : ℕ → ℕ → Cut
  pub desks : ℕ → ℕ → DeskNow
  pub final : ℕ → Known Fixed
  pub all : AllDid script gateways (length old) deeds cuts desks gs
  pub issues_each : length new ≡ length old
  pub fixed : (n : ℕ) (i : IssueNow) → n < length old → (slice_index_or new n i).fixed ≡ (slice_index_or old n i).fixed
  pub closed : (n : ℕ) (i : IssueNow) → n < length old → HasClosed gateways (desks n) (final n) (slice_index_or new n i)
