-- The issues of a script while it is replayed, line by line.
use Rattle.std.specs.Prelude.{◌≡◌, ℕ, ◌+◌, ◌*◌, ◌==◌, ◌<◌, ◌≤◌, Bool, ◌&&◌, List, [], ◌∷◌, ◌++◌, length, map, take, filter, min, count_by, Some, None, IfSome, All, slice_get, slice_set, slice_index_or}
use Rattle.std.specs.List.{AllZip, range_with_len}
use Rattle.mkt_base.specs.declared.event.Entry.{Entry}
use Rattle.mkt_base.specs.declared.event.Event.{Event}
use Rattle.mkt_base.specs.declared.script.Act.{Act}
use Rattle.mkt_base.specs.declared.script.Act.TheVariants.{Do, Show}
use Rattle.mkt_base.specs.declared.script.ShowLine.{ShowLine}
use Rattle.mkt_base.specs.declared.units.Caller.{Caller}
use Rattle.memory_node.specs.declared.node.Label.{Label}
use Rattle.rules_file.specs.Rules.{gateways_in, issues_in, participants_in}
use Rattle.rules_file.specs.declared.issue.IssueRules.{IssueRules}
use Rattle.rules_file.specs.declared.rules.Rules.{Rules}
use Rattle.script_file.specs.Script.{is_event}
use Rattle.script_file.specs.declared.script.GatewayScriptLine.{GatewayScriptLine}
use Rattle.issue_book.specs.IssueView.{terms_of}
use Rattle.issue_machine.specs.Journal.{IsEventOf}
use Rattle.issue_machine.specs.Step.{board_of, state_after}
use Rattle.issue_journal.specs.Issue.{IsIssueNow, IssueNow, state_of}
use Rattle.issue_journal.specs.Turned.{HasPlace}
use Rattle.run_law.specs.Replayed.{AreInFileOrder, calls_for, calls_in, lines_before}
use Rattle.run_report.specs.Report.{Run}
use Rattle.run_report.specs.declared.ended.EndedIssue.{EndedIssue}
use Rattle.run_law.specs.Run.{is_show}
use Rattle.script_run.specs.Entering.{WasEntered}
use Rattle.script_run.specs.Nodes.{node_label}

-- a line enters an event in this issue
abbrev pub is_for : ℕ → GatewayScriptLine → Bool
is_for issue of = of.line.issue == issue && is_event of.line.act

-- how many events lines enter in an issue
abbrev pub count_for : ℕ → List GatewayScriptLine → ℕ
count_for issue made = count_by (is_for issue) made

-- and in each of so many issues
abbrev pub counts_for : ℕ → List GatewayScriptLine → List ℕ
counts_for issues made = map (λ issue. count_for issue made) (range_with_len 0 issues)

-- how many entries an issue takes that is opened for a script: its events, and losses of its nodes
abbrev pub capacity_for : ℕ → ℕ
capacity_for count = 2 * count + 4

-- an issue that was opened for so many events
pub record IsOpenedFor (rules : Rules) (issue count : ℕ) (i : IssueNow) : Type 0 where
  pub issue_now : IsIssueNow i
  pub terms : (r : IssueRules) → slice_get (issues_in rules) issue ≡ Some r → i.fixed.terms ≡ terms_of rules r
  pub participants : i.fixed.participants ≡ length (participants_in rules)
  pub capacity : i.fixed.capacity ≡ capacity_for count
  pub place : i.fixed.place ≡ 0
  pub first : i.fixed.first ≡ node_label issue 0
  pub second : i.fixed.second ≡ node_label issue 1
  pub third : i.fixed.third ≡ node_label issue 2
  pub callers : All (λ (e : Entry). e.caller.0 ≤ length (gateways_in rules)) i.entries
  pub halter : IfSome i.halt (λ h. h.caller.0 ≤ length (gateways_in rules))

-- an issue after some of a script's lines, in file order
pub record IsAfter (rules : Rules) (made done : List GatewayScriptLine) (issue : ℕ) (i : IssueNow) : Type 0 where
  pub opened : IsOpenedFor rules issue (count_for issue made) i
  pub order : AreInFileOrder issue done i.entries i.halt

-- each issue of a list, from a number on
abbrev pub EachFrom : (ℕ → IssueNow → Type 0) → ℕ → List IssueNow → Type 0
EachFrom P n [] = Unit {0}
EachFrom P n (i ∷ is) = P n i × EachFrom P (n + 1) is

-- all of them after these lines
abbrev pub AllAfter : Rules → List GatewayScriptLine → List GatewayScriptLine → List IssueNow → Type 0
AllAfter rules made done issues = EachFrom (IsAfter rules made done) 0 issues

-- a read of an issue's board, as the issue stands now
pub record IsReadNow (done : List GatewayScriptLine) (i : IssueNow) (of : GatewayScriptLine) (s : ShowLine) : Type 0 where
  pub line : s.line ≡ of.line.line
  pub gateway : s.gateway ≡ of.gateway
  pub issue : s.issue ≡ of.line.issue
  pub within : s.board.length ≤ length i.entries
  pub board_is : s.board ≡ board_of i.fixed.terms (state_after i.fixed.terms (take s.board.length i.entries))
  pub whole : IfSome (slice_get i.entries s.board.length) (λ (e : Entry). 1 ≤ e.caller.0)
  pub calls : length (calls_in (take s.board.length i.entries)) ≡ min (length (calls_for of.line.issue (lines_before of.line.line done))) (length (calls_in i.entries))

-- a read for each line that asks for one
abbrev pub AllReadNow : List GatewayScriptLine → List IssueNow → List ShowLine → Type 0
AllReadNow done issues shows =
    AllZip (λ (of : GatewayScriptLine) (s : ShowLine). (i : IssueNow) → slice_get issues of.line.issue ≡ Some i → IsReadNow done i of s) (filter is_show done) shows

-- an issue before its first line
pub record IsFresh (rules : Rules) (counts : List ℕ) (issue : ℕ) (i : IssueNow) : Type 0 where
  pub opened : IsOpenedFor rules issue (slice_index_or counts issue 0) i
  pub entries : i.entries ≡ []
  pub halt : i.halt ≡ None

-- the nodes of the issues below a number are out, and no others
pub record AreOutBelow (is_out : Label → Type 0) (n : ℕ) : Type 0 where
  pub below : (l : Label) → is_out l → (l.issue < n) × (l.node < 3)
  pub out : (l : Label) → l.issue < n → l.node < 3 → is_out l

-- the nodes of the issues from a number on, below another, are out, and no others
pub record AreOutFrom (is_out : Label → Type 0) (n issues : ℕ) : Type 0 where
  pub from : (l : Label) → is_out l → (n ≤ l.issue) × (l.issue < issues) × (l.node < 3)
  pub out : (l : Label) → n ≤ l.issue → l.issue < issues → l.node < 3 → is_out l

-- an issue whose nodes have the labels of this number, made at its journal's begin
pub record IsLabelled (number : ℕ) (i : IssueNow) : Type 0 where
  pub issue_now : IsIssueNow i
  pub place : i.fixed.place ≡ 0
  pub first : i.fixed.first ≡ node_label number 0
  pub second : i.fixed.second ≡ node_label number 1
  pub third : i.fixed.third ≡ node_label number 2

-- how an issue ended
abbrev pub ended_as : IssueNow → EndedIssue
ended_as i = record { journal = i.entries; halt = i.halt }

-- the issue has room for an event and the losses that it may leave, or is halted
abbrev pub HasPlaceFor : Event → IssueNow → Type 0
HasPlaceFor event i = i.halt ≡ None → HasPlace event i

-- a line may be done: its event is one that its issue takes, and has room for
abbrev pub MayDo : Caller → Act → IssueNow → Type 0
MayDo gateway (Do event) i = IsEventOf i.fixed.participants event × HasPlaceFor event i
MayDo gateway Show i = Unit {0}

-- what a gateway reads of an issue's board at a line
abbrev pub read_of : GatewayScriptLine → IssueNow → ShowLine
read_of of i = record { line = of.line.line; gateway = of.gateway; issue = of.line.issue; board = board_of i.fixed.terms (state_of i) }

-- what a line does: an event changes its issue, a read of the board none
abbrev pub WasDone : GatewayScriptLine → Act → List IssueNow → List IssueNow → Type 0
WasDone of (Do event) old new =
    (x : IssueNow) × (new ≡ slice_set old of.line.issue x) × ((i : IssueNow) → slice_get old of.line.issue ≡ Some i → WasEntered of.gateway event i x)
WasDone of Show old new = new ≡ old

-- and the reads of boards after it
abbrev pub WasRead : GatewayScriptLine → Act → List IssueNow → List ShowLine → List ShowLine → Type 0
WasRead of (Do event) issues old new = new ≡ old
WasRead of Show issues old new = (i : IssueNow) → slice_get issues of.line.issue ≡ Some i → new ≡ old ++ read_of of i ∷ []

-- the issues and the reads after these lines
pub record HasCome (rules : Rules) (made done : List GatewayScriptLine) (issues : List IssueNow) (shows : List ShowLine) : Type 0 where
  pub each : length issues ≡ length (issues_in rules)
  pub after : AllAfter rules made done issues
  pub reads : AllReadNow done issues shows

-- the run that they make
abbrev pub run_of : List EndedIssue → List ShowLine → Run
run_of issues shows = record { issues = issues; shows = shows }

-- a label that is none of an issue's three nodes
abbrev pub IsOther : ℕ → Label → Type 0
IsOther issue l = (k : ℕ) → k < 3 → l ≡ node_label issue k → ⊥
