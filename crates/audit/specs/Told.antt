-- What the lines of a report tell, one after another.
use Rattle.std.specs.Prelude.{ℕ, ◌+◌, ◌-◌, ◌^◌, ◌<◌, ◌≤◌, ◌==◌, Bool, true, false, not, ◌&&◌, ◌||◌, List, [], ◌∷◌, ◌++◌, Option, Some, None, length, map, take, if◌then◌else◌, nat_lt, nat_le, replicate, slice_get}
use Rattle.std.specs.Option.{option_map_or}
use Rattle.mkt_base.specs.declared.event.Entry.{Entry}
use Rattle.mkt_base.specs.declared.event.Event.{Event}
use Rattle.mkt_base.specs.declared.event.Event.TheVariants as events
use Rattle.mkt_base.specs.declared.event.Phase.TheVariants.{Idle}
use Rattle.mkt_base.specs.declared.journal.Halt.{Halt}
use Rattle.mkt_base.specs.declared.journal.NodeState.{NodeState}
use Rattle.mkt_base.specs.declared.quote.Board.{Board}
use Rattle.mkt_base.specs.declared.script.ShowLine.{ShowLine}
use Rattle.mkt_base.specs.declared.units.Caller.{Caller}
use Rattle.node_rules.specs.Nodes.{has_synchronised, is_lost, node_step, state_at}
use Rattle.rules_file.specs.Rules.{gateways_in, issues_in}
use Rattle.rules_file.specs.declared.issue.IssueRules.{IssueRules}
use Rattle.rules_file.specs.declared.rules.Rules.{Rules}
use Rattle.issue_book.specs.IssueView.{terms_of}
use Rattle.issue_machine.specs.History.{entries_by, nodes_after}
use Rattle.issue_book.specs.State.{State, Terms, start}
use Rattle.issue_machine.specs.Step.{board_of, state_after, step}
use Rattle.run_report.specs.Report.{Run}
use Rattle.run_report.specs.declared.ended.EndedIssue.{EndedIssue}
use Rattle.audit.specs.declared.told.Asked.{Asked}
use Rattle.audit.specs.declared.told.Point.{Point}
use Rattle.audit.specs.declared.told.Point.TheVariants as points

-- How far a report was told: in the part of an issue, behind those that are done, before or behind its halt; or among the reads of
-- boards, before or behind the end.
pub data At : Type 0 where
  Going : List EndedIssue → List Entry → At
  Halted : List EndedIssue → List Entry → Halt → At
  Showing : List EndedIssue → List Asked → At
  Over : List EndedIssue → List Asked → At

-- What a line tells: an entry, a halt, that the issue's nodes stand at its end, a read of a board, the end. The other lines follow from
-- these.
pub data Choice : Type 0 where
  Enter : Caller → Event → Choice
  Stop : Caller → Event → Choice
  Close : Choice
  Show : Asked → Choice
  Finish : Choice

-- the next entry of a caller, and the event of its next turn that found no node
abbrev pub entry_at : List Entry → Caller → Event → Entry
entry_at journal caller event = record { place = length journal; caller = caller; own = length (entries_by caller.0 journal); event = event }

abbrev pub halt_at : List Entry → Caller → Event → Halt
halt_at journal caller event = record { caller = caller; own = length (entries_by caller.0 journal); event = event }

abbrev pub ended_with : List Entry → Option Halt → EndedIssue
ended_with journal halt = record { journal = journal; halt = halt }

-- behind issues that are done the next one begins, where there is one more
abbrev pub behind : Rules → List EndedIssue → At
behind rules done = if nat_lt (length done) (length (issues_in rules)) then Going done [] else Showing done []

-- what is told with one choice more
abbrev pub next : Rules → At → Choice → At
next rules (Going done journal) (Enter caller event) = Going done (journal ++ entry_at journal caller event ∷ [])
next rules (Going done journal) (Stop caller event) = Halted done journal (halt_at journal caller event)
next rules (Going done journal) Close = behind rules (done ++ ended_with journal None ∷ [])
next rules (Halted done journal halt) Close = behind rules (done ++ ended_with journal (Some halt) ∷ [])
next rules (Showing done asked) (Show a) = Showing done (asked ++ a ∷ [])
next rules (Showing done asked) Finish = Over done asked
next rules at choice = at

-- ---- what may be told where

-- the crash of a node that is not lost
abbrev pub crashes_up : List NodeState → Event → Bool
crashes_up nodes (events.Crash node) = not (is_lost (state_at nodes node))
crashes_up nodes event = false

-- An entry may follow a journal: the journal has room, the caller is a gateway or the system, which enters crashes of nodes that are not
-- lost, and not first; and some node is synchronised after it.
unfoldable pub may_enter : ℕ → List Entry → Caller → Event → Bool
may_enter gateways journal caller event =
    nat_lt (length journal) 100000000 && nat_le caller.0 gateways
    && (if caller.0 == 0 then nat_lt 0 (length journal) && crashes_up (nodes_after journal) event else true)
    && has_synchronised (node_step (length journal) caller.0 event (nodes_after journal))

-- a halt is of a gateway
abbrev pub may_stop : ℕ → Caller → Bool
may_stop gateways caller = nat_le 1 caller.0 && nat_le caller.0 gateways

-- the journal of an issue that is done
abbrev pub journal_at : List EndedIssue → ℕ → List Entry
journal_at done issue = option_map_or (λ (ended : EndedIssue). ended.journal) (slice_get done issue) []

-- a read of a board stands behind another: by its line, and in one line by its issue
abbrev pub is_behind : Asked → Asked → Bool
is_behind a b = nat_lt a.line b.line || (a.line == b.line && nat_lt a.issue b.issue)

-- a read of a board may follow others: it names no more entries than its issue has, and stands behind the last of them
unfoldable pub may_show : List EndedIssue → List Asked → Asked → Bool
may_show done asked a =
    nat_le a.length (length (journal_at done a.issue)) && option_map_or (λ last. is_behind last a) (slice_get asked (length asked - 1)) true

-- what is tested before a choice is taken
abbrev pub may : Rules → At → Choice → Bool
may rules (Going done journal) (Enter caller event) = may_enter (length (gateways_in rules)) journal caller event
may rules (Going done journal) (Stop caller event) = may_stop (length (gateways_in rules)) caller
may rules (Going done journal) Close = true
may rules (Halted done journal halt) Close = true
may rules (Showing done asked) (Show a) = may_show done asked a
may rules (Showing done asked) Finish = true
may rules at choice = false

-- ---- the run that is told

-- a board that nobody reads
abbrev pub blank : Board
blank = record { length = 0; phase = Idle; last = record { 0 = 0 }; quote = None; bid = None; ask = None }

-- the board of an issue behind its first entries
unfoldable pub board_at : Rules → List EndedIssue → ℕ → ℕ → Board
board_at rules done issue n =
    option_map_or (λ (r : IssueRules). board_of (terms_of rules r) (state_after (terms_of rules r) (take n (journal_at done issue)))) (slice_get (issues_in rules) issue) blank

-- what was shown where a board was read
abbrev pub shown : Rules → List EndedIssue → Asked → ShowLine
shown rules done a = record { line = a.line; gateway = a.gateway; issue = a.issue; board = board_at rules done a.issue a.length }

-- issues without an entry behind those that are done, up to so many
abbrev pub filled_up : ℕ → List EndedIssue → List EndedIssue
filled_up n done = done ++ replicate (n - length done) (ended_with [] None)

-- all issues, and all reads of boards, as if what is told ended as soon as it may
abbrev pub issues_told : Rules → At → List EndedIssue
issues_told rules (Going done journal) = filled_up (length (issues_in rules)) (done ++ ended_with journal None ∷ [])
issues_told rules (Halted done journal halt) = filled_up (length (issues_in rules)) (done ++ ended_with journal (Some halt) ∷ [])
issues_told rules (Showing done asked) = done
issues_told rules (Over done asked) = done

abbrev pub asked_told : At → List Asked
asked_told (Going done journal) = []
asked_told (Halted done journal halt) = []
asked_told (Showing done asked) = asked
asked_told (Over done asked) = asked

abbrev pub run_told : Rules → At → Run
run_told rules at = record { issues = issues_told rules at; shows = map (shown rules (issues_told rules at)) (asked_told at) }

-- ---- the boards

-- the boards of an issue before each entry and behind the last
abbrev pub boards_from : Terms → State → List Entry → List Board
boards_from t s [] = board_of t s ∷ []
boards_from t s (e ∷ es) = board_of t s ∷ boards_from t (step t e s).state es

unfoldable pub boards_in : Rules → ℕ → List Entry → List Board
boards_in rules issue journal = option_map_or (λ (r : IssueRules). boards_from (terms_of rules r) (start (terms_of rules r)) journal) (slice_get (issues_in rules) issue) []

-- those of the issues from this number on
abbrev pub boards_on : Rules → ℕ → List EndedIssue → List (List Board)
boards_on rules issue [] = []
boards_on rules issue (ended ∷ more) = boards_in rules issue ended.journal ∷ boards_on rules (issue + 1) more

-- a read of a board is of an issue and by a gateway of the rules, and names no more entries than the issue has
pub record IsAsked (rules : Rules) (issues : List EndedIssue) (a : Asked) : Type 0 where
  pub issue : a.issue < length (issues_in rules)
  pub caller : 1 ≤ a.gateway.0
  pub gateway : a.gateway.0 ≤ length (gateways_in rules)
  pub within : a.length ≤ length (journal_at issues a.issue)
  pub number : a.line < 2 ^ 32
  pub few : a.length < 2 ^ 32

-- ---- as the code keeps it

abbrev pub at_point : Point → List EndedIssue → List Entry → Option Halt → List Asked → At
at_point points.Going done journal None asked = Going done journal
at_point points.Going done journal (Some halt) asked = Halted done journal halt
at_point points.Showing done journal halt asked = Showing done asked
at_point points.Over done journal halt asked = Over done asked
