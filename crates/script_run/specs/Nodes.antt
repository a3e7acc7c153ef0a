-- What the nodes of an issue hold when they are given back: of an issue that is not halted the journal, of one that is halted nothing.
use Rattle.std.specs.Prelude.{◌≡◌, ℕ, ◌+◌, ◌≤◌, ◌<◌, true, false, List, [], map, length, Option, Some, None, slice_get}
use Rattle.mkt_base.specs.declared.event.Entry.{Entry}
use Rattle.mkt_base.specs.declared.journal.Halt.{Halt}
use Rattle.memory_node.specs.Given.{Given}
use Rattle.memory_node.specs.declared.node.Label.{Label}
use Rattle.mirror.specs.Mirrored.{HoldsAs}
use Rattle.node_rules.specs.Nodes.{crashes, has_synchronised, is_synchronised, node_step, state_at}
use Rattle.record_codec.specs.Entry.{spelling}
use Rattle.issue_machine.specs.History.{nodes_after}
use Rattle.issue_journal.specs.Issue.{recorded}
use Rattle.run_report.specs.Report.{Run}
use Rattle.run_report.specs.declared.ended.EndedIssue.{EndedIssue}

-- the label of a node of an issue
abbrev pub node_label : ℕ → ℕ → Label
node_label issue node = record { issue = issue; node = node }

-- a node of an issue that is not halted holds the spelled journal, a front part of it, or nothing, as the journal leaves its state
abbrev pub IsKept : List Entry → ℕ → Given → Type 0
IsKept journal node given = HoldsAs (map spelling journal) (state_at (nodes_after journal) node) given.contents

-- A node of an issue that is halted holds nothing. Where the journal leaves it synchronised, and the halt's event does not crash it, it
-- failed more often than the journal records. It never held more than three records beyond the journal.
pub record IsEmptied (journal : List Entry) (h : Halt) (node : ℕ) (given : Given) : Type 0 where
  pub contents : given.contents ≡ []
  pub failed : is_synchronised (state_at (nodes_after journal) node) ≡ true → crashes h.event node ≡ false → recorded node journal < given.faults
  pub most : given.most ≤ length journal + 3

-- no failure that is not recorded
abbrev pub IsQuiet : List Entry → ℕ → Given → Type 0
IsQuiet journal node given = recorded node journal < given.faults → ⊥

-- the three nodes of an issue at the end
pub record AreKept (journal : List Entry) (a b c : Given) : Type 0 where
  pub first : IsKept journal 0 a
  pub second : IsKept journal 1 b
  pub third : IsKept journal 2 c

-- where no node of a halted issue failed more often than is recorded, the halt's event itself leaves no node synchronised
pub record AreEmptied (journal : List Entry) (h : Halt) (a b c : Given) : Type 0 where
  pub first : IsEmptied journal h 0 a
  pub second : IsEmptied journal h 1 b
  pub third : IsEmptied journal h 2 c
  pub by_event : IsQuiet journal 0 a → IsQuiet journal 1 b → IsQuiet journal 2 c
      → has_synchronised (node_step (length journal) h.caller.0 h.event (nodes_after journal)) ≡ false

abbrev pub AreAtEnd : List Entry → Option Halt → Given → Given → Given → Type 0
AreAtEnd journal None first second third = AreKept journal first second third
AreAtEnd journal (Some h) first second third = AreEmptied journal h first second third

-- the three nodes of an issue were given back so; and of each no more losses are recorded than it had failures
pub record AreGivenBack (given : Label → Option Given) (issue : ℕ) (ended : EndedIssue) : Type 0 where
  pub first : Given
  pub second : Given
  pub third : Given
  pub first_is : given (node_label issue 0) ≡ Some first
  pub second_is : given (node_label issue 1) ≡ Some second
  pub third_is : given (node_label issue 2) ≡ Some third
  pub at_end : AreAtEnd ended.journal ended.halt first second third
  pub first_count : recorded 0 ended.journal ≤ first.faults
  pub second_count : recorded 1 ended.journal ≤ second.faults
  pub third_count : recorded 2 ended.journal ≤ third.faults

-- those of all issues of a run
abbrev pub AllGivenBack : (Label → Option Given) → Run → Type 0
AllGivenBack given run = (issue : ℕ) (ended : EndedIssue) → slice_get run.issues issue ≡ Some ended → AreGivenBack given issue ended
