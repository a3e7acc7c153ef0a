-- What is seen of an issue that keeps its journal in three nodes, and what holds of it at every time.
use Rattle.std.specs.Prelude.{◌≡◌, ℕ, ◌+◌, ◌<◌, ◌≤◌, Bool, true, false, ◌&&◌, ◌==◌, List, [], length, map, drop, count_by, All, Option, Some, None}
use Rattle.mkt_base.specs.declared.event.Entry.{Entry}
use Rattle.mkt_base.specs.declared.journal.Halt.{Halt}
use Rattle.mkt_base.specs.declared.journal.NodeState.{NodeState}
use Rattle.mkt_base.specs.declared.journal.NodeState.TheVariants.{Lost}
use Rattle.memory_node.specs.declared.node.Label.{Label}
use Rattle.record_codec.specs.Entry.{IsEntry, spelling}
use Rattle.node_rules.specs.Nodes.{crashes, has_synchronised, is_synchronised, node_step, state_at, up}
use Rattle.mirror.specs.Mirrored.{Mirrors}
use Rattle.mirror.specs.Replicas.{Replica, Replicas, states}
use Rattle.rules_file.specs.Rules.{participants_in}
use Rattle.rules_file.specs.declared.issue.IssueRules.{IssueRules}
use Rattle.rules_file.specs.declared.rules.Rules.{Rules}
use Rattle.issue_book.specs.IssueView.{terms_of}
use Rattle.issue_book.specs.State.{State, Terms}
use Rattle.issue_machine.specs.History.{IsHistory, entries_by, nodes_after}
use Rattle.issue_machine.specs.Journal.{IsEventOf}
use Rattle.issue_machine.specs.Step.{state_after}
use Rattle.turn_writer.specs.Writing.{IsRoomy}

-- what no turn changes: the rules of the issue's trading and how many participants there are, the issue's number, how many entries it takes,
-- the place at which it was made, and the labels of its nodes
pub record Fixed : Type 0 where
  pub terms : Terms
  pub participants : ℕ
  pub issue : ℕ
  pub capacity : ℕ
  pub place : ℕ
  pub first : Label
  pub second : Label
  pub third : Label

-- an issue: what is fixed, its journal, the event that halted it, and its nodes
pub record IssueNow : Type 0 where
  pub fixed : Fixed
  pub entries : List Entry
  pub halt : Option Halt
  pub nodes : Replicas

-- the room for an issue, by its number, with so many entries at most
pub record RoomView : Type 0 where
  pub terms : Terms
  pub participants : ℕ
  pub issue : ℕ
  pub capacity : ℕ

abbrev pub room_for : Rules → IssueRules → ℕ → ℕ → RoomView
room_for rules r issue capacity =
    record { terms = terms_of rules r; participants = length (participants_in rules); issue = issue; capacity = capacity }

-- what is fixed of an issue that is made in a room, at a place, of nodes with these labels
abbrev pub fixed_in : RoomView → ℕ → Label → Label → Label → Fixed
fixed_in room place first second third =
    record {
      terms = room.terms;
      participants = room.participants;
      issue = room.issue;
      capacity = room.capacity;
      place = place;
      first = first;
      second = second;
      third = third;
    }

-- the state of the issue's trading
abbrev pub state_of : IssueNow → State
state_of i = state_after i.fixed.terms i.entries

-- the spellings of its journal
abbrev pub spelled_journal : IssueNow → List (List ℕ)
spelled_journal i = map spelling i.entries

-- the system's entry records the loss of this node
abbrev pub records : ℕ → Entry → Bool
records k e = (e.caller.0 == 0) && crashes e.event k

-- how many losses of a node are recorded
abbrev pub recorded : ℕ → List Entry → ℕ
recorded k journal = count_by (records k) journal

-- how many were recorded since the issue was made
abbrev pub recorded_since : ℕ → IssueNow → ℕ
recorded_since k i = recorded k (drop i.fixed.place i.entries)

-- ---- an issue that is not halted

-- its nodes mirror its journal in the states that the rules give, some of them is synchronised, there is room for the loss of each node
-- that is not lost, and no node ever held more records than the journal has
pub record IsRunning (i : IssueNow) : Type 0 where
  pub mirrors : Mirrors (spelled_journal i) i.nodes
  pub states_are : states i.nodes ≡ nodes_after i.entries
  pub some : has_synchronised (states i.nodes) ≡ true
  pub fits : length i.entries + up (states i.nodes) ≤ i.fixed.capacity
  pub first_most : i.nodes.first.most ≤ length i.entries
  pub second_most : i.nodes.second.most ≤ length i.entries
  pub third_most : i.nodes.third.most ≤ length i.entries

-- ---- an issue that is halted

-- a node that the journal leaves synchronised, and that the halt's event does not crash, failed more often than is recorded
abbrev pub FailedMore : Halt → IssueNow → ℕ → Replica → Type 0
FailedMore h i k node = is_synchronised (state_at (nodes_after i.entries) k) ≡ true → crashes h.event k ≡ false → recorded_since k i < node.faults

-- a node that holds nothing, and never held more than the records of the halting turn beyond the journal
pub record IsEmptied (i : IssueNow) (node : Replica) : Type 0 where
  pub state : node.state ≡ Lost
  pub contents : node.contents ≡ []
  pub most : node.most ≤ length i.entries + 3

-- a node failed no more often than is recorded
abbrev pub IsQuiet : IssueNow → ℕ → Replica → Type 0
IsQuiet i k node = recorded_since k i < node.faults → ⊥

-- the states of the nodes after the halt's event, by the rules alone
abbrev pub nodes_at_halt : Halt → IssueNow → List NodeState
nodes_at_halt h i = node_step (length i.entries) h.caller.0 h.event (nodes_after i.entries)

-- The halt is of the event that its caller would have entered next. All nodes are empty. Each node that could have held the event failed
-- more often than the journal records; and where no node did, the event itself leaves no node synchronised.
pub record IsHalted (h : Halt) (i : IssueNow) : Type 0 where
  pub caller : (1 ≤ h.caller.0) × (h.caller.0 < 17)
  pub own : h.own ≡ length (entries_by h.caller.0 i.entries)
  pub event : IsEventOf i.fixed.participants h.event
  pub first : IsEmptied i i.nodes.first
  pub second : IsEmptied i i.nodes.second
  pub third : IsEmptied i i.nodes.third
  pub first_failed : FailedMore h i 0 i.nodes.first
  pub second_failed : FailedMore h i 1 i.nodes.second
  pub third_failed : FailedMore h i 2 i.nodes.third
  pub by_event : IsQuiet i 0 i.nodes.first → IsQuiet i 1 i.nodes.second → IsQuiet i 2 i.nodes.third → has_synchronised (nodes_at_halt h i) ≡ false

-- ---- what holds of every issue

abbrev pub Stands : IssueNow → Option Halt → Type 0
Stands i None = IsRunning i
Stands i (Some h) = IsHalted h i

-- each node has the label that it was made with
pub record AreLabelled (i : IssueNow) : Type 0 where
  pub first : i.nodes.first.label ≡ i.fixed.first
  pub second : i.nodes.second.label ≡ i.fixed.second
  pub third : i.nodes.third.label ≡ i.fixed.third

-- Its journal is a history, of numbers that a record can spell; the losses recorded of a node since the issue was made are no more than the node's faults; and it runs, or it is
-- halted for a cause.
pub record IsIssueNow (i : IssueNow) : Type 0 where
  pub history : IsHistory i.fixed.participants i.entries
  pub numbers : All IsEntry i.entries
  pub place : i.fixed.place ≤ length i.entries
  pub within : length i.entries ≤ i.fixed.capacity
  pub small : i.fixed.capacity ≤ 100000000
  pub first_covered : recorded_since 0 i ≤ i.nodes.first.faults
  pub second_covered : recorded_since 1 i ≤ i.nodes.second.faults
  pub third_covered : recorded_since 2 i ≤ i.nodes.third.faults
  pub roomy : IsRoomy i.fixed.capacity i.nodes
  pub labels : AreLabelled i
  pub stands : Stands i i.halt
