-- The nodes that an issue left, and the issue that is made of them again.
use Rattle.std.specs.Prelude.{◌≡◌, ℕ, ◌+◌, List, [], ◌++◌, length, None, ◌⊎◌}
use Rattle.mkt_base.specs.declared.journal.NodeState.TheVariants.{Synchronised}
use Rattle.memory_node.specs.declared.node.Label.{Label}
use Rattle.mkt_io.specs.Faults.{Rises}
use Rattle.mirror.specs.Replicas.{Replica, replica}
use Rattle.turn_writer.specs.Losses.{AreLosses, Grew, losses_from}
use Rattle.issue_machine.specs.History.{entries_by, nodes_after}
use Rattle.issue_journal.specs.Issue.{IsIssueNow, IssueNow, RoomView, fixed_in}

-- a node is one that was left in a state, as it was left
abbrev pub IsNode : Replica → List (List ℕ) → ℕ → Label → ℕ → ℕ → Type 0
IsNode left contents spare label most faults = left ≡ replica left.state contents spare label most faults

-- an issue of the same rules, number and capacity as the room is for, that runs
pub record IsFor (room : RoomView) (left : IssueNow) : Type 0 where
  pub issue : IsIssueNow left
  pub running : left.halt ≡ None
  pub terms : left.fixed.terms ≡ room.terms
  pub participants : left.fixed.participants ≡ room.participants
  pub number : left.fixed.issue ≡ room.issue
  pub capacity : left.fixed.capacity ≡ room.capacity

-- The issue that was adopted has the journal that was left, and behind it the loss of each node that failed while it was adopted.
pub record WasAdopted (room : RoomView) (left new : IssueNow) : Type 0 where
  pub losses : List ℕ
  pub fixed : new.fixed ≡ fixed_in room (length left.entries) left.fixed.first left.fixed.second left.fixed.third
  pub entries : new.entries ≡ left.entries ++ losses_from (length left.entries) (length (entries_by 0 left.entries)) losses
  pub lost : AreLosses (nodes_after left.entries) losses
  pub grew : Grew losses left.nodes new.nodes
  pub halt : new.halt ≡ None

-- a node that is given back: as it was, or it failed and is empty, and its label and room are as they were
pub record IsGivenBack (left : Replica) (contents : List (List ℕ)) (spare : ℕ) (label : Label) (faults : ℕ) : Type 0 where
  pub kept : ((contents ≡ left.contents) × (spare ≡ left.spare) × (faults ≡ left.faults)) ⊎ ((contents ≡ []) × Rises left.faults faults)
  pub label_is : label ≡ left.label
  pub room : length contents + spare ≡ length left.contents + left.spare
  pub failed : left.state ≡ Synchronised → (contents ≡ []) × Rises left.faults faults
