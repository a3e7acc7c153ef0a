-- What is kept beside an open journal.
use Rattle.std.specs.Prelude.{◌≡◌, ℕ, ◌<◌, ◌≤◌, List, length, Some, slice_get}
use Rattle.mkt_base.specs.declared.event.Entry.{Entry}
use Rattle.mkt_base.specs.declared.journal.NodeState.{NodeState}
use Rattle.issue_machine.specs.History.{entries_by, nodes_after}

-- the states of the nodes, and how many entries each caller has
pub record IsKept (journal : List Entry) (nodes : List NodeState) (next_own : List ℕ) : Type 0 where
  pub few : length journal ≤ 100000000
  pub nodes_are : nodes ≡ nodes_after journal
  pub owns : (caller : ℕ) → caller < 17 → slice_get next_own caller ≡ Some (length (entries_by caller journal))
