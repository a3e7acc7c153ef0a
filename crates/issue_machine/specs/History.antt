-- Which entry may follow a journal, and the journals that are made so: the histories of an issue.
use Rattle.std.specs.Prelude.{◌≡◌, ℕ, ◌+◌, ◌==◌, ◌<◌, Bool, true, List, [], ◌∷◌, ◌++◌, filter, length}
use Rattle.mkt_base.specs.declared.event.Entry.{Entry}
use Rattle.mkt_base.specs.declared.journal.NodeState.{NodeState}
use Rattle.node_rules.specs.Nodes.{IsLoss, all_synchronised, has_synchronised, node_step}
use Rattle.issue_machine.specs.Journal.{IsEventOf}

-- an entry is this caller's
abbrev pub is_by : ℕ → Entry → Bool
is_by caller e = e.caller.0 == caller

-- the entries of this caller in a journal
abbrev pub entries_by : ℕ → List Entry → List Entry
entries_by caller journal = filter (is_by caller) journal

-- the states of the nodes after entries that stand behind so many
abbrev pub nodes_from : ℕ → List NodeState → List Entry → List NodeState
nodes_from entries nodes [] = nodes
nodes_from entries nodes (e ∷ es) = nodes_from (entries + 1) (node_step entries e.caller.0 e.event nodes) es

-- and after a journal
unfoldable pub nodes_after : List Entry → List NodeState
nodes_after journal = nodes_from 0 all_synchronised journal

-- An entry may follow a journal: it has the next place and its caller's next own number; its event is one that the issue takes; the system
-- enters losses of nodes alone; and some node is synchronised after it.
pub record Follows (participants : ℕ) (before : List Entry) (e : Entry) : Type 0 where
  pub place : e.place ≡ length before
  pub caller : e.caller.0 < 17
  pub own : e.own ≡ length (entries_by e.caller.0 before)
  pub event : IsEventOf participants e.event
  pub loss : e.caller.0 ≡ 0 → IsLoss (length before) (nodes_after before) e.event
  pub kept : has_synchronised (nodes_after (before ++ e ∷ [])) ≡ true

-- entries may follow a journal, one after another
abbrev pub FollowOn : ℕ → List Entry → List Entry → Type 0
FollowOn participants before [] = Unit {0}
FollowOn participants before (e ∷ es) = Follows participants before e × FollowOn participants (before ++ e ∷ []) es

-- a journal that is made so from its first entry on
abbrev pub IsHistory : ℕ → List Entry → Type 0
IsHistory participants journal = FollowOn participants [] journal
