-- The states of an issue's three memory nodes, and how the events of its journal move them.
use Rattle.std.specs.Prelude.{◌≡◌, ℕ, ◌+◌, ◌==◌, ◌<◌, Bool, true, false, ◌||◌, not, List, [], ◌∷◌, Option, None, Some, if◌then◌else◌, nat_lt, slice_index_or, slice_set}
use Rattle.mkt_base.specs.declared.event.Event.{Event}
use Rattle.mkt_base.specs.declared.event.Event.TheVariants as events
use Rattle.mkt_base.specs.declared.journal.NodeState.{NodeState}
use Rattle.mkt_base.specs.declared.journal.NodeState.TheVariants.{Lost, Joining, Synchronised}

-- ---- the three states

-- the state of the node of a number; a node that is none of the three is lost
abbrev pub state_at : List NodeState → ℕ → NodeState
state_at nodes k = slice_index_or nodes k Lost

abbrev pub is_lost : NodeState → Bool
is_lost Lost = true
is_lost (Joining n) = false
is_lost Synchronised = false

abbrev pub is_synchronised : NodeState → Bool
is_synchronised Lost = false
is_synchronised (Joining n) = false
is_synchronised Synchronised = true

abbrev pub is_joining : NodeState → Bool
is_joining Lost = false
is_joining (Joining n) = true
is_joining Synchronised = false

-- some node is synchronised
abbrev pub has_synchronised : List NodeState → Bool
has_synchronised nodes = is_synchronised (state_at nodes 0) || is_synchronised (state_at nodes 1) || is_synchronised (state_at nodes 2)

-- one for a node that is not lost
abbrev pub up_in : NodeState → ℕ
up_in s = if is_lost s then 0 else 1

-- how many nodes are not lost
abbrev pub up : List NodeState → ℕ
up nodes = up_in (state_at nodes 0) + up_in (state_at nodes 1) + up_in (state_at nodes 2)

-- before the first entry
abbrev pub all_synchronised : List NodeState
all_synchronised = Synchronised ∷ Synchronised ∷ Synchronised ∷ []

-- ---- a joining node catches up

-- how many records a joining node copies at one entry
abbrev pub piece : ℕ
piece = 64

-- the state of a node that has copied up to this place, of a journal of so many entries
abbrev pub reached : ℕ → ℕ → NodeState
reached entries at = if nat_lt at entries then Joining at else Synchronised

-- the state of a joining node after so many records more; no other node catches up
abbrev pub caught : ℕ → ℕ → NodeState → NodeState
caught limit entries (Joining n) = reached entries (n + limit)
caught limit entries Lost = Lost
caught limit entries Synchronised = Synchronised

-- the event crashes this node
abbrev pub crashes : Event → ℕ → Bool
crashes (events.Crash node) k = node == k
crashes event k = false

-- the event is a crash or a rejoin
abbrev pub is_of_node : Event → Bool
is_of_node (events.Crash node) = true
is_of_node (events.Rejoin node) = true
is_of_node event = false

-- each joining node takes a piece of the journal so far, but for one that the event crashes
abbrev pub caught_at : Event → ℕ → ℕ → NodeState → NodeState
caught_at event entries k s = if crashes event k then s else caught piece entries s

unfoldable pub all_caught : Event → ℕ → List NodeState → List NodeState
all_caught event entries nodes =
    caught_at event entries 0 (state_at nodes 0) ∷ caught_at event entries 1 (state_at nodes 1) ∷ caught_at event entries 2 (state_at nodes 2) ∷ []

-- ---- an event, behind so many entries

-- a crash makes its node lost
abbrev pub crashed : Event → List NodeState → List NodeState
crashed (events.Crash node) nodes = slice_set nodes node Lost
crashed event nodes = nodes

-- the node that joins by the event: a rejoin is of a lost node
abbrev pub joins : Event → List NodeState → Option ℕ
joins (events.Rejoin node) nodes = if is_lost (state_at nodes node) then Some node else None
joins event nodes = None

-- it takes a piece of the journal, which has so many entries with the rejoin's own
abbrev pub joined : ℕ → Option ℕ → List NodeState → List NodeState
joined entries None nodes = nodes
joined entries (Some k) nodes = slice_set nodes k (caught piece entries (Joining 0))

unfoldable pub after_event : Event → ℕ → List NodeState → List NodeState
after_event event entries nodes = joined (entries + 1) (joins event nodes) (crashed event nodes)

-- an entry with this event moves no node of these states
abbrev pub moves_none : Event → List NodeState → Bool
moves_none event nodes = not (is_of_node event || is_joining (state_at nodes 0) || is_joining (state_at nodes 1) || is_joining (state_at nodes 2))

-- the states after an entry behind so many: at an entry of a gateway the joining nodes catch up first
unfoldable pub node_step : ℕ → ℕ → Event → List NodeState → List NodeState
node_step entries caller event nodes =
    if caller == 0 then after_event event entries nodes else after_event event entries (all_caught event entries nodes)

-- ---- losses

-- the event is the crash of this node
abbrev pub IsCrashOf : Event → ℕ → Type 0
IsCrashOf (events.Crash node) k = node ≡ k
IsCrashOf event k = ⊥

-- what the system may record behind so many entries that left these states: the crash of a node that is not lost, and never at the
-- first place
pub record IsLoss (entries : ℕ) (nodes : List NodeState) (event : Event) : Type 0 where
  pub later : 0 < entries
  pub node : ℕ
  pub crash : IsCrashOf event node
  pub up : is_lost (state_at nodes node) ≡ false
