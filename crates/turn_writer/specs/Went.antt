-- What the calls of a turn do to the nodes, one after another.
use Rattle.std.specs.Prelude.{◌≡◌, ◌≢◌, ℕ, zero, suc, ◌+◌, ◌==◌, ◌≤◌, Bool, true, cond, List, [], ◌∷◌, ◌++◌, Option, None, Some, if◌then◌else◌, length, take}
use Rattle.mkt_base.specs.declared.event.Entry.{Entry}
use Rattle.mkt_base.specs.declared.event.Event.{Event}
use Rattle.mkt_base.specs.declared.journal.NodeState.{NodeState}
use Rattle.mkt_base.specs.declared.journal.NodeState.TheVariants.{Lost, Joining, Synchronised}
use Rattle.mkt_io.specs.Faults.{Rises}
use Rattle.record_codec.specs.Entry.{spelling}
use Rattle.node_rules.specs.Nodes.{caught, caught_at, crashes, has_synchronised, joins, up_in}
use Rattle.mirror.specs.Calls.{AllFell, KeepsAll, is_named}
use Rattle.mirror.specs.Mirrored.{Mirrors}
use Rattle.mirror.specs.Replicas.{Replica, Replicas, states}
use Rattle.turn_writer.specs.Losses.{GrewBy, losses_from, times}
use Rattle.turn_writer.specs.Writing.{IsRoomy, spelled}

-- the state of a node that was lost so often
abbrev pub lost_by : ℕ → NodeState → NodeState
lost_by zero s = s
lost_by (suc n) s = Lost

-- A node was to come to a state. It did, or it was lost, which only a node can be that is not lost by that state, and but once; its count
-- rose then.
pub record NodeWent (n : ℕ) (goal : NodeState) (old new : Replica) : Type 0 where
  pub state_is : new.state ≡ lost_by n goal
  pub once : n ≤ up_in goal
  pub grew : GrewBy n old.faults new.faults

-- the list names no other nodes than the three
abbrev pub AreNodes : List ℕ → Type 0
AreNodes lost = length lost ≡ times 0 lost + times 1 lost + times 2 lost

-- These records were written. The nodes were to come to these states, and those of the list were lost on the way.
pub record Went (written : List (List ℕ)) (x y z : NodeState) (lost : List ℕ) (old new : Replicas) : Type 0 where
  pub mirrors : (journal : List (List ℕ)) → Mirrors journal old → Mirrors (journal ++ written) new
  pub first : NodeWent (times 0 lost) x old.first new.first
  pub second : NodeWent (times 1 lost) y old.second new.second
  pub third : NodeWent (times 2 lost) z old.third new.third
  pub nodes : AreNodes lost
  pub keeps : KeepsAll old new
  pub entries : new.length ≡ old.length + length written

-- a synchronised node failed
abbrev pub Fails : Replica → Replica → Type 0
Fails old new = old.state ≡ Synchronised → Rises old.faults new.faults

-- each synchronised node failed, and two records at most were written before
pub record Gone (old new : Replicas) : Type 0 where
  pub first : Fails old.first new.first
  pub second : Fails old.second new.second
  pub third : Fails old.third new.third
  pub keeps : KeepsAll old new
  pub longer : old.length ≤ new.length
  pub few : new.length ≤ old.length + 2

-- the nodes have room for so many records more than the journal has
pub record HasPlace (records : ℕ) (m : Replicas) : Type 0 where
  pub capacity : ℕ
  pub roomy : IsRoomy capacity m
  pub fits : m.length + records ≤ capacity

-- the node of this number, if it was lost
abbrev pub named : ℕ → Bool → List ℕ
named k lost = cond lost (k ∷ []) []

-- the lost ones of three nodes, in this order
abbrev pub in_order : ℕ → ℕ → ℕ → List Bool → List ℕ
in_order i j k flags = named i (is_named flags i) ++ named j (is_named flags j) ++ named k (is_named flags k)

-- those that a catch-up lost: its sources by number, and then the node that joins
abbrev pub caught_order : ℕ → List Bool → List ℕ
caught_order zero flags = in_order 1 2 0 flags
caught_order (suc zero) flags = in_order 0 2 1 flags
caught_order (suc (suc k)) flags = in_order 0 1 2 flags

-- node k was to take a piece of the journal
abbrev pub TookPiece : ℕ → List ℕ → Replicas → Replicas → Type 0
TookPiece zero lost old new = Went [] (caught 64 old.length old.first.state) old.second.state old.third.state lost old new
TookPiece (suc zero) lost old new = Went [] old.first.state (caught 64 old.length old.second.state) old.third.state lost old new
TookPiece (suc (suc k)) lost old new = Went [] old.first.state old.second.state (caught 64 old.length old.third.state) lost old new

-- node k was to take a piece of the journal, if it joins and the event does not crash it
abbrev pub CaughtOne : Event → ℕ → List ℕ → Replicas → Replicas → Type 0
CaughtOne event zero lost old new = Went [] (caught_at event old.length 0 old.first.state) old.second.state old.third.state lost old new
CaughtOne event (suc zero) lost old new = Went [] old.first.state (caught_at event old.length 1 old.second.state) old.third.state lost old new
CaughtOne event (suc (suc k)) lost old new = Went [] old.first.state old.second.state (caught_at event old.length 2 old.third.state) lost old new

-- each node was
abbrev pub CaughtAll : Event → List ℕ → Replicas → Replicas → Type 0
CaughtAll event lost old new =
    Went [] (caught_at event old.length 0 old.first.state) (caught_at event old.length 1 old.second.state)
    (caught_at event old.length 2 old.third.state) lost old new

-- a record was put to each synchronised node
abbrev pub WasPutToAll : List ℕ → List ℕ → Replicas → Replicas → Type 0
WasPutToAll rec lost old new = Went (rec ∷ []) old.first.state old.second.state old.third.state lost old new

-- the state of a node after the crashes of an event
abbrev pub crashed_at : Event → ℕ → NodeState → NodeState
crashed_at event k s = cond (crashes event k) Lost s

-- a node that is not synchronised is untouched
abbrev pub Stays : Replica → Replica → Type 0
Stays old new = old.state ≢ Synchronised → new ≡ old

-- each of these is
pub record Still (old new : Replicas) : Type 0 where
  pub first : Stays old.first new.first
  pub second : Stays old.second new.second
  pub third : Stays old.third new.third

-- a put found no synchronised node that did not fail, and left the journal as it was
pub record NoneStood (old new : Replicas) : Type 0 where
  pub fell : AllFell old new
  pub mirrors : (journal : List (List ℕ)) → Mirrors journal old → Mirrors journal new
  pub keeps : KeepsAll old new
  pub entries : new.length ≡ old.length

-- the list without a node
abbrev pub without : ℕ → List ℕ → List ℕ
without k [] = []
without k (j ∷ more) = if j == k then without k more else j ∷ without k more

-- the event's crash, behind a part of the turn
abbrev pub WasCrashed : Event → List ℕ → List ℕ → Replicas → Replicas → Type 0
WasCrashed event lost rest old new =
    (start : Replicas) (x y z : NodeState) → Went [] x y z lost start old →
    Went [] (crashed_at event 0 x) (crashed_at event 1 y) (crashed_at event 2 z) rest start new

-- a node that was lost joins, and was to take a piece of the journal
abbrev pub JoinedAs : ℕ → List ℕ → Replicas → Replicas → Type 0
JoinedAs zero lost old new = Went [] (caught 64 old.length (Joining 0)) old.second.state old.third.state lost old new
JoinedAs (suc zero) lost old new = Went [] old.first.state (caught 64 old.length (Joining 0)) old.third.state lost old new
JoinedAs (suc (suc k)) lost old new = Went [] old.first.state old.second.state (caught 64 old.length (Joining 0)) lost old new

-- the node that joins, if there is one
abbrev pub Rejoined : Option ℕ → List ℕ → Replicas → Replicas → Type 0
Rejoined None lost old new = (lost ≡ []) × (new ≡ old)
Rejoined (Some k) lost old new = JoinedAs k lost old new

-- the state of node k, of a journal of so many entries, once this node has joined
abbrev pub joined_at : ℕ → Option ℕ → ℕ → NodeState → NodeState
joined_at entries None k s = s
joined_at entries (Some j) k s = cond (j == k) (caught 64 entries (Joining 0)) s

-- the state that the rules give node k after an entry of a gateway
abbrev pub behind_at : Entry → Replicas → ℕ → NodeState → NodeState
behind_at e m k s = joined_at (m.length + 1) (joins e.event (states m)) k (crashed_at e.event k (caught_at e.event m.length k s))

-- the entry was written, and the nodes were to come to the states of the rules
abbrev pub EventWritten : Entry → List ℕ → Replicas → Replicas → Type 0
EventWritten e lost old new =
    Went (spelling e ∷ []) (behind_at e old 0 old.first.state) (behind_at e old 1 old.second.state) (behind_at e old 2 old.third.state) lost old new

-- So many of these losses were recorded. The first ones were met before; the others were met meanwhile.
pub record Recording (own done : ℕ) (start lost : List ℕ) (old new : Replicas) : Type 0 where
  pub more : List ℕ
  pub lost_are : lost ≡ start ++ more
  pub went : Went (spelled (losses_from old.length own (take done lost))) old.first.state old.second.state old.third.state more old new
  pub still : Still old new
  pub within : done ≤ length lost
  pub few : done ≤ 2

-- all losses were recorded, and no synchronised node is missing
pub record LossesKnown (own : ℕ) (start lost : List ℕ) (old new : Replicas) : Type 0 where
  pub recording : Recording own (length lost) start lost old new
  pub some : has_synchronised (states new) ≡ true
