-- What a turn writes to the nodes of an issue: its entry, and the losses that it met.
use Rattle.std.specs.Prelude.{◌≡◌, ◌≢◌, ℕ, ◌+◌, ◌≤◌, true, false, List, [], ◌∷◌, ◌++◌, length, map}
use Rattle.mkt_base.specs.declared.event.Entry.{Entry}
use Rattle.mkt_base.specs.declared.event.Event.{Event}
use Rattle.mkt_base.specs.declared.event.Event.TheVariants as events
use Rattle.mkt_base.specs.declared.journal.NodeState.{NodeState}
use Rattle.mkt_base.specs.declared.journal.NodeState.TheVariants.{Synchronised}
use Rattle.mkt_io.specs.Faults.{Rises}
use Rattle.record_codec.specs.Entry.{spelling}
use Rattle.node_rules.specs.Nodes.{crashes, has_synchronised, node_step, up}
use Rattle.mirror.specs.Calls.{Keeps, KeepsAll}
use Rattle.mirror.specs.Mirrored.{Mirrors}
use Rattle.mirror.specs.Replicas.{Replica, Replicas, states}
use Rattle.turn_writer.specs.Losses.{AreLosses, Grew, losses_from, with_lost}

-- the states that the rules give after an entry behind the journal
abbrev pub nodes_behind : Entry → Replicas → List NodeState
nodes_behind e m = node_step m.length e.caller.0 e.event (states m)

-- the entries of a turn: its own, and the losses that it met, where this is the system's next own number
abbrev pub turn_entries : Entry → ℕ → List ℕ → List Entry
turn_entries e own lost = e ∷ losses_from (e.place + 1) own lost

-- the spellings of entries
abbrev pub spelled : List Entry → List (List ℕ)
spelled entries = map spelling entries

-- An entry and its losses were written: every synchronised node holds them, the states are those of the rules but for the nodes that were
-- lost, of which none was lost before, and each of these failed at least once in this call.
pub record Written (e : Entry) (own : ℕ) (lost : List ℕ) (old new : Replicas) : Type 0 where
  pub mirrors : (journal : List (List ℕ)) → Mirrors journal old → Mirrors (journal ++ spelled (turn_entries e own lost)) new
  pub states_are : states new ≡ with_lost lost (nodes_behind e old)
  pub losses : AreLosses (nodes_behind e old) lost
  pub some : has_synchronised (states new) ≡ true
  pub grew : Grew lost old new
  pub keeps : KeepsAll old new
  pub entries : new.length ≡ old.length + 1 + length lost

-- Losses were written, and those that were met on the way: `start` are the nodes that were lost before the call, `more` those that were
-- lost in it.
pub record LossesWritten (own : ℕ) (start more : List ℕ) (old new : Replicas) : Type 0 where
  pub mirrors : (journal : List (List ℕ)) → Mirrors journal old → Mirrors (journal ++ spelled (losses_from old.length own (start ++ more))) new
  pub states_are : states new ≡ with_lost more (states old)
  pub losses : AreLosses (states old) more
  pub some : has_synchronised (states new) ≡ true
  pub grew : Grew more old new
  pub keeps : KeepsAll old new
  pub entries : new.length ≡ old.length + length (start ++ more)

-- no node's count rose
pub record NoneRose (old new : Replicas) : Type 0 where
  pub first : Rises old.first.faults new.first.faults → ⊥
  pub second : Rises old.second.faults new.second.faults → ⊥
  pub third : Rises old.third.faults new.third.faults → ⊥

-- each node kept its label and its room, its count did not fall, and it held no more than so many records
pub record KeepsEach (entries : ℕ) (old new : Replicas) : Type 0 where
  pub first : Keeps entries old.first new.first
  pub second : Keeps entries old.second new.second
  pub third : Keeps entries old.third new.third

-- a synchronised node that the event does not crash failed
abbrev pub FailedBut : Event → ℕ → Replica → Replica → Type 0
FailedBut event k old new = old.state ≡ Synchronised → crashes event k ≡ false → Rises old.faults new.faults

-- No node is left for an entry: each synchronised node failed, but for one that the event crashes; and where none failed the event
-- itself leaves none. So at most three records more were put to a node.
pub record NoneLeft (e : Entry) (old new : Replicas) : Type 0 where
  pub first : FailedBut e.event 0 old.first new.first
  pub second : FailedBut e.event 1 old.second new.second
  pub third : FailedBut e.event 2 old.third new.third
  pub quiet : NoneRose old new → has_synchronised (nodes_behind e old) ≡ false
  pub keeps : KeepsEach (old.length + 3) old new

-- a synchronised node failed and is empty, and another is untouched
pub record HasFailed (old new : Replica) : Type 0 where
  pub rose : old.state ≡ Synchronised → Rises old.faults new.faults
  pub empty : old.state ≡ Synchronised → new.contents ≡ []
  pub untouched : old.state ≢ Synchronised → new ≡ old

-- each synchronised node failed, and no other was touched
pub record AllFailed (old new : Replicas) : Type 0 where
  pub first : HasFailed old.first new.first
  pub second : HasFailed old.second new.second
  pub third : HasFailed old.third new.third
  pub keeps : KeepsEach (old.length + 3) old new

-- each node has room for so many records in all
pub record IsRoomy (capacity : ℕ) (m : Replicas) : Type 0 where
  pub first : capacity ≤ length m.first.contents + m.first.spare
  pub second : capacity ≤ length m.second.contents + m.second.spare
  pub third : capacity ≤ length m.third.contents + m.third.spare

-- one node more may be up after a rejoin
abbrev pub asks : Event → ℕ
asks (events.Rejoin node) = 1
asks event = 0

-- the nodes have room for an entry, and for the loss of each node that may be up
pub record HasTurnRoom (event : Event) (m : Replicas) : Type 0 where
  pub capacity : ℕ
  pub roomy : IsRoomy capacity m
  pub fits : m.length + 1 + (up (states m) + asks event) ≤ capacity

-- they have room for these losses, and for that of each node that is up
pub record HasLossRoom (start : List ℕ) (m : Replicas) : Type 0 where
  pub capacity : ℕ
  pub roomy : IsRoomy capacity m
  pub fits : m.length + (length start + up (states m)) ≤ capacity
  pub three : length start + up (states m) ≤ 3
