-- How the journal of an issue that was left is read back from its nodes.
use Rattle.std.specs.Prelude.{◌≡◌, ◌≢◌, ℕ, ◌+◌, ◌==◌, ◌<◌, ◌≤◌, Bool, true, false, ◌&&◌, not, List, [], ◌∷◌, ◌++◌, length, map, take, Some, slice_get, if◌then◌else◌, ◌⊎◌}
use Rattle.mkt_base.specs.declared.event.Entry.{Entry}
use Rattle.mkt_base.specs.declared.journal.NodeState.{NodeState}
use Rattle.mkt_base.specs.declared.journal.NodeState.TheVariants.{Lost, Synchronised}
use Rattle.memory_node.specs.declared.node.Label.{Label}
use Rattle.mkt_io.specs.Faults.{Rises}
use Rattle.record_codec.specs.Entry.{Spells, spelling}
use Rattle.node_rules.specs.Nodes.{is_lost, is_synchronised}
use Rattle.mirror.specs.Mirrored.{HoldsAs, Mirrors}
use Rattle.mirror.specs.Replicas.{Replica, Replicas, replica, states}
use Rattle.turn_writer.specs.Losses.{GrewBy, lose}
use Rattle.issue_machine.specs.History.{nodes_after}

-- a node alone, of which no state is known
abbrev pub seen : List (List ℕ) → ℕ → Label → ℕ → ℕ → Replica
seen contents spare label most faults = replica Lost contents spare label most faults

-- each entry has its place, and numbers of their types
abbrev pub AreSpelled : List Entry → Type 0
AreSpelled entries = (at : ℕ) (e : Entry) → slice_get entries at ≡ Some e → Spells (spelling e) at e

-- a node with so many records holds the journal
abbrev pub HoldsOf : List Entry → ℕ → Replica → Type 0
HoldsOf entries end node = length node.contents ≡ end → node.contents ≡ map spelling entries

-- three nodes were left by an issue with these entries
pub record AreLeft (entries : List Entry) (end : ℕ) (first second third : Replica) : Type 0 where
  pub length_is : end ≡ length entries
  pub spelled : AreSpelled entries
  pub first_holds : HoldsOf entries end first
  pub second_holds : HoldsOf entries end second
  pub third_holds : HoldsOf entries end third

-- a node was read, where it has so many records: it is as it was, or it failed and is empty; another is untouched
pub record WasTried (end : ℕ) (old new : Replica) : Type 0 where
  pub either : (new.contents ≡ old.contents) ⊎ ((new.contents ≡ []) × Rises old.faults new.faults)
  pub untouched : (length old.contents ≡ end → ⊥) → new ≡ old
  pub label_is : new.label ≡ old.label
  pub room : length new.contents + new.spare ≡ length old.contents + old.spare
  pub count : old.faults ≤ new.faults
  pub most_is : new.most ≡ old.most

-- a node that was synchronised and has not so many records any more
abbrev pub is_gone : ℕ → NodeState → Replica → Bool
is_gone end state node = is_synchronised state && not (length node.contents == end)

-- the states without a node, and the losses with it, where it is gone
abbrev pub lose_if : Bool → ℕ → List NodeState → List NodeState
lose_if gone k nodes = if gone then lose k nodes else nodes

abbrev pub lost_if : Bool → ℕ → List ℕ → List ℕ
lost_if gone k lost = if gone then lost ++ k ∷ [] else lost

-- so many records were read: the entries before, as the nodes were left
pub record IsReading (end at : ℕ) (first second third now_first now_second now_third : Replica) (log : List Entry) : Type 0 where
  pub first_tried : WasTried end first now_first
  pub second_tried : WasTried end second now_second
  pub third_tried : WasTried end third now_third
  pub read : (entries : List Entry) → AreLeft entries end first second third → log ≡ take at entries
  pub count : length log ≡ at

-- the losses of the nodes that are gone, by their numbers
abbrev pub met : Bool → Bool → Bool → List ℕ
met a b c = lost_if c 2 (lost_if b 1 (lost_if a 0 []))

-- what became of a node that was read, and whether it is gone
pub record WasLeft (journal : List (List ℕ)) (gone : Bool) (left mid : Replica) : Type 0 where
  pub state_is : mid.state ≡ (if gone then Lost else left.state)
  pub holds : HoldsAs journal mid.state mid.contents
  pub stood : gone ≡ true → is_lost left.state ≡ false
  pub behind : gone ≡ true → 0 < length journal
  pub grew : GrewBy (if gone then 1 else 0) left.faults mid.faults
  pub count : left.faults ≤ mid.faults
  pub untouched : left.state ≢ Synchronised → mid ≡ left
  pub label_is : mid.label ≡ left.label
  pub room : length mid.contents + mid.spare ≡ length left.contents + left.spare
  pub most_is : mid.most ≡ left.most

-- a node without its state
abbrev pub bare : Replica → Replica
bare r = seen r.contents r.spare r.label r.most r.faults

-- the nodes mirrored these entries in the states that the rules give, and were read
pub record WasReadBack (entries : List Entry) (end : ℕ) (m : Replicas) (first second third : Replica) : Type 0 where
  pub mirrors : Mirrors (map spelling entries) m
  pub states_are : states m ≡ nodes_after entries
  pub end_is : end ≡ length entries
  pub first_tried : WasTried end (bare m.first) first
  pub second_tried : WasTried end (bare m.second) second
  pub third_tried : WasTried end (bare m.third) third

-- a mirror of the nodes as they were left, without those that are gone, which are noted
pub record IsMet (journal : List (List ℕ)) (m mid : Replicas) (lost : List ℕ) : Type 0 where
  pub a : Bool
  pub b : Bool
  pub c : Bool
  pub first : WasLeft journal a m.first mid.first
  pub second : WasLeft journal b m.second mid.second
  pub third : WasLeft journal c m.third mid.third
  pub lost_is : lost ≡ met a b c
