-- What a call on a mirror does to its nodes.
use Rattle.std.specs.Prelude.{◌≡◌, ◌≢◌, ℕ, ◌+◌, ◌-◌, ◌≤◌, Bool, true, false, List, max, length, if◌then◌else◌, slice_index_or}
use Rattle.mkt_base.specs.declared.journal.NodeState.{NodeState}
use Rattle.mkt_base.specs.declared.journal.NodeState.TheVariants.{Lost, Joining, Synchronised}
use Rattle.mkt_io.specs.Faults.{Rises}
pub use Rattle.node_rules.specs.Nodes.{caught, reached}
use Rattle.mirror.specs.Replicas.{Replica, Replicas}

-- what every call keeps of a node: its label and its room; its count never falls, and the most that it has held is no more
-- than it was, or than the journal has at the end
pub record Keeps (entries : ℕ) (old new : Replica) : Type 0 where
  pub label : new.label ≡ old.label
  pub room : length new.contents + new.spare ≡ length old.contents + old.spare
  pub faults : old.faults ≤ new.faults
  pub most : new.most ≤ max old.most entries

-- every call keeps this of each node
pub record KeepsAll (old new : Replicas) : Type 0 where
  pub first : Keeps new.length old.first new.first
  pub second : Keeps new.length old.second new.second
  pub third : Keeps new.length old.third new.third

-- what a call did to a node that it was to bring to a state: it did so, or the node was lost in this call, which only a node
-- can be that was not lost and whose count rose; a node that is not synchronised and was to stay as it was is untouched
pub record Became (state : NodeState) (lost : Bool) (old new : Replica) : Type 0 where
  pub state_is : new.state ≡ (if lost then Lost else state)
  pub not_before : lost ≡ true → old.state ≢ Lost
  pub rose : lost ≡ true → Rises old.faults new.faults
  pub untouched : old.state ≢ Synchronised → state ≡ old.state → new ≡ old

-- whether node k is among those that were lost
abbrev pub is_named : List Bool → ℕ → Bool
is_named lost k = slice_index_or lost k false

-- each node came to its state in `goal`, but for those that were lost
pub record BecameAll (goal : Replicas) (lost : List Bool) (old new : Replicas) : Type 0 where
  pub first : Became goal.first.state (is_named lost 0) old.first new.first
  pub second : Became goal.second.state (is_named lost 1) old.second new.second
  pub third : Became goal.third.state (is_named lost 2) old.third new.third

-- a node that was synchronised is lost, and its count rose; another is untouched
pub record Fell (old new : Replica) : Type 0 where
  pub lost : old.state ≡ Synchronised → new.state ≡ Lost
  pub rose : old.state ≡ Synchronised → Rises old.faults new.faults
  pub untouched : old.state ≢ Synchronised → new ≡ old

-- each node that was synchronised failed
pub record AllFell (old new : Replicas) : Type 0 where
  pub first : Fell old.first new.first
  pub second : Fell old.second new.second
  pub third : Fell old.third new.third

-- each synchronised node has room for this many records more
pub record HasRoom (records : ℕ) (m : Replicas) : Type 0 where
  pub first : m.first.state ≡ Synchronised → records ≤ m.first.spare
  pub second : m.second.state ≡ Synchronised → records ≤ m.second.spare
  pub third : m.third.state ≡ Synchronised → records ≤ m.third.spare

-- how many records a node in a state lacks
abbrev pub lacks : ℕ → NodeState → ℕ
lacks entries (Joining n) = entries - n
lacks entries Lost = entries
lacks entries Synchronised = 0

-- the node is joining
abbrev pub IsJoining : NodeState → Type 0
IsJoining (Joining n) = Unit {0}
IsJoining Lost = ⊥
IsJoining Synchronised = ⊥
