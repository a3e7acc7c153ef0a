-- What is seen of a mirror: its three nodes, and the length of the journal.
use Rattle.std.specs.Prelude.{ℕ, zero, suc, ◌+◌, Bool, not, ◌&&◌, List, [], ◌∷◌, length}
use Rattle.mkt_base.specs.declared.journal.NodeState.{NodeState}
use Rattle.mkt_base.specs.declared.journal.NodeState.TheVariants.{Lost}
use Rattle.memory_node.specs.declared.node.Label.{Label}
pub use Rattle.node_rules.specs.Nodes.{is_lost, state_at}

-- a node of the mirror: its state, and what the node itself tells
pub record Replica : Type 0 where
  pub state : NodeState
  pub contents : List (List ℕ)
  pub spare : ℕ
  pub label : Label
  pub most : ℕ
  pub faults : ℕ

-- a node of the mirror by what is known of it
abbrev pub replica : NodeState → List (List ℕ) → ℕ → Label → ℕ → ℕ → Replica
replica state contents spare label most faults =
    record { state = state; contents = contents; spare = spare; label = label; most = most; faults = faults }

-- the nodes 0, 1 and 2, and how many entries the journal has
pub record Replicas : Type 0 where
  pub first : Replica
  pub second : Replica
  pub third : Replica
  pub length : ℕ

-- the node of a number
abbrev pub node_at : ℕ → Replicas → Replica
node_at zero m = m.first
node_at (suc zero) m = m.second
node_at (suc (suc k)) m = m.third

-- the mirror with another node of this number
abbrev pub with_node : ℕ → Replica → Replicas → Replicas
with_node zero r m = record m { first = r }
with_node (suc zero) r m = record m { second = r }
with_node (suc (suc k)) r m = record m { third = r }

-- the mirror with another state of the node of this number
abbrev pub with_state : ℕ → NodeState → Replicas → Replicas
with_state k s m = with_node k (record (node_at k m) { state = s }) m

-- a node that was wiped and is lost
abbrev pub wiped : Replica → Replica
wiped r = record r { state = Lost; contents = []; spare = length r.contents + r.spare }

-- the states of the nodes
abbrev pub states : Replicas → List NodeState
states m = m.first.state ∷ m.second.state ∷ m.third.state ∷ []

-- a node was lost between these states
abbrev pub fell : NodeState → NodeState → Bool
fell old new = not (is_lost old) && is_lost new
