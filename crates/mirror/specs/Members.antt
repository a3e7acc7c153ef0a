-- What a call on one node of a mirror does to it.
use Rattle.std.specs.Prelude.{◌≡◌, ◌≢◌, ℕ, Bool, true, false, List, [], ◌∷◌, ◌++◌, length, ◌⊎◌}
use Rattle.mkt_base.specs.declared.journal.NodeState.{NodeState}
use Rattle.mkt_base.specs.declared.journal.NodeState.TheVariants.{Lost, Synchronised}
use Rattle.mkt_io.specs.Faults.{Rises}
use Rattle.mirror.specs.Calls.{Keeps}
use Rattle.mirror.specs.Mirrored.{AreMirrored}
use Rattle.mirror.specs.Replicas.{Replica, Replicas}

-- a call of the node failed, so it is lost
pub record Failed (old new : Replica) : Type 0 where
  pub before : old.state ≢ Lost
  pub state : new.state ≡ Lost
  pub contents : new.contents ≡ []
  pub rose : Rises old.faults new.faults

-- a record was put where the node was synchronised; the node holds it, or was lost
pub record WasPut (rec : List ℕ) (lost : Bool) (old new : Replica) : Type 0 where
  pub untouched : old.state ≢ Synchronised → new ≡ old
  pub idle : old.state ≢ Synchronised → lost ≡ false
  pub state : old.state ≡ Synchronised → lost ≡ false → new.state ≡ Synchronised
  pub put : old.state ≡ Synchronised → lost ≡ false → new.contents ≡ old.contents ++ rec ∷ []
  pub failed : lost ≡ true → Failed old new
  pub keeps : Keeps (length new.contents) old new

-- a node was read from: it is as it was, or lost; one that is not synchronised is untouched
pub record WasRead (old new : Replica) : Type 0 where
  pub holds : ((new.state ≡ old.state) × (new.contents ≡ old.contents)) ⊎ Failed old new
  pub untouched : old.state ≢ Synchronised → new ≡ old
  pub keeps : Keeps 0 old new

-- a node that was to come to a state did so, or was lost
pub record Came (state : NodeState) (old new : Replica) : Type 0 where
  pub either : (new.state ≡ state) ⊎ Failed old new
  pub not_lost : state ≡ Lost → old.state ≡ Lost
  pub untouched : old.state ≢ Synchronised → state ≡ old.state → new ≡ old

-- each node did so
pub record CameAll (goal old new : Replicas) : Type 0 where
  pub first : Came goal.first.state old.first new.first
  pub second : Came goal.second.state old.second new.second
  pub third : Came goal.third.state old.third new.third

-- three nodes, in whatever order, mirror a journal with this number of entries
abbrev pub AreHeld : List (List ℕ) → ℕ → Replica → Replica → Replica → Type 0
AreHeld journal entries to a b = AreMirrored journal entries to.state a.state b.state to.contents a.contents b.contents
