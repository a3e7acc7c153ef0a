-- The losses of nodes in a turn: their order, their entries, and what the nodes' counts of faults show of them.
use Rattle.std.specs.Prelude.{◌≡◌, ℕ, ◌+◌, ◌==◌, ◌<◌, ◌≤◌, false, List, [], ◌∷◌, min, count_by, slice_set}
use Rattle.mkt_base.specs.declared.event.Entry.{Entry}
use Rattle.mkt_base.specs.declared.event.Event.TheVariants as events
use Rattle.mkt_base.specs.declared.journal.NodeState.{NodeState}
use Rattle.mkt_base.specs.declared.journal.NodeState.TheVariants.{Lost}
use Rattle.node_rules.specs.Nodes.{is_lost, state_at}
use Rattle.mirror.specs.Replicas.{Replicas}

-- the entry by which the system records the loss of a node
abbrev pub loss_at : ℕ → ℕ → ℕ → Entry
loss_at place own k = record { place = place; caller = record { 0 = 0 }; own = own; event = events.Crash k }

-- the entries of losses in their order, from this place and this own number of the system on
abbrev pub losses_from : ℕ → ℕ → List ℕ → List Entry
losses_from place own [] = []
losses_from place own (k ∷ more) = loss_at place own k ∷ losses_from (place + 1) (own + 1) more

-- the states with one node lost, and with several
abbrev pub lose : ℕ → List NodeState → List NodeState
lose k nodes = slice_set nodes k Lost

abbrev pub with_lost : List ℕ → List NodeState → List NodeState
with_lost [] nodes = nodes
with_lost (k ∷ more) nodes = with_lost more (lose k nodes)

-- nodes that may be lost in this order from these states on: each is one of the three, and is not lost before
abbrev pub AreLosses : List NodeState → List ℕ → Type 0
AreLosses nodes [] = Unit {0}
AreLosses nodes (k ∷ more) = (k < 3) × (is_lost (state_at nodes k) ≡ false) × AreLosses (lose k nodes) more

-- how often a node is among those that were lost
abbrev pub times : ℕ → List ℕ → ℕ
times k lost = count_by (λ j. j == k) lost

-- a count of faults rose by so many at least, or stands at its last value
abbrev pub GrewBy : ℕ → ℕ → ℕ → Type 0
GrewBy n old new = min (old + n) 18446744073709551615 ≤ new

-- the count of each node rose at least as often as the node was lost
pub record Grew (lost : List ℕ) (old new : Replicas) : Type 0 where
  pub first : GrewBy (times 0 lost) old.first.faults new.first.faults
  pub second : GrewBy (times 1 lost) old.second.faults new.second.faults
  pub third : GrewBy (times 2 lost) old.third.faults new.third.faults
