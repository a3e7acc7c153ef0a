-- What it means that three nodes mirror a journal. The journal stands here as the spellings of its entries, in order.
use Rattle.std.specs.Prelude.{◌≡◌, ℕ, ◌<◌, List, [], length, take}
use Rattle.mkt_base.specs.declared.journal.NodeState.{NodeState}
use Rattle.mkt_base.specs.declared.journal.NodeState.TheVariants.{Lost, Joining, Synchronised}
use Rattle.mirror.specs.Replicas.{Replicas}

-- what a node in a state holds of a journal: all of it, its first n records and not all, or nothing
abbrev pub HoldsAs : List (List ℕ) → NodeState → List (List ℕ) → Type 0
HoldsAs journal Synchronised contents = contents ≡ journal
HoldsAs journal (Joining n) contents = (contents ≡ take n journal) × (n < length journal)
HoldsAs journal Lost contents = contents ≡ []

-- three nodes, with these states and contents, mirror a journal with this number of entries
pub record AreMirrored (journal : List (List ℕ)) (entries : ℕ) (s t u : NodeState) (x y z : List (List ℕ)) : Type 0 where
  pub entries_are : entries ≡ length journal
  pub first : HoldsAs journal s x
  pub second : HoldsAs journal t y
  pub third : HoldsAs journal u z

-- the nodes of a mirror mirror the journal
abbrev pub Mirrors : List (List ℕ) → Replicas → Type 0
Mirrors journal m =
    AreMirrored journal m.length m.first.state m.second.state m.third.state m.first.contents m.second.contents m.third.contents

-- there is a journal that they mirror
abbrev pub MirrorsSome : Replicas → Type 0
MirrorsSome m = (journal : List (List ℕ)) × Mirrors journal m
