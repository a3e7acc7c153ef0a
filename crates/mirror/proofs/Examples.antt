-- Worked examples: the definitions compute to what a reader of the nodes would say.
use Rattle.std.specs.Prelude.{◌≡◌, ◌<◌, ℕ, List, [], ◌∷◌, true, false, refl}
use Rattle.mkt_base.specs.declared.journal.NodeState.TheVariants.{Lost, Joining, Synchronised}
use Rattle.mirror.specs.Calls.{caught, is_named, lacks}
use Rattle.mirror.specs.Mirrored.{HoldsAs}
use Rattle.mirror.specs.Replicas.{fell}

-- a journal of three entries, each spelled by one byte here
abbrev journal : List (List ℕ)
journal = (7 ∷ []) ∷ (8 ∷ []) ∷ (9 ∷ []) ∷ []

synchronised_holds_all : HoldsAs journal Synchronised ((7 ∷ []) ∷ (8 ∷ []) ∷ (9 ∷ []) ∷ [])
synchronised_holds_all = refl

joining_holds_the_front : (2 < 3) → HoldsAs journal (Joining 2) ((7 ∷ []) ∷ (8 ∷ []) ∷ [])
joining_holds_the_front less = (refl, less)

lost_holds_nothing : HoldsAs journal Lost []
lost_holds_nothing = refl

-- of five records a node that has one, and takes three; and one that takes four or more
a_piece : caught 3 5 (Joining 1) ≡ Joining 4
a_piece = refl

the_last_piece : caught 4 5 (Joining 1) ≡ Synchronised
the_last_piece = refl

more_than_it_lacks : caught 64 5 (Joining 1) ≡ Synchronised
more_than_it_lacks = refl

what_it_lacks : lacks 5 (Joining 1) ≡ 4
what_it_lacks = refl

-- a node that was lost before is not named
named_once : fell Lost Lost ≡ false
named_once = refl

named_where_it_joined : fell (Joining 2) Lost ≡ true
named_where_it_joined = refl

second_is_named : is_named (false ∷ true ∷ false ∷ []) 1 ≡ true
second_is_named = refl
