-- An entry that moves no node.
use Rattle.std.proofs.Common.{◌≡◌, ℕ, zero, suc, ◌==◌, Bool, true, false, List, [], ◌∷◌, not, ◌||◌, refl, arith}
use Rattle.std.proofs.lemmas.Bool.Decides.{nat_tests}
use Rattle.mkt_base.specs.declared.event.Event.{Event}
use Rattle.mkt_base.specs.declared.event.Event.TheVariants as events
use Rattle.mkt_base.specs.declared.journal.NodeState.{NodeState}
use Rattle.mkt_base.specs.declared.journal.NodeState.TheVariants.{Lost, Joining, Synchronised}
use Rattle.node_rules.specs.Nodes.{after_event, all_caught, caught, caught_at, is_joining, is_of_node, moves_none, node_step, piece, state_at}

caught-still : (limit entries : ℕ) (s : NodeState) → is_joining s ≡ false → caught limit entries s ≡ s
caught-still limit entries Lost still = refl
caught-still limit entries (Joining n) still = absurd (cc)
caught-still limit entries Synchronised still = refl

module _ (entries : ℕ) (nodes : List NodeState) where
  at-still : (event : Event) (k : ℕ) (s : NodeState) → is_of_node event ≡ false → is_joining s ≡ false → caught_at event entries k s ≡ s
  at-still (events.Order participant side kind qty) k s calm still = caught-still piece entries s still
  at-still (events.Change participant target kind qty) k s calm still = caught-still piece entries s still
  at-still (events.Cancel participant target) k s calm still = caught-still piece entries s still
  at-still (events.Clock at) k s calm still = caught-still piece entries s still
  at-still (events.Crash node) k s calm still = absurd (cc)
  at-still (events.Rejoin node) k s calm still = absurd (cc)

  all-still : (event : Event) → is_of_node event ≡ false → is_joining (state_at nodes 0) ≡ false → is_joining (state_at nodes 1) ≡ false → is_joining (state_at nodes 2) ≡ false
      → all_caught event entries nodes ≡ state_at nodes 0 ∷ state_at nodes 1 ∷ state_at nodes 2 ∷ []
  unfolding all_caught
  all-still event calm first second third =
      let still : (k : ℕ) (s : NodeState) → is_joining s ≡ false → caught_at event entries k s ≡ s = λ k s e. at-still event k s calm e in
      let x = still 0 (state_at nodes 0) first in
      let y = still 1 (state_at nodes 1) second in
      let z = still 2 (state_at nodes 2) third in
      cc

after-still : (entries : ℕ) (event : Event) (nodes : List NodeState) → is_of_node event ≡ false → after_event event entries nodes ≡ nodes
unfolding after_event
after-still entries (events.Order participant side kind qty) nodes calm = refl
after-still entries (events.Change participant target kind qty) nodes calm = refl
after-still entries (events.Cancel participant target) nodes calm = refl
after-still entries (events.Clock at) nodes calm = refl
after-still entries (events.Crash node) nodes calm = absurd (cc)
after-still entries (events.Rejoin node) nodes calm = absurd (cc)

none-of : (p q r s : Bool) → not (p || q || r || s) ≡ true → (p ≡ false) × (q ≡ false) × (r ≡ false) × (s ≡ false)
none-of false false false false e = (refl, refl, refl, refl)
none-of true q r s e = absurd (cc)
none-of false true r s e = absurd (cc)
none-of false false true s e = absurd (cc)
none-of false false false true e = absurd (cc)

-- an entry of a gateway that moves none leaves the three states
pub stay : (entries caller : ℕ) (event : Event) (nodes : List NodeState) → (caller ≡ 0 → ⊥) → moves_none event nodes ≡ true
    → state_at nodes 0 ∷ state_at nodes 1 ∷ state_at nodes 2 ∷ [] ≡ node_step entries caller event nodes
unfolding node_step
stay entries zero event nodes gateway none = absurd (gateway refl)
stay entries (suc caller) event nodes gateway none =
    let a = state_at nodes 0 in
    let b = state_at nodes 1 in
    let c = state_at nodes 2 in
    let each = none-of (is_of_node event) (is_joining a) (is_joining b) (is_joining c) none in
    let all : all_caught event entries nodes ≡ a ∷ b ∷ c ∷ [] = all-still entries nodes event each.0 each.1 each.2 each.3 in
    let later : (suc caller == 0) ≡ false = grind (arith, nat_tests) in
    rw (later, all, after-still entries event (a ∷ b ∷ c ∷ []) each.0)
