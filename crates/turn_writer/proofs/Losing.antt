-- What a list of losses says of the states.
use Rattle.std.proofs.Common.{◌≡◌, ℕ, zero, suc, ◌+◌, ◌==◌, ◌<◌, ◌≤◌, ◌∙◌, true, false, cond, List, [], ◌∷◌, ◌++◌, ap, arith, length, refl, subst, sym}
use Rattle.std.proofs.Math.Seq.{take-length}
use Rattle.std.proofs.lemmas.Bool.Decides.{nat_tests}
use Rattle.mkt_base.specs.declared.journal.NodeState.{NodeState}
use Rattle.mkt_base.specs.declared.journal.NodeState.TheVariants.{Lost, Joining, Synchronised}
use Rattle.node_rules.specs.Nodes.{is_lost, up_in}
use Rattle.mirror.specs.Mirrored.{Mirrors}
use Rattle.mirror.specs.Replicas.{Replicas, states}
use Rattle.turn_writer.specs.Losses.{AreLosses, Grew, losses_from, times, with_lost}
use Rattle.turn_writer.specs.Went.{AreNodes, LossesKnown, Went, lost_by}
use Rattle.turn_writer.specs.Writing.{LossesWritten, spelled}
use Rattle.turn_writer.proofs.Removing.{times-cons}
use Rattle.turn_writer.proofs.Recording.{recording-length}
use Rattle.turn_writer.proofs.Slots.{lost_by-lost, up_in-one}

-- a number from 3 on is none of a node
pub beyond : (k n : ℕ) → n < 3 → (suc (suc (suc k)) == n) ≡ false
beyond k n h = grind (arith, nat_tests, h)

-- a number is that of one node at most
pub once : (k : ℕ) → cond {A = ℕ} (k == 0) 1 0 + cond {A = ℕ} (k == 1) 1 0 + cond {A = ℕ} (k == 2) 1 0 ≤ 1
once zero = omega arith
once (suc zero) = omega arith
once (suc (suc zero)) = omega arith
once (suc (suc (suc k))) =
    let a : cond {A = ℕ} (suc (suc (suc k)) == 0) 1 0 ≡ 0 = ap (λ b. cond {A = ℕ} b 1 0) (beyond k 0 (omega arith)) in
    let b : cond {A = ℕ} (suc (suc (suc k)) == 1) 1 0 ≡ 0 = ap (λ b. cond {A = ℕ} b 1 0) (beyond k 1 (omega arith)) in
    let c : cond {A = ℕ} (suc (suc (suc k)) == 2) 1 0 ≡ 0 = ap (λ b. cond {A = ℕ} b 1 0) (beyond k 2 (omega arith)) in
    omega (arith, a, b, c)

-- the three nodes are named no more often than the list is long
times-most : (l : List ℕ) → times 0 l + times 1 l + times 2 l ≤ length l
times-most [] = omega arith
times-most (k ∷ l) =
    let most : times 0 l + times 1 l + times 2 l ≤ length l = times-most l in
    let a : times 0 (k ∷ l) ≡ cond (k == 0) 1 0 + times 0 l = times-cons 0 k l in
    let b : times 1 (k ∷ l) ≡ cond (k == 1) 1 0 + times 1 l = times-cons 1 k l in
    let c : times 2 (k ∷ l) ≡ cond (k == 2) 1 0 + times 2 l = times-cons 2 k l in
    let d : cond {A = ℕ} (k == 0) 1 0 + cond {A = ℕ} (k == 1) 1 0 + cond {A = ℕ} (k == 2) 1 0 ≤ 1 = once k in
    omega (arith, most, a, b, c, d)

-- a list of nodes has a node at its front, and nodes behind
pub nodes-rest : (k : ℕ) (l : List ℕ) → AreNodes (k ∷ l) → AreNodes l
nodes-rest k l n =
    let most : times 0 l + times 1 l + times 2 l ≤ length l = times-most l in
    let a : times 0 (k ∷ l) ≡ cond (k == 0) 1 0 + times 0 l = times-cons 0 k l in
    let b : times 1 (k ∷ l) ≡ cond (k == 1) 1 0 + times 1 l = times-cons 1 k l in
    let c : times 2 (k ∷ l) ≡ cond (k == 2) 1 0 + times 2 l = times-cons 2 k l in
    let d : cond {A = ℕ} (k == 0) 1 0 + cond {A = ℕ} (k == 1) 1 0 + cond {A = ℕ} (k == 2) 1 0 ≤ 1 = once k in
    omega (arith, most, a, b, c, d, n)

-- the number of a node in a list that begins with one
at-front : (j k : ℕ) (l : List ℕ) → (k == j) ≡ true → times j (k ∷ l) ≡ suc (times j l)
at-front j k l e = times-cons j k l ∙ ap (λ b. cond {A = ℕ} b 1 0 + times j l) e ∙ (let z : 1 + times j l ≡ suc (times j l) = omega arith in z)

not-front : (j k : ℕ) (l : List ℕ) → (k == j) ≡ false → times j (k ∷ l) ≡ times j l
not-front j k l e = times-cons j k l ∙ ap (λ b. cond {A = ℕ} b 1 0 + times j l) e ∙ (let z : 0 + times j l ≡ times j l = omega arith in z)

none-else : (k : ℕ) (l : List ℕ) → AreNodes (suc (suc (suc k)) ∷ l) → ⊥
none-else k l n =
    let most : times 0 l + times 1 l + times 2 l ≤ length l = times-most l in
    let a : times 0 (suc (suc (suc k)) ∷ l) ≡ times 0 l = not-front 0 (suc (suc (suc k))) l (beyond k 0 (omega arith)) in
    let b : times 1 (suc (suc (suc k)) ∷ l) ≡ times 1 l = not-front 1 (suc (suc (suc k))) l (beyond k 1 (omega arith)) in
    let c : times 2 (suc (suc (suc k)) ∷ l) ≡ times 2 l = not-front 2 (suc (suc (suc k))) l (beyond k 2 (omega arith)) in
    omega (arith, most, a, b, c, n)

-- the states with those of the list lost
pub lost-states : (l : List ℕ) (x y z : NodeState) → AreNodes l → with_lost l (x ∷ y ∷ z ∷ []) ≡ lost_by (times 0 l) x ∷ lost_by (times 1 l) y ∷ lost_by (times 2 l) z ∷ []
lost-states [] x y z n = refl
lost-states (zero ∷ l) x y z n =
    lost-states l Lost y z (nodes-rest 0 l n)
    ∙ ap (λ s. s ∷ lost_by (times 1 l) y ∷ lost_by (times 2 l) z ∷ []) (lost_by-lost (times 0 l) ∙ ap (λ i. lost_by i x) (sym (at-front 0 0 l refl)))
    ∙ ap (λ i. lost_by (times 0 (0 ∷ l)) x ∷ lost_by i y ∷ lost_by (times 2 l) z ∷ []) (sym (not-front 1 0 l refl))
    ∙ ap (λ i. lost_by (times 0 (0 ∷ l)) x ∷ lost_by (times 1 (0 ∷ l)) y ∷ lost_by i z ∷ []) (sym (not-front 2 0 l refl))
lost-states (suc zero ∷ l) x y z n =
    lost-states l x Lost z (nodes-rest 1 l n)
    ∙ ap (λ i. lost_by i x ∷ lost_by (times 1 l) Lost ∷ lost_by (times 2 l) z ∷ []) (sym (not-front 0 1 l refl))
    ∙ ap (λ s. lost_by (times 0 (1 ∷ l)) x ∷ s ∷ lost_by (times 2 l) z ∷ []) (lost_by-lost (times 1 l) ∙ ap (λ i. lost_by i y) (sym (at-front 1 1 l refl)))
    ∙ ap (λ i. lost_by (times 0 (1 ∷ l)) x ∷ lost_by (times 1 (1 ∷ l)) y ∷ lost_by i z ∷ []) (sym (not-front 2 1 l refl))
lost-states (suc (suc zero) ∷ l) x y z n =
    lost-states l x y Lost (nodes-rest 2 l n)
    ∙ ap (λ i. lost_by i x ∷ lost_by (times 1 l) y ∷ lost_by (times 2 l) Lost ∷ []) (sym (not-front 0 2 l refl))
    ∙ ap (λ i. lost_by (times 0 (2 ∷ l)) x ∷ lost_by i y ∷ lost_by (times 2 l) Lost ∷ []) (sym (not-front 1 2 l refl))
    ∙ ap (λ s. lost_by (times 0 (2 ∷ l)) x ∷ lost_by (times 1 (2 ∷ l)) y ∷ s ∷ []) (lost_by-lost (times 2 l) ∙ ap (λ i. lost_by i z) (sym (at-front 2 2 l refl)))
lost-states (suc (suc (suc k)) ∷ l) x y z n = absurd (none-else k l n)

-- a state that may be lost is not lost
stands : (s : NodeState) → 1 ≤ up_in s → is_lost s ≡ false
stands Lost h = absurd (omega (arith, h))
stands (Joining n) h = refl
stands Synchronised h = refl

-- lists of losses: each node once, and only if it is up
pub are-losses : (l : List ℕ) (x y z : NodeState) → AreNodes l → times 0 l ≤ up_in x → times 1 l ≤ up_in y → times 2 l ≤ up_in z → AreLosses (x ∷ y ∷ z ∷ []) l
are-losses [] x y z n a b c = tt
are-losses (zero ∷ l) x y z n a b c =
    let i : times 0 (0 ∷ l) ≡ suc (times 0 l) = at-front 0 0 l refl in
    let j : times 1 (0 ∷ l) ≡ times 1 l = not-front 1 0 l refl in
    let k : times 2 (0 ∷ l) ≡ times 2 l = not-front 2 0 l refl in
    let one : up_in x ≤ 1 = up_in-one x in (
      omega arith,
      stands x (omega (arith, i, a)),
      are-losses l Lost y z (nodes-rest 0 l n) (omega (arith, i, a, one)) (omega (arith, j, b)) (omega (arith, k, c)),
    )
are-losses (suc zero ∷ l) x y z n a b c =
    let i : times 0 (1 ∷ l) ≡ times 0 l = not-front 0 1 l refl in
    let j : times 1 (1 ∷ l) ≡ suc (times 1 l) = at-front 1 1 l refl in
    let k : times 2 (1 ∷ l) ≡ times 2 l = not-front 2 1 l refl in
    let one : up_in y ≤ 1 = up_in-one y in (
      omega arith,
      stands y (omega (arith, j, b)),
      are-losses l x Lost z (nodes-rest 1 l n) (omega (arith, i, a)) (omega (arith, j, b, one)) (omega (arith, k, c)),
    )
are-losses (suc (suc zero) ∷ l) x y z n a b c =
    let i : times 0 (2 ∷ l) ≡ times 0 l = not-front 0 2 l refl in
    let j : times 1 (2 ∷ l) ≡ times 1 l = not-front 1 2 l refl in
    let k : times 2 (2 ∷ l) ≡ suc (times 2 l) = at-front 2 2 l refl in
    let one : up_in z ≤ 1 = up_in-one z in (
      omega arith,
      stands z (omega (arith, k, c)),
      are-losses l x y Lost (nodes-rest 2 l n) (omega (arith, i, a)) (omega (arith, j, b)) (omega (arith, k, c, one)),
    )
are-losses (suc (suc (suc k)) ∷ l) x y z n a b c = absurd (none-else k l n)

-- ---- what calls in a row say of the states

module _ (w : List (List ℕ)) (x y z : NodeState) (l : List ℕ) (a b : Replicas) (p : Went w x y z l a b) where
  pub went-states : states b ≡ with_lost l (x ∷ y ∷ z ∷ [])
  went-states =
      ap (λ s. s ∷ b.second.state ∷ b.third.state ∷ []) p.first.state_is
      ∙ ap (λ s. lost_by (times 0 l) x ∷ s ∷ b.third.state ∷ []) p.second.state_is
      ∙ ap (λ s. lost_by (times 0 l) x ∷ lost_by (times 1 l) y ∷ s ∷ []) p.third.state_is
      ∙ sym (lost-states l x y z p.nodes)

  pub went-losses : AreLosses (x ∷ y ∷ z ∷ []) l
  went-losses = are-losses l x y z p.nodes p.first.once p.second.once p.third.once

  pub went-grew : Grew l a b
  went-grew = record { first = p.first.grew; second = p.second.grew; third = p.third.grew }

-- losses that are all recorded are written
pub losses-written : (own : ℕ) (start lost : List ℕ) (a b : Replicas) → LossesKnown own start lost a b → (more : List ℕ) × (lost ≡ start ++ more) × LossesWritten own start more a b
losses-written own start lost a b k = (
  k.recording.more,
  k.recording.lost_are,
  record {
    mirrors = subst (λ xs. (journal : List (List ℕ)) → Mirrors journal a → Mirrors (journal ++ spelled (losses_from a.length own xs)) b) (take-length lost ∙ k.recording.lost_are) k.recording.went.mirrors;
    states_are = went-states _ _ _ _ k.recording.more a b k.recording.went;
    losses = went-losses _ _ _ _ k.recording.more a b k.recording.went;
    some = k.some;
    grew = went-grew _ _ _ _ k.recording.more a b k.recording.went;
    keeps = k.recording.went.keeps;
    entries = recording-length own (length lost) start lost a b k.recording ∙ ap (λ xs. a.length + length xs) k.recording.lost_are;
  },
)
