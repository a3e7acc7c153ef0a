-- What a rack tells of its nodes when one slot is written.
use Rattle.std.proofs.Common.{◌≡◌, ◌↔◌, ℕ, zero, suc, ◌+◌, ◌*◌, ◌<◌, Bool, true, false, List, [], ◌∷◌, length, slice_set, None, if◌then◌else◌, nat_lt, refl, sym, ap, arith, ◌∙◌}
use Rattle.std.proofs.lemmas.Bool.Decides.{nat_tests}
use Rattle.memory_node.specs.Slots.{IsOut, given_at, given_by, place_of, told, told_at}
use Rattle.memory_node.specs.declared.node.Label.{Label}
use Rattle.memory_node.specs.declared.slots.Slot.{Slot}
use Rattle.std.proofs.Common.{Some}

pub told_at-set_same : (slots : List Slot) (place : ℕ) (slot : Slot) → place < length slots → told_at (slice_set slots place slot) place ≡ told (Some slot)
told_at-set_same [] place slot h = absurd (omega (arith, h))
told_at-set_same (s ∷ slots) zero slot h = refl
told_at-set_same (s ∷ slots) (suc place) slot h = told_at-set_same slots place slot (omega (arith, h))

pub told_at-set_other : (slots : List Slot) (place at : ℕ) (slot : Slot) → (at ≡ place → ⊥) → told_at (slice_set slots place slot) at ≡ told_at slots at
told_at-set_other [] place at slot h = refl
told_at-set_other (s ∷ slots) zero zero slot h = absurd (h refl)
told_at-set_other (s ∷ slots) zero (suc at) slot h = refl
told_at-set_other (s ∷ slots) (suc place) zero slot h = refl
told_at-set_other (s ∷ slots) (suc place) (suc at) slot h = told_at-set_other slots place at slot (λ e. h (ap (λ n. suc n) e))

same_label : (i a j b : ℕ) → 3 * i + a ≡ 3 * j + b → a < 3 → b < 3 → ◌≡◌ {A = Label} (record { issue = i; node = a }) (record { issue = j; node = b })
same_label i a j b e ha hb =
    let issue : i ≡ j = omega arith in
    let node : a ≡ b = omega arith in
    rw (issue, node) refl

-- two nodes that are not the same stand at different places
apart : (l m : Label) → (l ≡ m → ⊥) → l.node < 3 → m.node < 3 → place_of l ≡ place_of m → ⊥
apart l m differ hl hm e = differ (same_label l.issue l.node m.issue m.node e hl hm)

module _ (old new : List Slot) (m : Label) (inside : m.node < 3) (same : (at : ℕ) → (at ≡ place_of m → ⊥) → told_at new at ≡ told_at old at) (l : Label) (differ : l ≡ m → ⊥) where
  told-same : l.node < 3 → told_at new (place_of l) ≡ told_at old (place_of l)
  told-same h = same (place_of l) (apart l m differ h inside)

  given-same : (b : Bool) → nat_lt l.node 3 ≡ b → (if b then given_by (told_at new (place_of l)) else None) ≡ (if b then given_by (told_at old (place_of l)) else None)
  given-same true e = ap given_by (told-same (grind (arith, nat_tests, e)))
  given-same false e = refl

  -- of every other node the same is told
  pub others-same : (IsOut new l ↔ IsOut old l) × (given_at new l ≡ given_at old l)
  others-same =
      (((λ h. (h.0, sym (told-same h.0) ∙ h.1)), (λ h. (h.0, told-same h.0 ∙ h.1))), given-same (nat_lt l.node 3) refl)
