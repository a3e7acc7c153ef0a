-- A list whose items change one after the other, from the first on.
use Rattle.std.proofs.Common.{◌≡◌, ℕ, ◌<◌, ◌≤◌, ◌+◌, ◌==◌, Bool, true, false, List, length, slice_index_or, slice_set, refl, sym, subst, ◌∙◌, arith}
use Rattle.std.proofs.lemmas.List.{get_or-set_other, length-set}
use Rattle.std.proofs.lemmas.Bool.{eqb-false, eqb-true}
use Rattle.std.proofs.lemmas.Grind.{get_or-set_at}

-- the first i items have changed so, and no other
pub record Upto {X : Type 0} (P : ℕ → X → X → Type 0) (xs ys : List X) (i : ℕ) : Type 0 where
  pub same : length ys ≡ length xs
  pub done : (j : ℕ) (d : X) → j < i → j < length xs → P j (slice_index_or xs j d) (slice_index_or ys j d)
  pub rest : (j : ℕ) (d : X) → i ≤ j → slice_index_or ys j d ≡ slice_index_or xs j d

module _ {X : Type 0} (P : ℕ → X → X → Type 0) where
  pub upto-first : (xs : List X) → Upto P xs xs 0
  upto-first xs = record { same = refl; done = λ j d before within. absurd (omega (arith, before)); rest = λ j d from. refl }

  -- one more
  pub upto-more : (xs ys : List X) (i : ℕ) (new : X) → i < length ys → Upto P xs ys i → ((d : X) → P i (slice_index_or ys i d) new) → Upto P xs (slice_set ys i new) (i + 1)
  upto-more xs ys i new within before this = record {
    same = length-set ys i new ∙ before.same;
    done = λ j d under there. done j d under there (j == i) refl;
    rest = λ j d from. get_or-set_other ys i j new d (λ (is : j ≡ i). absurd (omega (arith, from, is))) ∙ before.rest j d (omega (arith, from));
  }
    where
      done : (j : ℕ) (d : X) → j < i + 1 → j < length xs → (here : Bool) → (j == i) ≡ here → P j (slice_index_or xs j d) (slice_index_or (slice_set ys i new) j d)
      done j d under there true e =
          let same : j ≡ i = eqb-true j i e in
          subst (λ (x : X). P j x (slice_index_or (slice_set ys i new) j d)) (before.rest j d (omega (arith, same)))
          (subst (λ (y : X). P j (slice_index_or ys j d) y) (sym (get_or-set_at ys i j new d same within))
          (subst (λ (n : ℕ). P n (slice_index_or ys n d) new) (sym same) (this d)))
      done j d under there false e =
          let other = eqb-false j i e in
          let less : j < i = below j i under other in
          subst (λ (y : X). P j (slice_index_or xs j d) y) (sym (get_or-set_other ys i j new d other)) (before.done j d less there)
        where
          below : (a b : ℕ) → a < b + 1 → (a ≡ b → ⊥) → a < b
          below a b under apart = omega (arith, under, apart)
