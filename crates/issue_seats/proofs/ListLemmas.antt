-- Lists that grow at the end, that change from the first item on, and that are taken in step.
use Rattle.std.proofs.Common.{◌≡◌, ℕ, zero, suc, ◌<◌, ◌≤◌, ◌+◌, ◌==◌, Bool, true, false, List, [], ◌∷◌, ◌++◌, length, take, drop, get_or, slice_index_or, slice_set, refl, sym, ap, subst, ◌∙◌, arith, append-nil}
use Rattle.std.specs.List.{AllZip}
use Rattle.std.proofs.lemmas.List.{get_or-set_other, length-set, take_all}
use Rattle.std.proofs.lemmas.Bool.{eqb-false, eqb-true}
use Rattle.std.proofs.lemmas.Grind.{get_or-set_at}

-- an item of a list that has one at this place
pub item-of : {X : Type 0} (xs : List X) (n : ℕ) → n < length xs → X
item-of [] n within = absurd (omega arith)
item-of (x ∷ xs) n within = x

-- ---- items that change one after the other

-- the first i items have changed so, and no other
pub record Upto {X : Type 0} (P : ℕ → X → X → Type 0) (xs ys : List X) (i : ℕ) : Type 0 where
  pub same : length ys ≡ length xs
  pub done : (j : ℕ) (d : X) → j < i → j < length xs → P j (slice_index_or xs j d) (slice_index_or ys j d)
  pub rest : (j : ℕ) (d : X) → i ≤ j → slice_index_or ys j d ≡ slice_index_or xs j d

module _ {X : Type 0} (P : ℕ → X → X → Type 0) where
  pub upto-first : (xs : List X) → Upto P xs xs 0
  upto-first xs = record { same = refl; done = λ j d before within. absurd (omega (arith, before)); rest = λ j d from. refl }

  -- one more
  pub upto-more : (xs ys : List X) (i : ℕ) (new : X) → i < length ys → Upto P xs ys i → ((d : X) → P i (slice_index_or ys i d) new) → Upto P xs (slice_set ys i new) (i + 1)
  upto-more xs ys i new within before this = record {
    same = length-set ys i new ∙ before.same;
    done = λ j d under there. done j d under there (j == i) refl;
    rest = λ j d from. get_or-set_other ys i j new d (λ (is : j ≡ i). absurd (omega (arith, from, is))) ∙ before.rest j d (omega (arith, from));
  }
    where
      done : (j : ℕ) (d : X) → j < i + 1 → j < length xs → (here : Bool) → (j == i) ≡ here → P j (slice_index_or xs j d) (slice_index_or (slice_set ys i new) j d)
      done j d under there true e =
          let same : j ≡ i = eqb-true j i e in
          subst (λ (x : X). P j x (slice_index_or (slice_set ys i new) j d)) (before.rest j d (omega (arith, same)))
          (subst (λ (y : X). P j (slice_index_or ys j d) y) (sym (get_or-set_at ys i j new d same within))
          (subst (λ (n : ℕ). P n (slice_index_or ys n d) new) (sym same) (this d)))
      done j d under there false e =
          let other = eqb-false j i e in
          let less : j < i = below j i under other in
          subst (λ (y : X). P j (slice_index_or xs j d) y) (sym (get_or-set_other ys i j new d other)) (before.done j d less there)
        where
          below : (a b : ℕ) → a < b + 1 → (a ≡ b → ⊥) → a < b
          below a b under apart = omega (arith, under, apart)

-- a list that was written as a slice and is as long as it was
pub written-back : {X : Type 0} (n : ℕ) (old new : List X) → length new ≡ n → length new ≡ length old → take n (new ++ drop (length new) old) ≡ new
written-back {X} n old new long same =
    ap (λ (xs : List X). take n (new ++ xs)) (nothing (length new) old (omega (arith, same))) ∙ ap (take n) (append-nil new) ∙ take_all n new (omega (arith, long))
  where
    nothing : (k : ℕ) (xs : List X) → length xs ≤ k → drop k xs ≡ []
    nothing zero [] past = refl
    nothing zero (x ∷ xs) past = absurd (omega (arith, past))
    nothing (suc k) [] past = refl
    nothing (suc k) (x ∷ xs) past = nothing k xs (omega (arith, past))

-- where nothing is left, the front is the whole
pub nothing-left : {X : Type 0} (front rest whole : List X) → length rest ≡ 0 → front ++ rest ≡ whole → front ≡ whole
nothing-left front [] whole none is = sym (append-nil front) ∙ is
nothing-left front (x ∷ rest) whole none is = absurd (omega (arith, none))

-- the item at a place, and those behind it
pub drop-there : {X : Type 0} (xs : List X) (n : ℕ) (x : X) (rest : List X) → drop n xs ≡ x ∷ rest → (d : X) → get_or xs n d ≡ x
drop-there [] zero x rest is d = absurd (cc)
drop-there [] (suc n) x rest is d = absurd (cc)
drop-there (y ∷ xs) zero x rest is d = cc
drop-there (y ∷ xs) (suc n) x rest is d = drop-there xs n x rest is d

drop-behind : {X : Type 0} (xs : List X) (n : ℕ) (x : X) (rest : List X) → drop n xs ≡ x ∷ rest → drop (suc n) xs ≡ rest
drop-behind [] zero x rest is = absurd (cc)
drop-behind [] (suc n) x rest is = absurd (cc)
drop-behind (y ∷ xs) zero x rest is = cc
drop-behind (y ∷ xs) (suc n) x rest is = drop-behind xs n x rest is

pub drop-on : {X : Type 0} (xs : List X) (n : ℕ) (x : X) (rest : List X) → drop n xs ≡ x ∷ rest → rest ≡ drop (n + 1) xs
drop-on xs n x rest is =
    let one : suc n ≡ n + 1 = omega arith in
    sym (drop-behind xs n x rest is) ∙ ap (λ (k : ℕ). drop k xs) one

-- ---- two lists, item by item

module _ {A B : Type 0} (R : A → B → Type 0) where
  pub zip-from : (xs : List A) (ys : List B) → length ys ≡ length xs → ((n : ℕ) (x : A) (y : B) → n < length xs → R (get_or xs n x) (get_or ys n y)) → AllZip R xs ys
  zip-from [] [] same each = tt
  zip-from [] (y ∷ ys) same each = absurd (omega arith)
  zip-from (x ∷ xs) [] same each = absurd (omega arith)
  zip-from (x ∷ xs) (y ∷ ys) same each = (each 0 x y (omega arith), zip-from xs ys (omega arith) (λ n a b within. each (suc n) a b (omega (arith, within))))

  pub zip-at : (xs : List A) (ys : List B) → AllZip R xs ys → (n : ℕ) (x : A) (y : B) → n < length xs → R (get_or xs n x) (get_or ys n y)
  zip-at [] ys all n x y within = absurd (omega arith)
  zip-at (a ∷ xs) [] all n x y within = absurd all
  zip-at (a ∷ xs) (b ∷ ys) all zero x y within = all.0
  zip-at (a ∷ xs) (b ∷ ys) all (suc n) x y within = zip-at xs ys all.1 n x y (omega arith)
