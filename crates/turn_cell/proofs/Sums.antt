-- Sums over lists that change at one place.
use Rattle.std.proofs.Common.{subst, ◌≡◌, ℕ, zero, suc, ◌+◌, ◌*◌, ◌<◌, ◌≤◌, ◌≢◌, List, [], ◌∷◌, ◌++◌, set, sym, refl, ap, ⊎_elim, arith, cond, eq-eqb, ne_eqb}
use mathlib.Core.Logic.{dite}
use native.Mathlib.Decide.{dec_le, ℕ_discrete}
use mathlib.Core.Option.{some, some-injective, some-ne-none}
use lib.ListN.{get_elem?}
use Rattle.atomic_table.proofs.Lists.{at_set, at_snoc}
use Rattle.turn_cell.specs.Views.{total, only, lives}

module _ {A : Type 0} (f : A → ℕ) where
  pub total-append : (l m : List A) → total f (l ++ m) ≡ total f l + total f m
  total-append [] m = omega arith
  total-append (x ∷ xs) m = omega (arith, total-append xs m)

  pub total-set : (l : List A) (j : ℕ) (v w : A) → get_elem? l j ≡ some v → total f (set l j w) + f v ≡ total f l + f w
  total-set [] j v w e = absurd (some-ne-none v (sym e))
  total-set (x ∷ xs) zero v w e = omega (arith, ap f (some-injective x v e))
  total-set (x ∷ xs) (suc j) v w e = omega (arith, total-set xs j v w e)

  pub term_le : (l : List A) (j : ℕ) (v : A) → get_elem? l j ≡ some v → f v ≤ total f l
  term_le [] j v e = absurd (some-ne-none v (sym e))
  term_le (x ∷ xs) zero v e = omega (arith, ap f (some-injective x v e))
  term_le (x ∷ xs) (suc j) v e = omega (arith, term_le xs j v e)

  pub terms_le : (l : List A) (j k : ℕ) (v u : A) → k ≢ j → get_elem? l j ≡ some v → get_elem? l k ≡ some u → f v + f u ≤ total f l
  terms_le [] j k v u n e d = absurd (some-ne-none v (sym e))
  terms_le (x ∷ xs) zero zero v u n e d = absurd (n refl)
  terms_le (x ∷ xs) zero (suc k) v u n e d = omega (arith, ap f (some-injective x v e), term_le xs k u d)
  terms_le (x ∷ xs) (suc j) zero v u n e d = omega (arith, ap f (some-injective x u d), term_le xs j v e)
  terms_le (x ∷ xs) (suc j) (suc k) v u n e d = omega (arith, terms_le xs j k v u (λ h. n (ap suc h)) e d)

  -- a sum that is not 0 has a term that is not 0
  pub some_term : (l : List A) → 0 < total f l → (j : ℕ) × (v : A) × (get_elem? l j ≡ some v) × (0 < f v)
  some_term [] h = absurd (omega arith)
  some_term (x ∷ xs) h = dite (dec_le (f x) 0)
      (λ none_here. let later = some_term xs (omega arith) in (suc later.0, later.1, later.2, later.3))
      (λ here. (0, x, refl, omega arith))

-- a sum of two functions
pub total_plus : {A : Type 0} (f g : A → ℕ) (l : List A) → total (λ x. f x + g x) l ≡ total f l + total g l
total_plus f g [] = refl
total_plus f g (x ∷ xs) = omega (arith, total_plus f g xs)

pub total_times : {A : Type 0} (k : ℕ) (f : A → ℕ) (l : List A) → total (λ x. k * f x) l ≡ k * total f l
total_times k f [] = grind arith
total_times k f (x ∷ xs) = grind (arith, total_times k f xs)

pub total_le : {A : Type 0} (f g : A → ℕ) (l : List A) → ((j : ℕ) (v : A) → get_elem? l j ≡ some v → f v ≤ g v) → total f l ≤ total g l
total_le f g [] h = omega arith
total_le f g (x ∷ xs) h = omega (arith, h 0 x refl, total_le f g xs (λ j v e. h (suc j) v e))

module _ {A : Type 0} (P : A → Type 0) where
  -- a fact of each place, after one is set
  pub each_set : (l : List A) (i : ℕ) (w : A) → ((j : ℕ) (v : A) → get_elem? l j ≡ some v → P v) → P w
      → (j : ℕ) (v : A) → get_elem? (set l i w) j ≡ some v → P v
  each_set l i w others mine j v e = ⊎_elim (λ t. subst P t.1 mine) (λ t. others j v t.1) (at_set l i j w v e)

  pub each_snoc : (l : List A) (w : A) → ((j : ℕ) (v : A) → get_elem? l j ≡ some v → P v) → P w
      → (j : ℕ) (v : A) → get_elem? (l ++ w ∷ []) j ≡ some v → P v
  each_snoc l w others mine j v e = ⊎_elim (λ t. others j v t) (λ t. subst P t mine) (at_snoc l w v j e)

pub only_same : (t a : ℕ) → a ≡ t → only t a ≡ 1
only_same t a e = ap (λ b. cond b 1 0) (eq-eqb a t e)

pub only_else : (t a : ℕ) → a ≢ t → only t a ≡ 0
only_else t a n = ap (λ b. cond b 1 0) (ne_eqb a t n)

pub only_le : (t a : ℕ) → only t a ≤ 1
only_le t a = dite (ℕ_discrete a t) (λ e. omega (arith, only_same t a e)) (λ n. omega (arith, only_else t a n))

pub lives_real : (c : ℕ) → c ≢ 0 → lives c ≡ 1
lives_real c n = ap (λ b. cond b 0 1) (ne_eqb c 0 n)

pub lives_le : (c : ℕ) → lives c ≤ 1
lives_le c = dite (ℕ_discrete c 0) (λ (e : c ≡ 0). let q : lives c ≡ 0 = ap (λ b. cond b 0 1) (eq-eqb c 0 e) in omega arith) (λ n. omega (arith, lives_real c n))
