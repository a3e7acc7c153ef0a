-- From one for each number to a function of numbers.
use Rattle.std.proofs.Common.{◌≡◌, ℕ, zero, suc, ◌<◌, ◌≤◌, ◌⊎◌, inl, inr, cond, nat_lt, refl, sym, subst, ◌∙◌, arith, lt-ltb, le-ltb}
use Rattle.std.proofs.lemmas.Bool.{cases_lt, cond-false, cond-true}

-- the first so many as before, then this one, and then none
abbrev put : {A : Type 0} → A → ℕ → A → (ℕ → A) → ℕ → A
put none n a f k = cond (nat_lt k n) (f k) (cond (nat_lt n k) none a)

-- a function for the numbers below a bound, and nothing from there on
abbrev pub Chosen : {A : Type 0} → A → ℕ → (ℕ → A → Type 0) → Type 0
Chosen {A} none n P = (f : ℕ → A) × ((k : ℕ) → k < n → P k (f k)) × ((k : ℕ) → n ≤ k → f k ≡ none)

-- one number more
choose-next : {A : Type 0} (none : A) (n : ℕ) (P : ℕ → A → Type 0) → Chosen none n P → (a : A) → P n a → Chosen none (suc n) P
choose-next {A} none n P before last holds = (
  put none n last before.0,
  (λ k less. by k (split k less)),
  (λ k from. cond-false (nat_lt k n) (before.0 k) (cond (nat_lt n k) none last) (le-ltb k n (omega (arith, from))) ∙ cond-true (nat_lt n k) none last (lt-ltb n k (omega (arith, from)))),
)
  where
    split : (k : ℕ) → k < suc n → (k < n) ⊎ (k ≡ n)
    split k less = either k less (cases_lt k n)
      where
        either : (m : ℕ) → m < suc n → ((m < n) ⊎ (n ≤ m)) → (m < n) ⊎ (m ≡ n)
        either m less (inl under) = inl under
        either m less (inr from) = inr (omega (arith, less, from))

    by : (k : ℕ) → ((k < n) ⊎ (k ≡ n)) → P k (put none n last before.0 k)
    by k (inl less) = subst (P k) (sym (cond-true (nat_lt k n) (before.0 k) (cond (nat_lt n k) none last) (lt-ltb k n less))) (before.1 k less)
    by k (inr is) =
        let same : last ≡ put none n last before.0 k =
        sym (cond-false (nat_lt k n) (before.0 k) (cond (nat_lt n k) none last) (le-ltb k n (omega (arith, is))) ∙ cond-false (nat_lt n k) none last (le-ltb n k (omega (arith, is)))) in
        subst (λ (m : ℕ). P m (put none n last before.0 k)) (sym is) (subst (P n) same holds)

pub choose : {A : Type 0} (none : A) (n : ℕ) (P : ℕ → A → Type 0) → ((k : ℕ) → k < n → (a : A) × P k a) → Chosen none n P
choose none zero P each = ((λ k. none), (λ k less. absurd (omega (arith, less))), (λ k from. refl))
choose none (suc n) P each =
    let last = each n (omega arith) in
    choose-next none n P (choose none n P (λ k less. each k (omega (arith, less)))) last.0 last.1
