-- Sums over the numbers from 1 on.
use Rattle.std.proofs.Common.{◌≡◌, ℕ, zero, suc, ◌+◌, ◌==◌, ◌<◌, ◌≤◌, Bool, true, false, cond, refl, ap, subst, arith}
use Rattle.std.proofs.lemmas.Bool.{eqb-false, eqb-true, ne_eqb}

-- the sum of f 1 to f n
abbrev pub total : (ℕ → ℕ) → ℕ → ℕ
total f zero = 0
total f (suc n) = total f n + f (suc n)

pub total-zero : (n : ℕ) → total (λ (g : ℕ). 0) n ≡ 0
total-zero zero = omega arith
total-zero (suc n) = let rest : total (λ (g : ℕ). 0) n ≡ 0 = total-zero n in omega (arith, rest)

pub total-add : (f h : ℕ → ℕ) (n : ℕ) → total (λ (g : ℕ). f g + h g) n ≡ total f n + total h n
total-add f h zero = omega arith
total-add f h (suc n) =
    let rest : total (λ (g : ℕ). f g + h g) n ≡ total f n + total h n = total-add f h n in
    omega (arith, rest)

pub total-same : (f h : ℕ → ℕ) (n : ℕ) → ((g : ℕ) → f g ≡ h g) → total f n ≡ total h n
total-same f h zero same = omega arith
total-same f h (suc n) same =
    let rest : total f n ≡ total h n = total-same f h n same in
    let here : f (suc n) ≡ h (suc n) = same (suc n) in
    omega (arith, rest, here)

pub total-le : (f h : ℕ → ℕ) (n : ℕ) → ((g : ℕ) → 1 ≤ g → g ≤ n → f g ≤ h g) → total f n ≤ total h n
total-le f h zero each = omega arith
total-le f h (suc n) each =
    let rest : total f n ≤ total h n = total-le f h n (λ g some below. each g some (omega (arith, below))) in
    let here : f (suc n) ≤ h (suc n) = each (suc n) (omega arith) (omega arith) in
    omega (arith, rest, here)

-- where one of the terms is less, so is the sum
pub total-less : (f h : ℕ → ℕ) (at n : ℕ) → ((g : ℕ) → 1 ≤ g → g ≤ n → f g ≤ h g) → 1 ≤ at → at ≤ n → f at < h at → total f n + 1 ≤ total h n
total-less f h at zero each some within less = absurd (omega (arith, some, within))
total-less f h at (suc n) each some within less = by (at == suc n) refl (λ below. total-less f h at n front some below less)
  where
    front : (g : ℕ) → 1 ≤ g → g ≤ n → f g ≤ h g
    front g first below = each g first (omega (arith, below))

    by : (b : Bool) → (at == suc n) ≡ b → (at ≤ n → total f n + 1 ≤ total h n) → total f (suc n) + 1 ≤ total h (suc n)
    by true same more =
        let here : f (suc n) < h (suc n) = subst (λ (g : ℕ). f g < h g) (eqb-true at (suc n) same) less in
        let rest : total f n ≤ total h n = total-le f h n front in
        omega (arith, here, rest)
    by false apart more =
        let below : at ≤ n = let other = eqb-false at (suc n) apart in omega (arith, within, other) in
        let rest : total f n + 1 ≤ total h n = more below in
        let here : f (suc n) ≤ h (suc n) = each (suc n) (omega arith) (omega arith) in
        omega (arith, here, rest)

-- ---- one number among them

abbrev pub one : ℕ → ℕ → ℕ
one at g = cond (at == g) 1 0

one-other : (at g : ℕ) → (at == g) ≡ false → one at g ≡ 0
one-other at g apart = ap (λ (b : Bool). cond {A = ℕ} b 1 0) apart

one-own : (at g : ℕ) → (at == g) ≡ true → one at g ≡ 1
one-own at g same = ap (λ (b : Bool). cond {A = ℕ} b 1 0) same

total-below : (at n : ℕ) → n < at → total (one at) n ≡ 0
total-below at zero past = omega arith
total-below at (suc n) past =
    let rest : total (one at) n ≡ 0 = total-below at n (omega (arith, past)) in
    let here : one at (suc n) ≡ 0 = one-other at (suc n) (ne_eqb at (suc n) (λ same. absurd (omega (arith, past, same)))) in
    omega (arith, rest, here)

pub total-one : (at n : ℕ) → 1 ≤ at → at ≤ n → total (one at) n ≡ 1
total-one at zero some within = absurd (omega (arith, some, within))
total-one at (suc n) some within = by (at == suc n) refl (λ below. total-one at n some below)
  where
    by : (b : Bool) → (at == suc n) ≡ b → (at ≤ n → total (one at) n ≡ 1) → total (one at) (suc n) ≡ 1
    by true same more =
        let is : at ≡ suc n = eqb-true at (suc n) same in
        let rest : total (one at) n ≡ 0 = total-below at n (omega (arith, is)) in
        let here : one at (suc n) ≡ 1 = one-own at (suc n) same in
        omega (arith, rest, here)
    by false apart more =
        let rest : total (one at) n ≡ 1 = more (let other = eqb-false at (suc n) apart in omega (arith, within, other)) in
        let here : one at (suc n) ≡ 0 = one-other at (suc n) apart in
        omega (arith, rest, here)

pub total-most : (at n : ℕ) → total (one at) n ≤ 1
total-most at zero = omega arith
total-most at (suc n) = by (at == suc n) refl (total-most at n)
  where
    by : (b : Bool) → (at == suc n) ≡ b → total (one at) n ≤ 1 → total (one at) (suc n) ≤ 1
    by true same rest =
        let is : at ≡ suc n = eqb-true at (suc n) same in
        let none : total (one at) n ≡ 0 = total-below at n (omega (arith, is)) in
        let here : one at (suc n) ≡ 1 = one-own at (suc n) same in
        omega (arith, none, here)
    by false apart rest =
        let here : one at (suc n) ≡ 0 = one-other at (suc n) apart in
        omega (arith, rest, here)
