-- The digits of a number, from the last on.
use Rattle.std.proofs.Common.{◌≡◌, ℕ, ◌+◌, ◌-◌, ◌/◌, ◌%◌, ◌^◌, ◌<◌, ◌≤◌, zero, suc, List, [], ◌∷◌, ◌++◌, length, drop, set, refl, sym, ap, ◌∙◌, append_assoc, length-append, arith}
use Rattle.std.specs.Fmt.{decimal}
use Rattle.std.proofs.lemmas.Fmt.{decimal_digit, decimal_step, length-decimal-le}

-- a number has a digit more than its tenth part
length-decimal_step : (n : ℕ) → 10 ≤ n → n < 2 ^ 64 → length (decimal n) ≡ length (decimal (n / 10)) + 1
length-decimal_step n ten small = ap length (decimal_step n ten small) ∙ length-append (decimal (n / 10)) ((48 + n % 10) ∷ [])

pub length-decimal-most : (n : ℕ) → n < 2 ^ 64 → length (decimal n) ≤ 20
length-decimal-most n small = length-decimal-le 20 n (omega arith) (omega arith) small

pub length-decimal-1 : (n : ℕ) → n < 10 → length (decimal n) ≡ 1
length-decimal-1 n h = ap length (decimal_digit n h)

pub length-decimal-2 : (n : ℕ) → 10 ≤ n → n < 100 → length (decimal n) ≡ 2
length-decimal-2 n low high = length-decimal_step n low (omega arith) ∙ ap (λ k. k + 1) (length-decimal-1 (n / 10) (omega arith))

pub length-decimal-3 : (n : ℕ) → 100 ≤ n → n < 1000 → length (decimal n) ≡ 3
length-decimal-3 n low high = length-decimal_step n (omega arith) (omega arith) ∙ ap (λ k. k + 1) (length-decimal-2 (n / 10) (omega arith) (omega arith))

pub length-decimal-4 : (n : ℕ) → 1000 ≤ n → n < 10000 → length (decimal n) ≡ 4
length-decimal-4 n low high = length-decimal_step n (omega arith) (omega arith) ∙ ap (λ k. k + 1) (length-decimal-3 (n / 10) (omega arith) (omega arith))

-- four digits more
pub length-decimal-more : (n : ℕ) → 10000 ≤ n → n < 2 ^ 64 → length (decimal n) ≡ length (decimal (n / 10000)) + 4
length-decimal-more n low small =
    let same : n / 10 / 10 / 10 / 10 ≡ n / 10000 = omega arith in
    omega (
      arith,
      length-decimal_step n (omega arith) small,
      length-decimal_step (n / 10) (omega arith) (omega arith),
      length-decimal_step (n / 10 / 10) (omega arith) (omega arith),
      length-decimal_step (n / 10 / 10 / 10) (omega arith) (omega arith),
      ap (λ k. length (decimal k)) same,
    )

-- two digits more
decimal-more : (n : ℕ) → 100 ≤ n → n < 2 ^ 64 → decimal n ≡ decimal (n / 100) ++ ((48 + n % 100 / 10) ∷ (48 + n % 100 % 10) ∷ [])
decimal-more n low small =
    let same : n / 10 / 10 ≡ n / 100 = omega arith in
    let tens : n / 10 % 10 ≡ n % 100 / 10 = omega arith in
    let ones : n % 10 ≡ n % 100 % 10 = omega arith in
    decimal_step n (omega arith) small ∙ ap (λ z. z ++ (48 + n % 10) ∷ []) (decimal_step (n / 10) (omega arith) (omega arith))
    ∙ append_assoc (decimal (n / 10 / 10)) ((48 + n / 10 % 10) ∷ []) ((48 + n % 10) ∷ [])
    ∙ ap (λ k. decimal k ++ ((48 + n / 10 % 10) ∷ (48 + n % 10) ∷ [])) same
    ∙ ap (λ d. decimal (n / 100) ++ ((48 + d) ∷ (48 + n % 10) ∷ [])) tens
    ∙ ap (λ d. decimal (n / 100) ++ ((48 + n % 100 / 10) ∷ (48 + d) ∷ [])) ones

pub length-decimal-pair : (n : ℕ) → 100 ≤ n → n < 2 ^ 64 → length (decimal n) ≡ length (decimal (n / 100)) + 2
length-decimal-pair n low small = ap length (decimal-more n low small) ∙ length-append (decimal (n / 100)) ((48 + n % 100 / 10) ∷ (48 + n % 100 % 10) ∷ [])

-- two bytes that are written before the last ones
drop-pair : (out : List ℕ) (at a b : ℕ) → suc at < length out → drop at (set (set out at a) (suc at) b) ≡ a ∷ b ∷ drop (suc (suc at)) out
drop-pair [] at a b h = absurd (omega (arith, h))
drop-pair (x ∷ []) at a b h = absurd (omega (arith, h))
drop-pair (x ∷ y ∷ out) zero a b h = refl
drop-pair (x ∷ y ∷ out) (suc at) a b h = drop-pair (y ∷ out) at a b (omega (arith, h))

-- two more of the last digits are written
pub pair-written : (n rest at : ℕ) (out : List ℕ) → 100 ≤ rest → rest < 2 ^ 64 → at ≡ length (decimal rest) → at ≤ length out → decimal rest ++ drop at out ≡ decimal n
    → decimal (rest / 100) ++ drop (at - 2) (set (set out (at - 2) (48 + rest % 100 / 10)) (at - 2 + 1) (48 + rest % 100 % 10)) ≡ decimal n
pair-written n rest at out low small is within written =
    let a = 48 + rest % 100 / 10 in
    let b = 48 + rest % 100 % 10 in
    let two : 2 ≤ at = omega (arith, is, length-decimal-pair rest low small) in
    let next : at - 2 + 1 ≡ suc (at - 2) = omega arith in
    let end : suc (suc (at - 2)) ≡ at = omega arith in
    ap (λ k. decimal (rest / 100) ++ drop (at - 2) (set (set out (at - 2) a) k b)) next
    ∙ ap (λ z. decimal (rest / 100) ++ z) (drop-pair out (at - 2) a b (omega arith))
    ∙ ap (λ k. decimal (rest / 100) ++ (a ∷ b ∷ drop k out)) end
    ∙ sym (append_assoc (decimal (rest / 100)) (a ∷ b ∷ []) (drop at out))
    ∙ ap (λ z. z ++ drop at out) (sym (decimal-more rest low small)) ∙ written

set-first : (out : List ℕ) (a : ℕ) → 1 ≤ length out → set out 0 a ≡ a ∷ drop 1 out
set-first [] a h = absurd (omega (arith, h))
set-first (x ∷ out) a h = refl

-- the first digit is written last
pub first-written : (n rest : ℕ) (out : List ℕ) → rest < 10 → 1 ≤ length out → decimal rest ++ drop 1 out ≡ decimal n → set out 0 (48 + rest) ≡ decimal n
first-written n rest out small within written =
    set-first out (48 + rest) within ∙ ap (λ z. z ++ drop 1 out) (sym (decimal_digit rest small)) ∙ written

-- the first two digits are written last
pub two-written : (n rest : ℕ) (out : List ℕ) → 10 ≤ rest → rest < 100 → 2 ≤ length out → decimal rest ++ drop 2 out ≡ decimal n → set (set out 0 (48 + rest / 10)) 1 (48 + rest % 10) ≡ decimal n
two-written n rest out low small within written =
    drop-pair out 0 (48 + rest / 10) (48 + rest % 10) (omega arith)
    ∙ ap (λ z. z ++ drop 2 out) (sym (decimal_step rest low (omega arith) ∙ ap (λ z. z ++ (48 + rest % 10) ∷ []) (decimal_digit (rest / 10) (omega arith)))) ∙ written
