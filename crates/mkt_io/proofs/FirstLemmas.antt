-- The first place that passes a test.
use Rattle.std.proofs.Common.{◌≡◌, ℕ, ◌<◌, ◌≤◌, Bool, true, false, not, cond, ltb, List, Option, Some, None, length, slice_index, refl, sym, ◌∙◌, arith}
use Rattle.std.specs.List.{All, position_or_len}
use Rattle.std.proofs.lemmas.Bool.Decides.{nat_tests}
use Rattle.std.proofs.lemmas.List.Sums.{fails_before_first, position_or_len_is, prefix_len-le-length}
use Rattle.memchr.specs.Find.{IsFirstByte}

some-when : (b : Bool) (p at : ℕ) → cond b (Some p) None ≡ Some at → (b ≡ true) × (p ≡ at)
some-when true p at e = (cc, cc)
some-when false p at e = absurd (cc)

none-when : (b : Bool) (p : ℕ) → cond b (Some p) None ≡ None → b ≡ false
none-when true p e = absurd (cc)
none-when false p e = cc

not-true : (b : Bool) → ¬ (b ≡ true) → b ≡ false
not-true true h = absurd (h refl)
not-true false h = refl

-- the first byte that passes a test
pub first-byte : (test : ℕ → Bool) (xs : List ℕ) (at : ℕ) → IsFirstByte test xs (Some at) → (position_or_len test xs ≡ at) × (at < length xs)
first-byte test xs at first =
    let inside : at < length xs = first.0.high in
    (position_or_len_is test xs at 0 (omega arith) (λ k h. not-true (test (slice_index xs k)) (first.0.before k (omega arith) h)) (λ _. first.1), inside)

-- no byte passes a test
pub no-byte : (test : ℕ → Bool) (xs : List ℕ) → IsFirstByte test xs None → All (λ x. test x ≡ false) xs
no-byte test xs none =
    let end = position_or_len_is test xs (length xs) 0 (omega arith) (λ k h. not-true (test (slice_index xs k)) (none k (omega arith) h)) (λ h. absurd (omega (arith, h))) in
    λ k d h. fails_before_first test xs k d (omega (arith, end, h))

-- the place that was found is the first that passes
pub found-at : (test : ℕ → Bool) (xs : List ℕ) (r : Option ℕ) (at : ℕ) → r ≡ cond (ltb (position_or_len test xs) (length xs)) (Some (position_or_len test xs)) None → r ≡ Some at
    → (position_or_len test xs ≡ at) × (at < length xs)
found-at test xs r at e f =
    let s = some-when (ltb (position_or_len test xs) (length xs)) (position_or_len test xs) at (sym e ∙ f) in
    let below : position_or_len test xs < length xs = grind (arith, nat_tests, s.0) in
    (s.1, omega (arith, s.1, below))

-- where none was found, the place is behind the last
pub none-found : (test : ℕ → Bool) (xs : List ℕ) (r : Option ℕ) → r ≡ cond (ltb (position_or_len test xs) (length xs)) (Some (position_or_len test xs)) None → r ≡ None
    → length xs ≡ position_or_len test xs
none-found test xs r e f =
    let s = none-when (ltb (position_or_len test xs) (length xs)) (position_or_len test xs) (sym e ∙ f) in
    let above : length xs ≤ position_or_len test xs = grind (arith, nat_tests, s) in
    omega (arith, above, prefix_len-le-length (λ x. not (test x)) xs)

-- where the place is behind the last, none passes
pub none-passes : (test : ℕ → Bool) (xs : List ℕ) → length xs ≤ position_or_len test xs → All (λ x. test x ≡ false) xs
none-passes test xs above = λ k d h. fails_before_first test xs k d (omega (arith, above, h))
