-- The digits of the numbers below 100 as a text.
use Rattle.std.proofs.Common.{◌≡◌, ℕ, ◌+◌, ◌*◌, ◌/◌, ◌%◌, ◌<◌, ◌==◌, Bool, true, false, List, length, get_or, refl, ap, ◌∙◌, zero-add, codes, slice_index_or}
use Rattle.std.proofs.lemmas.Bool.{eqb-true}
use Rattle.std.proofs.lemmas.List.FromFn.{get_or-range_with_len, length-range_with_len}
use Rattle.std.proofs.lemmas.List.Folds.{list_all_at}
use Rattle.std.specs.List.{list_all, range_with_len}

abbrev pairs : List ℕ
pairs = codes "00010203040506070809101112131415161718192021222324252627282930313233343536373839404142434445464748495051525354555657585960616263646566676869707172737475767778798081828384858687888990919293949596979899"

all-tens : list_all (λ p. slice_index_or pairs (2 * p) 0 == 48 + p / 10) (range_with_len 0 100) ≡ true
all-tens = refl

all-ones : list_all (λ p. slice_index_or pairs (2 * p + 1) 0 == 48 + p % 10) (range_with_len 0 100) ≡ true
all-ones = refl

-- what all numbers below 100 pass each of them passes
each : (f : ℕ → Bool) → list_all f (range_with_len 0 100) ≡ true → (n : ℕ) → n < 100 → f n ≡ true
each f all n small = by_test (f n) refl
  where
    by_test : (b : Bool) → f n ≡ b → f n ≡ true
    by_test true is = is
    by_test false is =
        let here : get_or (range_with_len 0 100) n 0 ≡ n = get_or-range_with_len 0 100 n 0 small ∙ zero-add n in
        let inside : n < length (range_with_len 0 100) = rw length-range_with_len small in
        let some : list_all f (range_with_len 0 100) ≡ false = list_all_at f (range_with_len 0 100) n 0 inside (ap f here ∙ is) in
        absurd (cc)

pub tens-at : (n : ℕ) → n < 100 → slice_index_or pairs (2 * n) 0 ≡ 48 + n / 10
tens-at n small = eqb-true (slice_index_or pairs (2 * n) 0) (48 + n / 10) (each (λ p. slice_index_or pairs (2 * p) 0 == 48 + p / 10) all-tens n small)

pub ones-at : (n : ℕ) → n < 100 → slice_index_or pairs (2 * n + 1) 0 ≡ 48 + n % 10
ones-at n small = eqb-true (slice_index_or pairs (2 * n + 1) 0) (48 + n % 10) (each (λ p. slice_index_or pairs (2 * p + 1) 0 == 48 + p % 10) all-ones n small)
