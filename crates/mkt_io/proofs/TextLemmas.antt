-- A list that is tested in parts, which may overlap.
use Rattle.std.proofs.Common.{◌≡◌, ℕ, zero, suc, ◌+◌, ◌≤◌, Bool, true, false, not, ◌&&◌, ◌||◌, eqb, ltb, List, [], ◌∷◌, take, drop, refl, sym, ap, ◌∙◌, arith}
use Rattle.std.proofs.lemmas.List.Folds.{list_all-append}
use Rattle.std.proofs.Math.Seq.{take-add}
use Rattle.std.specs.List.{list_all}
use Rattle.std.proofs.lemmas.Bool.Decides.{nat_tests}
use Rattle.mkt_io.specs.Words.{is_text_byte}

-- a byte that is no text is low and no tab, or high
pub text-byte : (b : ℕ) → not ((ltb b 32 && not (eqb b 9)) || ltb 126 b) ≡ is_text_byte b
text-byte b = grind (arith, nat_tests)

module _ (passes : ℕ → Bool) where
  both : (a b c : Bool) → ((a && b) && c) ≡ (a && (b && c))
  both true b c = refl
  both false b c = refl

  -- with a front part that passes where all do, all are what counts
  kept : (a b : Bool) → (b ≡ true → a ≡ true) → (a && b) ≡ b
  kept a true front = ap (λ c. c && true) (front refl)
  kept true false front = refl
  kept false false front = refl

  tail-passes : (x : Bool) (b : Bool) → (x && b) ≡ true → b ≡ true
  tail-passes true b e = e
  tail-passes false b e = absurd (cc)

  head-passes : (x : Bool) (b : Bool) → (x && b) ≡ true → x ≡ true
  head-passes true b e = refl
  head-passes false b e = absurd (cc)

  front-passes : (m : ℕ) (xs : List ℕ) → list_all passes xs ≡ true → list_all passes (take m xs) ≡ true
  front-passes zero xs e = refl
  front-passes (suc m) [] e = refl
  front-passes (suc m) (x ∷ xs) e = rw (head-passes (passes x) (list_all passes xs) e) (front-passes m xs (tail-passes (passes x) (list_all passes xs) e))

  -- the first m and those behind the first k, where none stands between
  pub all-overlapping : (k m : ℕ) (xs : List ℕ) → k ≤ m → (list_all passes (take m xs) && list_all passes (drop k xs)) ≡ list_all passes xs
  all-overlapping zero m xs h = kept (list_all passes (take m xs)) (list_all passes xs) (front-passes m xs)
  all-overlapping (suc k) zero xs h = absurd (omega (arith, h))
  all-overlapping (suc k) (suc m) [] h = refl
  all-overlapping (suc k) (suc m) (x ∷ xs) h =
      both (passes x) (list_all passes (take m xs)) (list_all passes (drop k xs)) ∙ ap (λ b. passes x && b) (all-overlapping k m xs (omega (arith, h)))

  swapped : (a b c : Bool) → ((a && b) && c) ≡ ((a && c) && b)
  swapped true true true = refl
  swapped true true false = refl
  swapped true false true = refl
  swapped true false false = refl
  swapped false b c = refl

  -- a piece more in front of what is tested apart
  pub all-more : (i n m : ℕ) (xs : List ℕ) (rest : Bool) → i + n ≡ m → ((list_all passes (take i xs) && rest) && list_all passes (take n (drop i xs))) ≡ (list_all passes (take m xs) && rest)
  all-more i n m xs rest at =
      swapped (list_all passes (take i xs)) rest (list_all passes (take n (drop i xs)))
      ∙ ap (λ b. b && rest) (sym (list_all-append passes (take i xs) (take n (drop i xs))) ∙ ap (list_all passes) (sym (take-add i n xs) ∙ ap (λ k. take k xs) at))
