-- Tests of many bytes at once, as the bits of a number.
use Rattle.std.proofs.Common.{◌≡◌, ℕ, zero, suc, ◌+◌, ◌*◌, ◌/◌, ◌^◌, max, min, Bool, true, false, not, ◌&&◌, ◌||◌, cond, eqb, List, [], ◌∷◌, ◌++◌, length, get_or, drop, map, bit_and, bit_or, refl, sym, ap, ◌∙◌, arith}
use Rattle.std.proofs.Math.Nat.{div-div-eq-div-mul, pow-suc, zero-div}
use Rattle.std.proofs.lemmas.Bool.Decides.{nat_tests}
use Rattle.std.specs.List.{list_all}
use Rattle.std.specs.Simd.Lanes.{mask_l}
use Rattle.std.proofs.lemmas.Nat.Bits.{bit_at_and, bit_at_or, same_from_bits}
use Rattle.std.proofs.lemmas.Simd.{bit_mask_l}

abbrev bit : Bool → ℕ
bit b = cond b 1 0

module _ (p q : ℕ → Bool) where
  bit-or : (a b : Bool) → max (bit a) (bit b) ≡ bit (a || b)
  bit-or true true = refl
  bit-or true false = refl
  bit-or false true = refl
  bit-or false false = refl

  bit-and : (a b : Bool) → min (bit a) (bit b) ≡ bit (a && b)
  bit-and true true = refl
  bit-and true false = refl
  bit-and false true = refl
  bit-and false false = refl

  either-at : (xs : List ℕ) (i : ℕ) → max (bit (get_or (map p xs) i false)) (bit (get_or (map q xs) i false)) ≡ bit (get_or (map (λ x. p x || q x) xs) i false)
  either-at [] i = refl
  either-at (x ∷ xs) zero = bit-or (p x) (q x)
  either-at (x ∷ xs) (suc i) = either-at xs i

  both-at : (xs : List ℕ) (i : ℕ) → min (bit (get_or (map p xs) i false)) (bit (get_or (map q xs) i false)) ≡ bit (get_or (map (λ x. p x && q x) xs) i false)
  both-at [] i = refl
  both-at (x ∷ xs) zero = bit-and (p x) (q x)
  both-at (x ∷ xs) (suc i) = both-at xs i

  -- the bytes that pass one of two tests
  pub mask-or : (xs : List ℕ) → bit_or (mask_l (map p xs)) (mask_l (map q xs)) ≡ mask_l (map (λ x. p x || q x) xs)
  mask-or xs =
      same_from_bits _ _
      (λ i. bit_at_or (mask_l (map p xs)) (mask_l (map q xs)) i
      ∙ rw (bit_mask_l (map p xs) i, bit_mask_l (map q xs) i, bit_mask_l (map (λ x. p x || q x) xs) i) (either-at xs i))

  -- the bytes that pass both
  pub mask-and : (xs : List ℕ) → bit_and (mask_l (map p xs)) (mask_l (map q xs)) ≡ mask_l (map (λ x. p x && q x) xs)
  mask-and xs =
      same_from_bits _ _
      (λ i. bit_at_and (mask_l (map p xs)) (mask_l (map q xs)) i
      ∙ rw (bit_mask_l (map p xs) i, bit_mask_l (map q xs) i, bit_mask_l (map (λ x. p x && q x) xs) i) (both-at xs i))

none-more : (b : Bool) (n : ℕ) (rest : Bool) → eqb n 0 ≡ rest → eqb (bit b + 2 * n) 0 ≡ (not b && rest)
none-more true n rest e = grind (arith, nat_tests)
none-more false n rest e = twice n ∙ e
  where
    twice : (m : ℕ) → eqb (0 + 2 * m) 0 ≡ eqb m 0
    twice m = grind (arith, nat_tests)

-- no byte passes a test
pub mask-none : (p : ℕ → Bool) (xs : List ℕ) → eqb (mask_l (map p xs)) 0 ≡ list_all (λ x. not (p x)) xs
mask-none p [] = refl
mask-none p (x ∷ xs) = none-more (p x) (mask_l (map p xs)) (list_all (λ y. not (p y)) xs) (mask-none p xs)

-- two lists of bits, one behind the other
pub mask-append : (ms ns : List Bool) → mask_l (ms ++ ns) ≡ mask_l ms + 2 ^ length ms * mask_l ns
mask-append [] ns = omega arith
mask-append (m ∷ ms) ns = let rest = mask-append ms ns in rw (pow-suc 2 (length ms)) (omega (arith, rest))

mask-half : (m : Bool) (ms : List Bool) → mask_l (m ∷ ms) / 2 ≡ mask_l ms
mask-half true ms = omega arith
mask-half false ms = omega arith

-- a list of bits without its first ones
pub mask-drop : (k : ℕ) (ms : List Bool) → mask_l (drop k ms) ≡ mask_l ms / 2 ^ k
mask-drop zero ms = omega arith
mask-drop (suc k) [] = sym (zero-div (2 ^ suc k))
mask-drop (suc k) (m ∷ ms) = mask-drop k ms ∙ ap (λ n. n / 2 ^ k) (sym (mask-half m ms)) ∙ div-div-eq-div-mul (mask_l (m ∷ ms)) 2 (2 ^ k) ∙ ap (λ n. mask_l (m ∷ ms) / n) (omega (arith, pow-suc 2 k))
