-- The word of a side, by its length and a number made of its bytes.
use Rattle.std.proofs.Common.{◌≡◌, ℕ, ◌-◌, ◌≤◌, cond, eqb, List, [], ◌∷◌, length, get_or, Ok, Fits, w8, w32, refl, arith}
use Rattle.std.specs.Int.{from_le_bytes}
use Rattle.mkt_base.specs.declared.order.Side.TheVariants.{Buy, Sell}
use Rattle.mkt_io.specs.LineFault.{side_of}
use Rattle.mkt_io.specs.Sides.{side_key}

-- a word of 3 or 4 bytes whose number is that of its side
pub side-told : (word : List ℕ) (key : ℕ) → 3 ≤ length word → length word ≤ 4 → ((k : ℕ) → Fits w8 (get_or word k 0))
    → key ≡ from_le_bytes w32 (get_or word 0 0 ∷ get_or word 1 0 ∷ get_or word 2 0 ∷ get_or word (length word - 1) 0 ∷ []) → key ≡ side_key (eqb (length word) 4)
    → Ok (cond (eqb (length word) 4) Sell Buy) ≡ side_of word
side-told [] key low high fits is same = absurd (omega (arith, low))
side-told (a ∷ []) key low high fits is same = absurd (omega (arith, low))
side-told (a ∷ b ∷ []) key low high fits is same = absurd (omega (arith, low))
side-told (a ∷ b ∷ c ∷ []) key low high fits is same =
    let first : a ≡ 98 = omega (arith, is, same, fits 0, fits 1, fits 2) in
    let second : b ≡ 117 = omega (arith, is, same, fits 0, fits 1, fits 2) in
    let third : c ≡ 121 = omega (arith, is, same, fits 0, fits 1, fits 2) in
    rw (first, second, third) refl
side-told (a ∷ b ∷ c ∷ d ∷ []) key low high fits is same =
    let first : a ≡ 115 = omega (arith, is, same, fits 0, fits 1, fits 2, fits 3) in
    let second : b ≡ 101 = omega (arith, is, same, fits 0, fits 1, fits 2, fits 3) in
    let third : c ≡ 108 = omega (arith, is, same, fits 0, fits 1, fits 2, fits 3) in
    let fourth : d ≡ 108 = omega (arith, is, same, fits 0, fits 1, fits 2, fits 3) in
    rw (first, second, third, fourth) refl
side-told (a ∷ b ∷ c ∷ d ∷ e ∷ more) key low high fits is same = absurd (omega (arith, high))
