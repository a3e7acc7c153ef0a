-- Lemmas on the sample grid and the sample orders of the tests.
use Rattle.std.proofs.Common.{◌≡◌, ℕ, zero, suc, ◌<◌, ◌≤◌, Bool, true, false, cond, not, nat_lt, ltb-true, ◌&&◌, List, [], ◌∷◌, length, All, refl, arith}
use Rattle.std.proofs.lemmas.List.Sums.{sum_by-le}
use Rattle.mkt_base.specs.declared.units.Price.{Price}
use Rattle.mkt_base.specs.declared.order.Order.{Order}
use Rattle.mkt_base.specs.Book.{IsRising, FitsSums, price_at, is_buy, total_left}

-- the parts of a conjunction
and-left : (a b : Bool) → (a && b) ≡ true → a ≡ true
and-left true b h = refl
and-left false b h = cc

and-right : (a b : Bool) → (a && b) ≡ true → b ≡ true
and-right true b h = h
and-right false b h = absurd (cc)

-- each price is above the one before it, and the first above the floor
abbrev pub rises : ℕ → List Price → Bool
rises floor [] = true
rises floor (p ∷ ps) = nat_lt floor p.0 && rises p.0 ps

over_floor : (floor : ℕ) (grid : List Price) → rises floor grid ≡ true → (i : ℕ) → i < length grid → floor < price_at grid i
over_floor floor [] t i l = omega arith
over_floor floor (p ∷ ps) t zero l = ltb-true _ _ (and-left _ _ t)
over_floor floor (p ∷ ps) t (suc i) l =
    let a : floor < p.0 = ltb-true _ _ (and-left _ _ t) in
    let b : p.0 < price_at ps i = over_floor p.0 ps (and-right (nat_lt floor p.0) _ t) i (omega arith) in
    omega arith

pub rising : (floor : ℕ) (grid : List Price) → rises floor grid ≡ true → IsRising grid
rising floor [] t i j h l = omega arith
rising floor (p ∷ ps) t zero zero h l = omega arith
rising floor (p ∷ ps) t zero (suc j) h l = over_floor p.0 ps (and-right (nat_lt floor p.0) _ t) j (omega arith)
rising floor (p ∷ ps) t (suc i) zero h l = omega arith
rising floor (p ∷ ps) t (suc i) (suc j) h l = rising p.0 ps (and-right (nat_lt floor p.0) _ t) i j (omega arith) (omega arith)

part-small : (passes : Bool) (left : ℕ) → left ≤ 1000 → cond passes left 0 ≤ 1000
part-small true left h = h
part-small false left h = omega arith

-- a few small orders are bought and sold within 64 bits
pub few_fit : (orders : List Order) → length orders ≤ 8 → All (λ o. o.left ≤ 1000) orders → FitsSums orders
unfolding total_left
few_fit orders few small = record {
  bought = omega (arith, sum_by-le (λ o. cond (is_buy o.side) o.left 0) 1000 orders (λ k d l. part-small _ _ (small k d l)));
  sold = omega (arith, sum_by-le (λ o. cond (not (is_buy o.side)) o.left 0) 1000 orders (λ k d l. part-small _ _ (small k d l)));
}

-- 1000, 1010 and so on to 1100
abbrev pub sample_grid : List Price
sample_grid = record { 0 = 1000 } ∷ record { 0 = 1010 } ∷ record { 0 = 1020 } ∷ record { 0 = 1030 } ∷ record { 0 = 1040 } ∷ record { 0 = 1050 } ∷ record { 0 = 1060 } ∷ record { 0 = 1070 } ∷ record { 0 = 1080 } ∷ record { 0 = 1090 } ∷ record { 0 = 1100 } ∷ []
