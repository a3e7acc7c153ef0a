-- Lemmas on the three conditions of a price.
use Rattle.std.proofs.Common.{◌≡◌, ℕ, ◌≤◌, true, nat_le, ◌&&◌, List, min, inl, inr, arith, eq-or-lt_of_le}
use Rattle.std.proofs.lemmas.Bool.Decides.{nat_tests}
use Rattle.mkt_base.specs.declared.units.Price.{Price}
use Rattle.mkt_base.specs.declared.order.Order.{Order}
use Rattle.mkt_base.specs.Book.{buys, above, sells, below}
use Rattle.auction_law.specs.Attempt.{meets, volume_at}
use Rattle.auction_law.proofs.SumsLemmas.{above-le-buys, below-le-sells, buys-fall, above-fall, sells-rise, below-rise, buys-le-above, sells-le-below}
use Rattle.auction_law.proofs.NearnessLemmas.{lt_or_le}

-- what they say of the four sums
pub three-tell : (b a s l : ℕ) → (nat_le 1 (min b s) && nat_le a (min b s) && nat_le l (min b s)) ≡ true → (1 ≤ b) × (1 ≤ s) × (a ≤ s) × (l ≤ b)
three-tell b a s l t = grind (arith, nat_tests)

pub three-hold : (b a s l : ℕ) → 1 ≤ b → 1 ≤ s → a ≤ b → a ≤ s → l ≤ b → l ≤ s → (nat_le 1 (min b s) && nat_le a (min b s) && nat_le l (min b s)) ≡ true
three-hold b a s l h1 h2 h3 h4 h5 h6 = grind (arith, nat_tests)

pub meets-tells : (grid : List Price) (orders : List Order) (p : ℕ) → meets grid orders p ≡ true
    → (1 ≤ buys grid orders p) × (1 ≤ sells grid orders p) × (above grid orders p ≤ sells grid orders p) × (below grid orders p ≤ buys grid orders p)
unfolding meets
meets-tells grid orders p t = three-tell (buys grid orders p) (above grid orders p) (sells grid orders p) (below grid orders p) t

pub meets-holds : (grid : List Price) (orders : List Order) (p : ℕ) → 1 ≤ buys grid orders p → 1 ≤ sells grid orders p → above grid orders p ≤ sells grid orders p → below grid orders p ≤ buys grid orders p
    → meets grid orders p ≡ true
unfolding meets
meets-holds grid orders p hb hs ha hl = three-hold (buys grid orders p) (above grid orders p) (sells grid orders p) (below grid orders p) hb hs (above-le-buys grid orders p) ha hl (below-le-sells grid orders p)

-- the prices that meet them are one run
pub meets-between : (grid : List Price) (orders : List Order) (q r p : ℕ) → q ≤ r → r ≤ p → meets grid orders q ≡ true → meets grid orders p ≡ true → meets grid orders r ≡ true
meets-between grid orders q r p lo hi tq tp =
    let hq = meets-tells grid orders q tq in
    let hp = meets-tells grid orders p tp in
    meets-holds grid orders r
    (omega (arith, hp.0, buys-fall grid orders r p hi))
    (omega (arith, hq.1, sells-rise grid orders q r lo))
    (omega (arith, hq.2, above-fall grid orders q r lo, sells-rise grid orders q r lo))
    (omega (arith, hp.3, below-rise grid orders r p hi, buys-fall grid orders r p hi))

-- no price trades more than one that meets them
pub meets-most : (grid : List Price) (orders : List Order) (p q : ℕ) → meets grid orders p ≡ true → volume_at grid orders q ≤ volume_at grid orders p
meets-most grid orders p q t =
    let h = meets-tells grid orders p t in
    let a : above grid orders p ≤ buys grid orders p = above-le-buys grid orders p in
    let b : below grid orders p ≤ sells grid orders p = below-le-sells grid orders p in
    elim (lt_or_le p q) [
      | inl l ↦ omega (arith, h.2, a, buys-le-above grid orders p q l)
      | inr l ↦ elim (eq-or-lt_of_le l) [
        | inl e ↦ rw e (omega arith)
        | inr m ↦ omega (arith, h.3, b, sells-le-below grid orders q p m)
      ]
    ]
