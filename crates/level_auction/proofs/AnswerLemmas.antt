-- The sums that a walk found, as those of the chosen price, and the answer that they give.
use Rattle.std.proofs.Common.{◌≡◌, ℕ, ◌-◌, ◌<◌, ◌≤◌, true, nat_le, ◌&&◌, suc, List, [], ◌∷◌, Option, Some, length, inl, inr, refl, sym, subst, arith, le-leb}
use Rattle.mkt_base.specs.Book.{IsRising, price_at, sums_at}
use Rattle.mkt_base.specs.declared.auction.Sums.{Sums}
use Rattle.mkt_base.specs.declared.order.Order.{Order}
use Rattle.mkt_base.specs.declared.units.Price.{Price}
use Rattle.auction_law.specs.Attempt.{chosen, is_traded}
use Rattle.auction_law.specs.Nearness.{prices_of}
use Rattle.auction_law.proofs.NearnessLemmas.{IsIn}
use Rattle.auction_law.proofs.CalmBookLemmas.{and-true}
use Rattle.auction_law.proofs.SumsLemmas.{price-le}
use Rattle.auction_law.proofs.TradedLemmas.{chosen-in, traded-is}

-- a price of the grid stands at a position
price-position : (grid : List Price) (p : ℕ) → IsIn p (prices_of grid) → (i : ℕ) × (i < length grid) × (p ≡ price_at grid i)
unfolding IsIn
price-position [] p h = absurd h
price-position (q ∷ qs) p h = elim h [
  | inl e ↦ (0, omega arith, e)
  | inr i ↦ let w : (i : ℕ) × (i < length qs) × (p ≡ price_at qs i) = price-position qs p i in (suc w.0, omega (arith, w.1), w.2)
]

-- sums at a price that was found are those of the price that they name
pub found-sums : (grid : List Price) (os : List Order) (r : ℕ) (s : Sums) (found : Option ℕ) → s ≡ sums_at grid os r → found ≡ Some r → (found ≡ Some s.price.0) × (s ≡ sums_at grid os s.price.0)
found-sums grid os r s found e h = subst (λ t. (found ≡ Some t.price.0) × (t ≡ sums_at grid os t.price.0)) (sym e) (h, refl)

-- the chosen price lies between the first and the last price
pub whole-traded : (grid : List Price) (os : List Order) (r p : ℕ) → IsRising grid → chosen grid os r ≡ Some p → is_traded grid os r (price_at grid 0) (price_at grid (length grid - 1)) ≡ true
whole-traded grid os r p rising e =
    let w = price-position grid p (chosen-in grid os r p e) in
    let low : price_at grid 0 ≤ p = omega (arith, w.2, price-le grid 0 w.0 rising (omega arith) w.1) in
    let high : p ≤ price_at grid (length grid - 1) = omega (arith, w.2, price-le grid w.0 (length grid - 1) rising (omega (arith, w.1)) (omega (arith, w.1))) in
    traded-is grid os r (price_at grid 0) (price_at grid (length grid - 1)) p true e (sym (and-true _ _ (le-leb _ _ low) (le-leb _ _ high)))
