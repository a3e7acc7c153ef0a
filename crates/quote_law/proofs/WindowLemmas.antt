-- The position of a quote's price, and where it stands in a window.
use Rattle.std.proofs.Common.{◌≡◌, ℕ, ◌<◌, ◌≤◌, inl, inr, eqb, List, length, Option, Some, sym, ap, subst, arith}
use Rattle.std.specs.Option.{IfSome, IsSome, is_some}
use Rattle.std.proofs.lemmas.Bool.{cases_lt, eqb-true}
use Rattle.std.proofs.lemmas.List.Quantifiers.{position-Some}
use Rattle.mkt_base.specs.Book.{IsRising, price_at}
use Rattle.mkt_base.specs.declared.order.Side.{Side}
use Rattle.mkt_base.specs.declared.order.Side.TheVariants.{Buy, Sell}
use Rattle.mkt_base.specs.declared.units.Price.{Price}
use Rattle.tick_grid.specs.Grid.{index_of}
use Rattle.tick_grid.proofs.GridLemmas.{index_of-at}
use Rattle.quote_law.specs.Quotes.{IsToward, opposite, window_to}

-- a price that is found stands at its position
pub price-found : (grid : List Price) (p i : ℕ) → index_of grid p ≡ Some i → price_at grid i ≡ p
unfolding index_of
price-found grid p i found = eqb-true (price_at grid i) p (position-Some (λ q. eqb q.0 p) grid i (record { 0 = 0 }) found).1

-- the price of a position is found
pub price-on-grid : (grid : List Price) (p i : ℕ) → IsRising grid → i < length grid → p ≡ price_at grid i → IsSome (index_of grid p)
price-on-grid grid p i rising inside is = ap (λ (o : Option ℕ). is_some o) (index_of-at grid i p rising inside (sym is))

-- of a rising grid's prices the greater stands further up
not-beyond : (grid : List Price) (i j : ℕ) → IsRising grid → i < length grid → price_at grid i ≤ price_at grid j → i ≤ j
not-beyond grid i j rising inside order =
    elim (cases_lt j i) [
      | inl less ↦ absurd (omega (arith, rising j i less inside, order))
      | inr all ↦ omega arith
    ]

-- prices lie to a side's way from one another as their positions do
toward-positions : (grid : List Price) (side : Side) (i j : ℕ) → IsRising grid → i < length grid → j < length grid
    → IsToward side (price_at grid i) (price_at grid j) → IsToward side i j
toward-positions grid Buy i j rising in_i in_j toward = not-beyond grid i j rising in_i toward
toward-positions grid Sell i j rising in_i in_j toward = not-beyond grid j i rising in_j toward

-- a position lies between one that is not beyond the last one and one that is not before it
between : (side : Side) (last at near far : ℕ) → IsToward (opposite side) last near → IsToward side last at → IsToward side at far
    → ((window_to side near far).0 ≤ at) × (at ≤ (window_to side near far).1)
between Buy last at near far before toward beyond = (omega (arith, before, toward), beyond)
between Sell last at near far before toward beyond = (beyond, omega (arith, before, toward))

-- a window holds the position of a price that lies to the side's way from the last price
pub window-holds : (grid : List Price) (side : Side) (p last at near far : ℕ) (window : ℕ × ℕ) → IsRising grid
    → last < length grid → at < length grid → index_of grid p ≡ Some at → window ≡ window_to side near far
    → IsToward (opposite side) last near → IsToward side at far → IsToward side (price_at grid last) p
    → IfSome (index_of grid p) (λ i. (window.0 ≤ i) × (i ≤ window.1))
window-holds grid side p last at near far window rising in_last in_at found is before beyond toward =
    let ahead : IsToward side last at =
    toward-positions grid side last at rising in_last in_at (subst (λ (q : ℕ). IsToward side (price_at grid last) q) (sym (price-found grid p at found)) toward) in
    subst (λ (o : Option ℕ). IfSome o (λ i. (window.0 ≤ i) × (i ≤ window.1))) (sym found)
    (subst (λ (w : ℕ × ℕ). (w.0 ≤ at) × (at ≤ w.1)) (sym is) (between side last at near far before ahead beyond))

-- a number lies to each side's way from itself
pub toward-itself : (side : Side) (n : ℕ) → IsToward side n n
toward-itself Buy n = omega arith
toward-itself Sell n = omega arith
