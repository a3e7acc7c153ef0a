-- The last price of a grid within a distance of another, by the position that is found.
use Rattle.std.proofs.Common.{◌≡◌, ℕ, ◌<◌, ◌≤◌, inl, inr, List, length, Option, Some, ap, sym, arith}
use Rattle.std.specs.Option.{option_map_or}
use Rattle.std.proofs.lemmas.Bool.{cases_lt}
use Rattle.mkt_base.specs.Book.{IsRising, price_at}
use Rattle.mkt_base.specs.declared.units.Price.{Price}
use Rattle.tick_grid.specs.Grid.{ceil_of, floor_of, last_price}
use Rattle.tick_grid.specs.Range.{greatest_upto, least_from}
use Rattle.tick_grid.proofs.GridLemmas.{ceil_of-found, floor_of-found, not-falling}

-- the position that is found holds the greatest price not above p
pub greatest-is : (grid : List Price) (p i : ℕ) → floor_of grid p ≡ Some i → price_at grid i ≡ greatest_upto grid p
unfolding greatest_upto
greatest-is grid p i found = sym (ap (λ (o : Option ℕ). option_map_or (price_at grid) o 0) found)

pub least-is : (grid : List Price) (p i : ℕ) → ceil_of grid p ≡ Some i → price_at grid i ≡ least_from grid p
unfolding least_from
least-is grid p i found = sym (ap (λ (o : Option ℕ). option_map_or (price_at grid) o (last_price grid)) found)

-- no price that is not above p is above the one found
pub greatest-last : (grid : List Price) (p i k : ℕ) → IsRising grid → floor_of grid p ≡ Some i → k < length grid → price_at grid k ≤ p
    → price_at grid k ≤ price_at grid i
greatest-last grid p i k rising found inside upto =
    let is = floor_of-found grid p i rising found in
    elim (cases_lt i k) [
      | inl less ↦ absurd (omega (arith, is.beyond k less inside, upto))
      | inr all ↦ not-falling grid rising k i all is.inside
    ]

-- no price that is not below p is below the one found
pub least-last : (grid : List Price) (p i k : ℕ) → IsRising grid → ceil_of grid p ≡ Some i → k < length grid → p ≤ price_at grid k
    → price_at grid i ≤ price_at grid k
least-last grid p i k rising found inside from =
    let is = ceil_of-found grid p i found in
    elim (cases_lt k i) [
      | inl less ↦ absurd (omega (arith, is.before k less, from))
      | inr all ↦ not-falling grid rising i k all inside
    ]
