-- Two lists of orders whose levels have the same left: what an auction answers does not tell them apart.
use Rattle.std.specs.Prelude.{◌≡◌, ℕ, Bool, List}
use Rattle.std.specs.List.{list_any}
use Rattle.mkt_base.specs.Book.{total_left}
use Rattle.mkt_base.specs.declared.units.Price.{Price}
use Rattle.mkt_base.specs.declared.order.Side.{Side}
use Rattle.mkt_base.specs.declared.order.Spot.{Spot}
use Rattle.mkt_base.specs.declared.order.Order.{Order}
use Rattle.mkt_base.specs.declared.auction.Outcome.{Outcome}
use Rattle.auction_law.specs.Attempt.{IsAttempt, certificate_of}

-- the orders of any levels have as much left in one list as in the other, and there are some in both or in neither
pub record SameLevels (xs ys : List Order) : Type 0 where
  pub sums : (passes : Side → Spot → Bool) → total_left (λ o. passes o.side o.spot) xs ≡ total_left (λ o. passes o.side o.spot) ys
  pub some : (passes : Side → Spot → Bool) → list_any (λ o. passes o.side o.spot) xs ≡ list_any (λ o. passes o.side o.spot) ys

-- an attempt over lists of the same levels has the same outcome, with the same certificate
abbrev pub LevelsAnswerAlike : Type 0
LevelsAnswerAlike = (xs ys : List Order) → SameLevels xs ys → (grid : List Price) (reference lo hi : ℕ) (outcome : Outcome)
    → IsAttempt grid xs reference lo hi outcome
    → IsAttempt grid ys reference lo hi outcome × (certificate_of grid xs reference outcome ≡ certificate_of grid ys reference outcome)
