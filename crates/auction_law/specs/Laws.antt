-- Laws of the prices of an auction and of what an attempt answers: each is the clause of a function of the same name.
use Rattle.std.specs.Prelude.{◌≡◌, ◌≢◌, ◌≤◌, ◌↔◌, ℕ, not, ◌&&◌, List, Some, IsTrue, nat_le, Contains}
use Rattle.std.specs.List.{list_any}
use Rattle.mkt_base.specs.Book.{price_at, buys, above, sells, below}
use Rattle.mkt_base.specs.declared.units.Price.{Price}
use Rattle.mkt_base.specs.declared.order.Order.{Order}
use Rattle.mkt_base.specs.declared.auction.Outcome.{Outcome}
use Rattle.auction_law.specs.Nearness.{distance, prices_of}
use Rattle.auction_law.specs.Attempt.{IsAttempt, IsAuction, attempt, chosen, is_calm, is_traded, meets, volume_at}

-- going up the prices, what is bought never rises and what is sold never falls; so too what is bought above and sold below
abbrev pub SumsGoOneWay : Type 0
SumsGoOneWay = (grid : List Price) (orders : List Order) (p q : ℕ) → p ≤ q
    → (buys grid orders q ≤ buys grid orders p) × (sells grid orders p ≤ sells grid orders q)
    × (above grid orders q ≤ above grid orders p) × (below grid orders p ≤ below grid orders q)

-- the prices that meet the conditions are one run: where two prices meet them, so does each price between them
abbrev pub OneRunMeets : Type 0
OneRunMeets = (grid : List Price) (orders : List Order) (low p high : ℕ) → low ≤ p → p ≤ high
    → IsTrue (meets grid orders low) → IsTrue (meets grid orders high) → IsTrue (meets grid orders p)

-- no price trades more than one that meets the conditions
abbrev pub MeetingTradesMost : Type 0
MeetingTradesMost = (grid : List Price) (orders : List Order) (p q : ℕ) → IsTrue (meets grid orders p) → volume_at grid orders q ≤ volume_at grid orders p

-- The window holds the reference, a price of the grid: then the chosen price lies in it exactly where some price of the grid
-- that lies in it meets the conditions.
abbrev pub TradesWhereSomeMeets : Type 0
TradesWhereSomeMeets = (grid : List Price) (orders : List Order) (reference lo hi : ℕ) → Contains (prices_of grid) reference → lo ≤ reference → reference ≤ hi
    → is_traded grid orders reference lo hi ≡ list_any (λ p. nat_le lo p && nat_le p hi && meets grid orders p) (prices_of grid)

-- Where two prices that are equally far from the reference both meet the conditions, so does the reference; and where the
-- reference is on the grid neither of them is then chosen. So it never matters which of the two is the nearer one.
abbrev pub TieNeverDecides : Type 0
TieNeverDecides = (grid : List Price) (orders : List Order) (reference p q : ℕ) → p ≢ q → distance reference p ≡ distance reference q
    → IsTrue (meets grid orders p) → IsTrue (meets grid orders q)
    → IsTrue (meets grid orders reference) × (Contains (prices_of grid) reference → chosen grid orders reference ≢ Some p)

-- an attempt's outcome is the one that `attempt` computes, and no other
abbrev pub AttemptIsTheOutcome : Type 0
AttemptIsTheOutcome = (grid : List Price) (orders : List Order) (reference lo hi : ℕ) (outcome : Outcome) → IsAuction grid orders reference lo hi
    → IsAttempt grid orders (price_at grid reference) (price_at grid lo) (price_at grid hi) outcome
    ↔ (outcome ≡ attempt grid orders (price_at grid reference) (price_at grid lo) (price_at grid hi))

-- An attempt trades exactly where the book is not calm, no more is bought above the window's upper end than is sold there, and
-- no more is sold below its lower end than is bought there. So the tests may be made in any order.
abbrev pub TradesUnlessPressed : Type 0
TradesUnlessPressed = (grid : List Price) (orders : List Order) (reference lo hi : ℕ) → IsAuction grid orders reference lo hi
    → is_traded grid orders (price_at grid reference) (price_at grid lo) (price_at grid hi)
    ≡ (not (is_calm grid orders) && nat_le (above grid orders (price_at grid hi)) (sells grid orders (price_at grid hi))
    && nat_le (below grid orders (price_at grid lo)) (buys grid orders (price_at grid lo)))
