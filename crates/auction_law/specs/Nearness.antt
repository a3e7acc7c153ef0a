-- The order of prices by their nearness to a reference.
use Rattle.std.specs.Prelude.{ℕ, ◌<◌, ◌≤◌, length, ◌+◌, ◌-◌, Bool, ◌&&◌, ◌||◌, List, [], ◌∷◌, map, if◌then◌else◌, ◌==◌, nat_lt}
use Rattle.mkt_base.specs.Book.{IsRising, price_at}
use Rattle.mkt_base.specs.declared.units.Price.{Price}

-- how far a price is from the reference; one of the two differences is 0
abbrev pub distance : ℕ → ℕ → ℕ
distance reference p = (p - reference) + (reference - p)

-- p is nearer to the reference than q: less far, or as far and lower
abbrev pub is_nearer : ℕ → ℕ → ℕ → Bool
is_nearer reference p q =
    nat_lt (distance reference p) (distance reference q) || (distance reference p == distance reference q && nat_lt p q)

-- a price among prices in order of nearness, at its place
abbrev pub insert_near : ℕ → ℕ → List ℕ → List ℕ
insert_near reference p [] = p ∷ []
insert_near reference p (q ∷ qs) = if is_nearer reference p q then p ∷ q ∷ qs else q ∷ insert_near reference p qs

-- the prices in order of nearness, the nearest first
abbrev pub by_nearness : ℕ → List ℕ → List ℕ
by_nearness reference [] = []
by_nearness reference (p ∷ ps) = insert_near reference p (by_nearness reference ps)

-- the prices of a grid
abbrev pub prices_of : List Price → List ℕ
prices_of grid = map (λ p. p.0) grid

-- A walk outward from the reference over a rising grid: the prices below one position are left, none above the reference,
-- and those from another position on, each above it.
pub record IsWalk (grid : List Price) (reference below above : ℕ) : Type 0 where
  pub rising : IsRising grid
  pub order : below ≤ above
  pub within : above ≤ length grid
  pub low : (i : ℕ) → i < below → price_at grid i ≤ reference
  pub high : (i : ℕ) → above ≤ i → i < length grid → reference < price_at grid i
