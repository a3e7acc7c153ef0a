-- What contracts say of a list of quantities, one for each position.
use Rattle.std.specs.Prelude.{ℕ, ◌+◌, ◌^◌, ◌<◌, ◌≤◌, List, length, sum, take}

-- an index holds 1 to 20,000 quantities whose sum fits 64 bits
pub record AreDepths (quantities : List ℕ) : Type 0 where
  pub some : 1 ≤ length quantities
  pub few : length quantities ≤ 20000
  pub fits : sum quantities < 2 ^ 64

-- the sum of the quantities at the positions 0 to i
abbrev pub sum_upto : List ℕ → ℕ → ℕ
sum_upto quantities i = sum (take (i + 1) quantities)

-- the sum up to i is at least this, and up to each earlier position it is less
pub record IsFirstReaching (quantities : List ℕ) (least i : ℕ) : Type 0 where
  pub within : i < length quantities
  pub reached : least ≤ sum_upto quantities i
  pub first : (k : ℕ) → k < i → sum_upto quantities k < least

-- the sum up to each position is less than this
abbrev pub IsNowhereReached : List ℕ → ℕ → Type 0
IsNowhereReached quantities least = (k : ℕ) → k < length quantities → sum_upto quantities k < least

-- at least one step was taken, and at most one more than the size has binary digits: than any number of digits that is
-- enough to write it
pub record TakesFewSteps (size before after : ℕ) : Type 0 where
  pub some : before < after
  pub few : (digits : ℕ) → size < 2 ^ digits → after ≤ before + digits + 1
