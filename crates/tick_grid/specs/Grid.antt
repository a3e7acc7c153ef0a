-- Grids: rising lists of prices, positions on them, and the faults of building one.
use Rattle.std.specs.Prelude.{◌≡◌, ℕ, ◌-◌, ◌==◌, ◌<◌, ◌≤◌, List, [], length, Option, Some, None, if◌then◌else◌, nat_lt, nat_le, All, position}
use Rattle.std.specs.List.{prefix_len}
use Rattle.mkt_base.specs.Book.{IsRising, price_at}
use Rattle.mkt_base.specs.declared.units.Price.{Price}
use Rattle.tick_grid.specs.declared.grid.GridFault.{GridFault}
use Rattle.tick_grid.specs.declared.grid.GridFault.TheVariants.{GridTooLarge, NoPrice, Memory}

-- the prices of a grid rise, and are 1 to 20,000 prices of 1 to 1,000,000,000
pub record IsGrid (prices : List Price) : Type 0 where
  pub rising : IsRising prices
  pub some : 1 ≤ length prices
  pub few : length prices ≤ 20000
  pub within : All (λ p. (1 ≤ p.0) × (p.0 ≤ 1000000000)) prices

-- the fault is that of a grid of these prices: too many, none, or no memory for a number of them that is allowed
abbrev pub IsFaultOf : List Price → GridFault → Type 0
IsFaultOf prices (GridTooLarge n) = (n ≡ length prices) × (20000 < n)
IsFaultOf prices NoPrice = prices ≡ []
IsFaultOf prices Memory = (1 ≤ length prices) × (length prices ≤ 20000)

-- the position of the greatest price not above p: how many are not above it, less one
unfoldable pub floor_of : List Price → ℕ → Option ℕ
floor_of prices p = let n = prefix_len (λ q. nat_le q.0 p) prices in if n == 0 then None else Some (n - 1)

-- the position of the least price not below p: how many are below it
unfoldable pub ceil_of : List Price → ℕ → Option ℕ
ceil_of prices p = let n = prefix_len (λ q. nat_lt q.0 p) prices in if nat_lt n (length prices) then Some n else None

-- the position i holds the greatest price not above p
pub record IsGreatestUpto (prices : List Price) (p i : ℕ) : Type 0 where
  pub inside : i < length prices
  pub upto : price_at prices i ≤ p
  pub beyond : (k : ℕ) → i < k → k < length prices → p < price_at prices k

-- the position i holds the least price not below p
pub record IsLeastFrom (prices : List Price) (p i : ℕ) : Type 0 where
  pub inside : i < length prices
  pub from : p ≤ price_at prices i
  pub before : (k : ℕ) → k < i → price_at prices k < p

-- the position of the price p
unfoldable pub index_of : List Price → ℕ → Option ℕ
index_of prices p = position (λ q. q.0 == p) prices

-- the least price of a rising list
abbrev pub first_price : List Price → ℕ
first_price prices = price_at prices 0

-- the greatest price of a rising list
abbrev pub last_price : List Price → ℕ
last_price prices = price_at prices (length prices - 1)
