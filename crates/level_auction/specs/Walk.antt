-- A walk over the prices of a grid, outward from a reference, with the four sums at each.
use Rattle.std.specs.Prelude.{◌≡◌, ℕ, ◌-◌, ◌<◌, ◌≤◌, List, All, length}
use Rattle.mkt_base.specs.Book.{FitsSums, IsOnGrid, IsRising, price_at, sums_at}
use Rattle.mkt_base.specs.declared.auction.Sums.{Sums}
use Rattle.mkt_base.specs.declared.order.Order.{Order}
use Rattle.mkt_base.specs.declared.units.Price.{Price}
use Rattle.auction_law.specs.Nearness.{IsWalk}

-- a rising grid of at most 20,000 prices, and orders on it whose sums fit
pub record CanWalk (grid : List Price) (orders : List Order) : Type 0 where
  pub rising : IsRising grid
  pub few : length grid ≤ 20000
  pub on_grid : All (λ o. IsOnGrid grid o.spot) orders
  pub fits : FitsSums orders

-- the prices below one position are left and those from another on, and the sums at their inner neighbours are known
pub record IsLevelWalk (orders : List Order) (grid : List Price) (reference below above : ℕ) (low high : Sums) : Type 0 where
  pub can : CanWalk grid orders
  pub walk : IsWalk grid reference below above
  pub inside : below < length grid
  pub some : 0 < above
  pub low_sums : low ≡ sums_at grid orders (price_at grid below)
  pub high_sums : high ≡ sums_at grid orders (price_at grid (above - 1))
