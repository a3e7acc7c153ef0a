-- A walk over the prices of a grid, outward from a reference, with the four sums at each.
use Rattle.std.specs.Prelude.{◌≡◌, ℕ, ◌-◌, ◌<◌, List, length}
use Rattle.mkt_base.specs.Book.{price_at, sums_at}
use Rattle.mkt_base.specs.declared.auction.Sums.{Sums}
use Rattle.mkt_base.specs.declared.order.Order.{Order}
use Rattle.mkt_base.specs.declared.units.Price.{Price}
use Rattle.auction_law.specs.Nearness.{IsWalk}
use Rattle.book_law.specs.BookView.{BookView, IsGridOf, orders}

-- the prices of a grid that are left, the nearest first, and the orders whose sums are told
pub record Outward : Type 0 where
  pub grid : List Price
  pub orders : List Order
  pub left : List ℕ

-- the four sums at the price of a position
abbrev pub sums_of : BookView → List Price → ℕ → Sums
sums_of b grid i = sums_at grid (orders b) (price_at grid i)

-- the prices below one position are left and those from another on, and the sums at their inner neighbours are known
pub record IsOutward (b : BookView) (grid : List Price) (reference below above : ℕ) (low high : Sums) : Type 0 where
  pub grid_of : IsGridOf b grid
  pub walk : IsWalk grid reference below above
  pub inside : below < length grid
  pub some : 0 < above
  pub low_sums : low ≡ sums_of b grid below
  pub high_sums : high ≡ sums_of b grid (above - 1)
