-- The limit orders of a side up to a position.
use Rattle.std.specs.Prelude.{ℕ, ◌<◌, ◌≤◌, ◌&&◌, Bool, false, nat_le}
use Rattle.mkt_base.specs.Book.{total_left}
use Rattle.mkt_base.specs.Priority.{is_same_side}
use Rattle.mkt_base.specs.declared.order.Side.{Side}
use Rattle.mkt_base.specs.declared.order.Spot.{Spot}
use Rattle.mkt_base.specs.declared.order.Spot.TheVariants.{Market, At}
use Rattle.mkt_base.specs.declared.order.Order.{Order}
use Rattle.book_law.specs.BookView.{BookView, orders}

-- a limit at one of the positions 0 to i
abbrev pub is_limit_within : ℕ → Spot → Bool
is_limit_within i Market = false
is_limit_within i (At j) = nat_le j i

-- a limit order of the side at one of the positions 0 to i
abbrev pub is_limit_to : Side → ℕ → Order → Bool
is_limit_to side i o = is_same_side side o.side && is_limit_within i o.spot

-- what the limit orders of the side up to i have left reaches this, and up to no earlier position
pub record IsFirstLimitReached (b : BookView) (side : Side) (least i : ℕ) : Type 0 where
  pub within : i < b.prices
  pub reached : least ≤ total_left (is_limit_to side i) (orders b)
  pub first : (k : ℕ) → k < i → total_left (is_limit_to side k) (orders b) < least

-- it is reached at no position
abbrev pub IsNoLimitReached : BookView → Side → ℕ → Type 0
IsNoLimitReached b side least = (k : ℕ) → k < b.prices → total_left (is_limit_to side k) (orders b) < least
