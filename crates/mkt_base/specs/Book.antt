-- A book is a list of orders by place. The price of a position, the priority of a side, and the four sums at a price.
use Rattle.std.specs.Prelude.{ℕ, Bool, true, false, not, ◌&&◌, ◌||◌, ◌<◌, ◌^◌, List, length, Option, Some, None, if◌then◌else◌, IsTrue, nat_lt, nat_le, slice_index_or, All, AllPairs, sum_by}
use Rattle.std.specs.Option.{option_map_or}
use Rattle.mkt_base.specs.declared.units.Price.{Price}
use Rattle.mkt_base.specs.declared.order.Side.{Side}
use Rattle.mkt_base.specs.declared.order.Side.TheVariants.{Buy, Sell}
use Rattle.mkt_base.specs.declared.order.Spot.{Spot}
use Rattle.mkt_base.specs.declared.order.Spot.TheVariants.{Market, At}
use Rattle.mkt_base.specs.declared.order.Order.{Order}
use Rattle.mkt_base.specs.declared.auction.Sums.{Sums}

-- the places rise, and each order has something left
pub record IsBook (orders : List Order) : Type 0 where
  pub by_place : AllPairs (λ a b. a.place < b.place) orders
  pub left : All (λ o. 0 < o.left) orders

-- the price at a position of the grid
abbrev pub price_at : List Price → ℕ → ℕ
price_at grid i = (slice_index_or grid i (record { 0 = 0 })).0

-- the prices of the grid rise
abbrev pub IsRising : List Price → Type 0
IsRising grid = (i j : ℕ) → i < j → j < length grid → price_at grid i < price_at grid j

-- a limit stands at a position of the grid
abbrev pub IsOnGrid : List Price → Spot → Type 0
IsOnGrid grid Market = Unit {0}
IsOnGrid grid (At i) = i < length grid

-- the limit price of a spot; a market order has none
abbrev pub limit_of : List Price → Spot → Option ℕ
limit_of grid Market = None
limit_of grid (At i) = Some (price_at grid i)

abbrev pub is_buy : Side → Bool
is_buy Buy = true
is_buy Sell = false

-- a market order, or one whose limit passes
abbrev pub is_market_or : (ℕ → Bool) → Option ℕ → Bool
is_market_or passes limit = option_map_or passes limit true

-- a market buy, or a limit buy at or above the price
abbrev pub is_buy_at : List Price → ℕ → Order → Bool
is_buy_at grid p o = is_buy o.side && is_market_or (λ limit. nat_le p limit) (limit_of grid o.spot)

-- a market buy, or a limit buy above the price
abbrev pub is_buy_above : List Price → ℕ → Order → Bool
is_buy_above grid p o = is_buy o.side && is_market_or (λ limit. nat_lt p limit) (limit_of grid o.spot)

-- a market sell, or a limit sell at or below the price
abbrev pub is_sell_at : List Price → ℕ → Order → Bool
is_sell_at grid p o = not (is_buy o.side) && is_market_or (λ limit. nat_le limit p) (limit_of grid o.spot)

-- a market sell, or a limit sell below the price
abbrev pub is_sell_below : List Price → ℕ → Order → Bool
is_sell_below grid p o = not (is_buy o.side) && is_market_or (λ limit. nat_lt limit p) (limit_of grid o.spot)

-- what the orders that pass have left, added up over the whole list
unfoldable pub total_left : (Order → Bool) → List Order → ℕ
total_left passes orders = sum_by (λ o. if passes o then o.left else 0) orders

-- the four sums of the orders at a price
abbrev pub buys : List Price → List Order → ℕ → ℕ
buys grid orders p = total_left (is_buy_at grid p) orders

abbrev pub above : List Price → List Order → ℕ → ℕ
above grid orders p = total_left (is_buy_above grid p) orders

abbrev pub sells : List Price → List Order → ℕ → ℕ
sells grid orders p = total_left (is_sell_at grid p) orders

abbrev pub below : List Price → List Order → ℕ → ℕ
below grid orders p = total_left (is_sell_below grid p) orders

-- the price with its four sums
abbrev pub sums_at : List Price → List Order → ℕ → Sums
sums_at grid orders p = record { price = record { 0 = p }; buys = buys grid orders p; above = above grid orders p; sells = sells grid orders p; below = below grid orders p }

-- what all orders of a side have left fits 64 bits, and so does each sum
pub record FitsSums (orders : List Order) : Type 0 where
  pub bought : total_left (λ o. is_buy o.side) orders < 2 ^ 64
  pub sold : total_left (λ o. not (is_buy o.side)) orders < 2 ^ 64

-- the first spot is better for the side: a market order before every limit, the highest buy and the lowest sell first
abbrev pub is_better : List Price → Side → Spot → Spot → Bool
is_better grid side Market Market = false
is_better grid side Market (At j) = true
is_better grid side (At i) Market = false
is_better grid Buy (At i) (At j) = nat_lt (price_at grid j) (price_at grid i)
is_better grid Sell (At i) (At j) = nat_lt (price_at grid i) (price_at grid j)

-- of two orders of the side the first has priority: at a better spot, or at no worse one and earlier
abbrev pub has_priority : List Price → Side → Order → Order → Bool
has_priority grid side a b = is_better grid side a.spot b.spot || (not (is_better grid side b.spot a.spot) && nat_lt a.place b.place)

-- the orders of the side stand in its priority order
abbrev pub IsInPriority : List Price → Side → List Order → Type 0
IsInPriority grid side orders = AllPairs (λ a b. IsTrue (has_priority grid side a b)) orders
