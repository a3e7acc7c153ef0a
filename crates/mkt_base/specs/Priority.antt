-- The orders of a side of a book in their priority: level by level, the best first.
use Rattle.std.specs.Prelude.{ℕ, zero, suc, Bool, true, false, not, ◌&&◌, ◌==◌, List, [], ◌∷◌, filter, map, flat_map}
use Rattle.std.specs.List.{range_with_len}
use Rattle.mkt_base.specs.Book.{is_buy}
use Rattle.mkt_base.specs.declared.order.Side.{Side}
use Rattle.mkt_base.specs.declared.order.Side.TheVariants.{Buy, Sell}
use Rattle.mkt_base.specs.declared.order.Spot.{Spot}
use Rattle.mkt_base.specs.declared.order.Spot.TheVariants.{Market, At}
use Rattle.mkt_base.specs.declared.order.Order.{Order}

abbrev pub is_same_side : Side → Side → Bool
is_same_side Buy side = is_buy side
is_same_side Sell side = not (is_buy side)

abbrev pub is_same_spot : Spot → Spot → Bool
is_same_spot Market Market = true
is_same_spot Market (At j) = false
is_same_spot (At i) Market = false
is_same_spot (At i) (At j) = i == j

-- the order stands on the side's level at this spot
abbrev pub is_on_level : Side → Spot → Order → Bool
is_on_level side spot o = is_same_side side o.side && is_same_spot spot o.spot

-- a level of a book, by place as the book is
abbrev pub level_of : Side → Spot → List Order → List Order
level_of side spot orders = filter (is_on_level side spot) orders

-- the positions below n, the highest first
abbrev pub falling : ℕ → List ℕ
falling zero = []
falling (suc n) = n ∷ falling n

-- where the orders of a side may stand on a grid of n prices, the best first: the market, then the highest buy, the lowest sell
abbrev pub spots : ℕ → Side → List Spot
spots n Buy = Market ∷ map (λ i. At i) (falling n)
spots n Sell = Market ∷ map (λ i. At i) (range_with_len 0 n)

-- the orders of a side of a book in their priority, on a grid of n prices
unfoldable pub in_priority : ℕ → Side → List Order → List Order
in_priority n side orders = flat_map (λ spot. level_of side spot orders) (spots n side)
