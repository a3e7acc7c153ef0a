-- The orders of each level as one, and the slots that name them.
use Rattle.std.specs.Prelude.{◌≡◌, ℕ, ◌+◌, ◌*◌, ◌<◌, ◌≤◌, ◌^◌, true, List, length, Option, Some, slice_index_or, All, AllPairs}
use Rattle.mkt_base.specs.Book.{total_left}
use Rattle.mkt_base.specs.declared.order.Side.{Side}
use Rattle.mkt_base.specs.declared.order.Side.TheVariants.{Buy, Sell}
use Rattle.mkt_base.specs.declared.order.Spot.{Spot}
use Rattle.mkt_base.specs.declared.order.Spot.TheVariants.{Market, At}
use Rattle.mkt_base.specs.declared.order.Order.{Order}
use Rattle.auction_law.specs.Levels.{SameLevels}

-- a market order, or a position below the count
abbrev pub IsWithin : ℕ → Spot → Type 0
IsWithin count Market = Unit {0}
IsWithin count (At position) = position < count

-- the number of a side
abbrev pub side_number : Side → ℕ
side_number Buy = 0
side_number Sell = 1

-- the number of a spot: the market, then the prices
abbrev pub spot_number : Spot → ℕ
spot_number Market = 0
spot_number (At position) = position + 1

-- the number of a level, which is a side at a spot
abbrev pub level_of : Side → Spot → ℕ
level_of side spot = 2 * spot_number spot + side_number side

-- how many prices the grid has, and orders over it
pub record LevelList : Type 0 where
  pub count : ℕ
  pub orders : List Order

-- an order at this index, of this level
pub record StandsAt (orders : List Order) (i level : ℕ) : Type 0 where
  pub inside : i < length orders
  pub of_level : (d : Order) → level_of (slice_index_or orders i d).side (slice_index_or orders i d).spot ≡ level

-- There is a slot for each level. What it names is an order of the level, and every order is named by its level's slot.
pub record IsSlotted (count : ℕ) (orders : List Order) (slots : List (Option ℕ)) : Type 0 where
  pub room : length slots ≡ 2 * (count + 1)
  pub named : (level i : ℕ) (d : Option ℕ) → level < length slots → slice_index_or slots level d ≡ Some i → StandsAt orders i level
  pub listed : (i : ℕ) (x : Order) (d : Option ℕ) → i < length orders
      → slice_index_or slots (level_of (slice_index_or orders i x).side (slice_index_or orders i x).spot) d ≡ Some i

-- no two orders are of one side and at one spot
abbrev pub OneALevel : List Order → Type 0
OneALevel orders = AllPairs (λ a b. a.side ≡ b.side → a.spot ≡ b.spot → ⊥) orders

-- an order of the grid has something left, and what all have left fits 64 bits
pub record HasRoom (levels : LevelList) (order : Order) : Type 0 where
  pub within : IsWithin levels.count order.spot
  pub left : 0 < order.left
  pub few : length levels.orders < 2 ^ 32
  pub fits : total_left (λ o. true) levels.orders + order.left < 2 ^ 64

-- the first orders have the levels of the others, something left each, and are no more than they
pub record StandsFor (merged all : List Order) : Type 0 where
  pub levels : SameLevels merged all
  pub left : All (λ o. 0 < o.left) merged
  pub few : length merged ≤ length all
