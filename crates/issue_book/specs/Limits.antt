-- The best limit of a side, whatever market orders stand before it.
use Rattle.std.specs.Prelude.{◌≡◌, ℕ, ◌==◌, Bool, true, false, List, [], ◌∷◌, ◌++◌, filter, find, Option, None, Some, if◌then◌else◌, slice_get}
use Rattle.std.specs.Option.{option_map, option_map_or}
use Rattle.mkt_base.specs.declared.order.Order.{Order}
use Rattle.mkt_base.specs.declared.order.Side.{Side}
use Rattle.mkt_base.specs.declared.order.Spot.{Spot}
use Rattle.mkt_base.specs.declared.order.Spot.TheVariants.{Market, At}
use Rattle.book_law.specs.BookView.{BookView, NamesFirst, is_at, side_of}
use Rattle.itayose.specs.Answer.{position_of}

abbrev pub is_position : Spot → Bool
is_position Market = false
is_position (At i) = true

-- the order is a limit order
abbrev pub is_limit : Order → Bool
is_limit o = is_position o.spot

-- the position of the first limit order of a list
abbrev pub first_limit : List Order → Option ℕ
first_limit os = position_of (option_map (λ o. o.spot) (slice_get (filter is_limit os) 0))

-- the orders from the one at a place on
abbrev pub from_place : ℕ → List Order → List Order
from_place place [] = []
from_place place (o ∷ os) = if place == o.place then o ∷ os else from_place place os

-- the orders of a side in its priority from the one on that a handle names
abbrev pub from_handle : BookView → Side → Option ℕ → List Order
from_handle b side None = []
from_handle b side (Some handle) = option_map_or (λ s. from_place s.order.place (side_of b side)) (find (is_at handle) b.slots) []

-- a walk along a side has come to the order that a handle names, and no limit order stands before it
pub record IsAlong (b : BookView) (side : Side) (next : Option ℕ) : Type 0 where
  pub before : List Order
  pub split : side_of b side ≡ before ++ from_handle b side next
  pub names : NamesFirst b (from_handle b side next) next
  pub same : first_limit (side_of b side) ≡ first_limit (from_handle b side next)
