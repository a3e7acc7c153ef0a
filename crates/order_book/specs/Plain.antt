-- The plain body: the orders in a list by place, each under its place as its handle, and how it ranks and adds them up.
use Rattle.std.specs.Prelude.{◌≡◌, ℕ, ◌+◌, ◌-◌, ◌≤◌, ◌==◌, ◌&&◌, ◌||◌, Bool, true, false, not, List, map, Option, Some, MatchOption, nat_lt, nat_le, All, Contains}
use Rattle.std.specs.Option.{option_map_or}
use Rattle.mkt_base.specs.Book.{is_buy}
use Rattle.mkt_base.specs.Priority.{is_on_level, is_same_side}
use Rattle.mkt_base.specs.declared.order.Side.{Side}
use Rattle.mkt_base.specs.declared.order.Side.TheVariants.{Buy, Sell}
use Rattle.mkt_base.specs.declared.order.Spot.{Spot}
use Rattle.mkt_base.specs.declared.order.Spot.TheVariants.{Market, At}
use Rattle.mkt_base.specs.declared.order.Order.{Order}
use Rattle.book_law.specs.BookView.{BookView, IsBookView, Names, Slot, orders, slot_of}
use Rattle.order_book.specs.declared.total.Part.{Part}
use Rattle.order_book.specs.declared.total.Part.TheVariants.{BuysFrom, BuysAbove, SellsTo, SellsBelow, Level}

-- the orders as slots, each under its place
abbrev pub by_place : List Order → List Slot
by_place orders = map (λ o. slot_of o.place o) orders

-- the book that the fields stand for
abbrev pub plain : ℕ → ℕ → List Order → BookView
plain prices capacity orders = record { prices = prices; capacity = capacity; slots = by_place orders }

-- what holds of the fields: the book stands, and the vector has the room that the book was made with
pub record IsPlain (prices capacity holds : ℕ) (orders : List Order) : Type 0 where
  pub book : IsBookView (plain prices capacity orders)
  pub room : capacity ≤ holds

-- a spot's rank on a side of a grid of n prices: the market, then the highest buy or the lowest sell
abbrev pub rank : ℕ → Side → Spot → ℕ
rank n side Market = 0
rank n Buy (At i) = n - i
rank n Sell (At i) = i + 1

-- the first order comes before the second on the side: at a better spot, or at the same and earlier
abbrev pub is_ahead : ℕ → Side → Order → Order → Bool
is_ahead n side a b = nat_lt (rank n side a.spot) (rank n side b.spot) || (rank n side a.spot == rank n side b.spot && nat_lt a.place b.place)

-- an order of the side; behind this one, if one is given
abbrev pub is_wanted : ℕ → Side → Option Order → Order → Bool
is_wanted n side after o = is_same_side side o.side && option_map_or (λ a. is_ahead n side a o) after true

-- of the orders that are wanted none comes before the one found; where none is found none is wanted
abbrev pub IsFirst : ℕ → Side → Option Order → List Order → Option Order → Type 0
IsFirst n side after orders found = MatchOption found (All (λ o. is_wanted n side after o ≡ false) orders)
    (λ f. Contains orders f × (is_wanted n side after f ≡ true) × All (λ o. is_wanted n side after o ≡ true → is_ahead n side o f ≡ false) orders)

-- a market order, or one whose position passes
abbrev pub is_market_or_at : (ℕ → Bool) → Spot → Bool
is_market_or_at passes Market = true
is_market_or_at passes (At i) = passes i

-- the order counts in this part of the book
abbrev pub is_part : Part → Order → Bool
is_part (BuysFrom i) o = is_buy o.side && is_market_or_at (λ j. nat_le i j) o.spot
is_part (BuysAbove i) o = is_buy o.side && is_market_or_at (λ j. nat_lt i j) o.spot
is_part (SellsTo i) o = not (is_buy o.side) && is_market_or_at (λ j. nat_le j i) o.spot
is_part (SellsBelow i) o = not (is_buy o.side) && is_market_or_at (λ j. nat_lt j i) o.spot
is_part (Level side spot) o = is_on_level side spot o

-- of the orders that pass none comes before the one found; where none is found none passes
abbrev pub IsFirstBy : ℕ → Side → (Order → Bool) → List Order → Option Order → Type 0
IsFirstBy n side t orders found = MatchOption found (All (λ o. t o ≡ false) orders)
    (λ f. Contains orders f × (t f ≡ true) × All (λ o. t o ≡ true → is_ahead n side o f ≡ false) orders)

-- the order stands on the side behind this spot
abbrev pub is_behind : ℕ → Side → Spot → Order → Bool
is_behind n side spot o = is_same_side side o.side && nat_lt (rank n side spot) (rank n side o.spot)

-- a handle that names the first of the orders of a side that pass, or none where none passes
abbrev pub FindsFirst : BookView → Side → (Order → Bool) → Option ℕ → Type 0
FindsFirst b side t found = MatchOption found (All (λ o. t o ≡ false) (orders b)) (λ handle. (o : Order) × Names b handle o × IsFirstBy b.prices side t (orders b) (Some o))
