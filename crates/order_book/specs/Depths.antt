-- What the levels of a book have left, as the book keeps it. No public clause cites this module.
use Rattle.std.specs.Prelude.{◌≡◌, ℕ, ◌+◌, ◌-◌, ◌<◌, ◌≤◌, Bool, true, false, List, Option, MatchOption, length, slice_index, slice_set}
use Rattle.mkt_base.specs.Book.{total_left}
use Rattle.mkt_base.specs.Priority.{is_on_level}
use Rattle.mkt_base.specs.declared.order.Side.{Side}
use Rattle.mkt_base.specs.declared.order.Side.TheVariants.{Buy, Sell}
use Rattle.mkt_base.specs.declared.order.Spot.{Spot}
use Rattle.mkt_base.specs.declared.order.Spot.TheVariants.{Market, At}
use Rattle.mkt_base.specs.declared.order.Order.{Order}
use Rattle.order_book.specs.Plain.{rank}

-- what is left at each position by limit orders and on the market, and by the limit buys of all positions
pub record DepthView : Type 0 where
  pub buys : List ℕ
  pub sells : List ℕ
  pub market_buys : ℕ
  pub market_sells : ℕ
  pub limit_buys : ℕ

abbrev pub depth_at : Side → Spot → DepthView → ℕ
depth_at Buy Market d = d.market_buys
depth_at Sell Market d = d.market_sells
depth_at Buy (At i) d = slice_index d.buys i
depth_at Sell (At i) d = slice_index d.sells i

abbrev pub is_limit_buy : Side → Spot → Bool
is_limit_buy Buy (At i) = true
is_limit_buy Buy Market = false
is_limit_buy Sell spot = false

abbrev pub more : Side → Spot → ℕ → DepthView → DepthView
more Buy Market qty d = record d { market_buys = d.market_buys + qty }
more Sell Market qty d = record d { market_sells = d.market_sells + qty }
more Buy (At i) qty d = record d { buys = slice_set d.buys i (slice_index d.buys i + qty); limit_buys = d.limit_buys + qty }
more Sell (At i) qty d = record d { sells = slice_set d.sells i (slice_index d.sells i + qty) }

abbrev pub fewer : Side → Spot → ℕ → DepthView → DepthView
fewer Buy Market qty d = record d { market_buys = d.market_buys - qty }
fewer Sell Market qty d = record d { market_sells = d.market_sells - qty }
fewer Buy (At i) qty d = record d { buys = slice_set d.buys i (slice_index d.buys i - qty); limit_buys = d.limit_buys - qty }
fewer Sell (At i) qty d = record d { sells = slice_set d.sells i (slice_index d.sells i - qty) }

-- each level's number is what its orders have left
pub record AreDepthsOf (prices : ℕ) (d : DepthView) (os : List Order) : Type 0 where
  pub buy_count : length d.buys ≡ prices
  pub sell_count : length d.sells ≡ prices
  pub buys : (i : ℕ) → i < prices → slice_index d.buys i ≡ total_left (is_on_level Buy (At i)) os
  pub sells : (i : ℕ) → i < prices → slice_index d.sells i ≡ total_left (is_on_level Sell (At i)) os
  pub market_buys : d.market_buys ≡ total_left (is_on_level Buy Market) os
  pub market_sells : d.market_sells ≡ total_left (is_on_level Sell Market) os
  pub limit_buys : d.limit_buys ≡ total_left (λ o. is_limit_buy o.side o.spot) os

-- the limit orders of a side, by position
abbrev pub limits_of : Side → DepthView → List ℕ
limits_of Buy d = d.buys
limits_of Sell d = d.sells

-- nothing is left at these positions
abbrev pub IsEmptyWithin : List ℕ → ℕ → ℕ → Type 0
IsEmptyWithin xs from below = (k : ℕ) → from ≤ k → k < below → slice_index xs k ≡ 0

-- the last position below, at which something is left
pub record IsLastBelow (xs : List ℕ) (below i : ℕ) : Type 0 where
  pub within : i < below
  pub some : 0 < slice_index xs i
  pub last : IsEmptyWithin xs (i + 1) below

-- the first position from this one on, at which something is left
pub record IsFirstFrom (xs : List ℕ) (from i : ℕ) : Type 0 where
  pub after : from ≤ i
  pub within : i < length xs
  pub some : 0 < slice_index xs i
  pub first : IsEmptyWithin xs from i

-- the highest position at which something is left, if there is one
abbrev pub IsBestBuy : List ℕ → Option ℕ → Type 0
IsBestBuy xs best = MatchOption best (IsEmptyWithin xs 0 (length xs)) (IsLastBelow xs (length xs))

-- the lowest one
abbrev pub IsBestSell : List ℕ → Option ℕ → Type 0
IsBestSell xs best = MatchOption best (IsEmptyWithin xs 0 (length xs)) (IsFirstFrom xs 0)

-- the best positions of both sides
pub record AreBest (buys sells : List ℕ) (best_buy best_sell : Option ℕ) : Type 0 where
  pub buy : IsBestBuy buys best_buy
  pub sell : IsBestSell sells best_sell

-- a test that sees only where an order stands
abbrev pub by_spot : (Side → Spot → Bool) → Order → Bool
by_spot q o = q o.side o.spot

-- no order stands behind the spot, in the priority of the side
abbrev pub IsNoneBehind : ℕ → Side → Spot → DepthView → Type 0
IsNoneBehind n side spot d = (k : ℕ) → k < n → rank n side spot < rank n side (At k) → depth_at side (At k) d ≡ 0

-- the best position behind the spot at which an order stands
pub record IsNextBehind (n : ℕ) (side : Side) (spot : Spot) (d : DepthView) (i : ℕ) : Type 0 where
  pub within : i < n
  pub behind : rank n side spot < rank n side (At i)
  pub some : 0 < depth_at side (At i) d
  pub first : (k : ℕ) → k < n → rank n side spot < rank n side (At k) → rank n side (At k) < rank n side (At i) → depth_at side (At k) d ≡ 0
