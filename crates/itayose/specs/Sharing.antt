-- The orders that share in an allotment, as they are gone through by place, and what orders fill against the other side.
use Rattle.std.specs.Prelude.{◌≡◌, ◌≢◌, ℕ, ◌+◌, ◌-◌, ◌%◌, ◌<◌, ◌≤◌, ◌==◌, ◌&&◌, ◌||◌, Bool, true, false, List, [], ◌∷◌, ◌++◌, All, AllPairs, count_by, filter, length, map, Option, if◌then◌else◌, nat_lt, slice_set, slice_index_or, sum_by, min}
use Rattle.std.specs.List.{AllByRecursion, range_with_len}
use Rattle.mkt_base.specs.Fills.{Fill, after_trades, quantity, whole}
use Rattle.mkt_base.specs.Priority.{is_on_level, is_same_side, level_of}
use Rattle.mkt_base.specs.declared.auction.Sums.{Sums}
use Rattle.mkt_base.specs.declared.auction.Trade.{Trade}
use Rattle.mkt_base.specs.declared.order.Order.{Order}
use Rattle.mkt_base.specs.declared.order.Side.{Side}
use Rattle.mkt_base.specs.declared.order.Side.TheVariants.{Buy, Sell}
use Rattle.mkt_base.specs.declared.order.Spot.{Spot}
use Rattle.mkt_base.specs.declared.order.Spot.TheVariants.{Market, At}
use Rattle.mkt_base.specs.declared.output.Output.{Output}
use Rattle.allotment.specs.Allotment.{asked_in_all}
use Rattle.allotment.specs.declared.demand.Demand.{Demand}
use Rattle.book_law.specs.BookView.{BookView, Names, NamesFirst, orders, side_of}
use Rattle.book_law.specs.Paired.{trade_of}
use Rattle.book_law.specs.Sides.{total}
use Rattle.itayose.specs.Fills.{opposite, pair_side, trade_outputs}
use Rattle.itayose.specs.declared.sharing.Sharers.{Sharers}

-- a spot that is better for the side than a position
abbrev pub is_beyond : Side → ℕ → Spot → Bool
is_beyond side at Market = true
is_beyond Buy at (At i) = nat_lt at i
is_beyond Sell at (At i) = nat_lt i at

-- an order of the side at such a spot
abbrev pub is_ahead : Side → ℕ → Order → Bool
is_ahead side at o = is_same_side side o.side && is_beyond side at o.spot

-- of the four sums at a price: what a side has at it or better, what it has better, and what the other side has at it or better
abbrev pub wide_sum : Side → Sums → ℕ
wide_sum Buy s = s.buys
wide_sum Sell s = s.sells

abbrev pub ahead_sum : Side → Sums → ℕ
ahead_sum Buy s = s.above
ahead_sum Sell s = s.below

abbrev pub facing_sum : Side → Sums → ℕ
facing_sum Buy s = s.sells
facing_sum Sell s = s.buys

-- the order stands on the side's level at a position, or on that of the market where market orders share too
abbrev pub is_sharing : Side → ℕ → Bool → Order → Bool
is_sharing side at true o = is_on_level side (At at) o || is_on_level side Market o
is_sharing side at false o = is_on_level side (At at) o

-- the orders of a book that share, by place
abbrev pub sharing_of : BookView → Side → ℕ → Bool → List Order
sharing_of b side at markets = filter (is_sharing side at markets) (orders b)

-- the orders behind those at the front that have so many shares
unfoldable pub passed : ℕ → List Order → List Order
passed v [] = []
passed v (o ∷ os) = if v == 0 then o ∷ os else passed (v - o.left) os

-- the orders in front of these
unfoldable pub in_front : ℕ → List Order → List Order
in_front v [] = []
in_front v (o ∷ os) = if v == 0 then [] else o ∷ in_front (v - o.left) os

-- A handle that names the first of the orders that are left on a level, or none; they are the last ones of their level.
pub record IsCursor (b : BookView) (side : Side) (spot : Spot) (rest : List Order) (found : Option ℕ) : Type 0 where
  pub first : NamesFirst b (filter (is_on_level side spot) rest) found
  pub last : (o : Order) (os : List Order) → filter (is_on_level side spot) rest ≡ o ∷ os → (before : List Order) × (level_of side spot (orders b) ≡ before ++ o ∷ os)

-- the places rise
abbrev pub AreByPlace : List Order → Type 0
AreByPlace [] = Unit {0}
AreByPlace (o ∷ os) = AllByRecursion (λ x. o.place < x.place) os × AreByPlace os

-- Those of some orders on two levels that are left, by place, with a handle to the first of either level.
pub record AreLeft (b : BookView) (side : Side) (at : ℕ) (rest : List Order) (sharers : Sharers) : Type 0 where
  pub inside : at < b.prices
  pub market : IsCursor b side Market rest sharers.market
  pub limit : IsCursor b side (At at) rest sharers.limit
  pub left : sharers.left ≡ total rest
  pub some : AllByRecursion (λ o. 0 < o.left) rest
  pub places : AreByPlace rest
  pub each : AllByRecursion (λ o. is_sharing side at true o ≡ true) rest

abbrev pub with_left : ℕ → Sharers → Sharers
with_left left sharers = record sharers { left = left }

-- a demand with an order more behind its others
abbrev pub with_order : Demand → Order → Demand
with_order d o = record d { first = if d.asked == 0 then o.place else d.first; asked = d.asked + o.left }

-- the share of a participant
abbrev pub share_of : List Demand → ℕ → ℕ
share_of demands participant = sum_by (λ d. if participant == d.participant.0 then d.share else 0) demands

-- the shares of all participants, who are numbered below 64
unfoldable pub shares_by_number : List Demand → List ℕ
shares_by_number demands = map (share_of demands) (range_with_len 0 64)

-- Demands that can share so many shares in units: no participant asks twice, no two stand at one place, and all together
-- ask for as many.
pub record CanShare (unit given : ℕ) (demands : List Demand) : Type 0 where
  pub few : length demands ≤ 64
  pub places : AllPairs (λ a b. a.first ≢ b.first) demands
  pub asked : All (λ d. (0 < d.asked) × (d.asked % unit ≡ 0)) demands
  pub unshared : All (λ d. d.share ≡ 0) demands
  pub in_units : given % unit ≡ 0
  pub within : given ≤ asked_in_all demands
  pub participants : All (λ d. d.participant.0 < 64) demands
  pub once : (participant : ℕ) → count_by (λ d. participant == d.participant.0) demands ≤ 1

-- what each order in turn fills of what its participant has
unfoldable pub own_shares : List ℕ → List Order → List Fill
own_shares shares [] = []
own_shares shares (o ∷ os) =
    let has : ℕ = slice_index_or shares o.participant.0 0 in
    record { place = o.place; qty = min o.left has } ∷ own_shares (slice_set shares o.participant.0 (has - min o.left has)) os

abbrev pub fill_of : ℕ → ℕ → Fill
fill_of place qty = record { place = place; qty = qty }

-- a trade between the order of a side at one place and one of the other side at another
abbrev pub trade_side : ℕ → ℕ → Side → ℕ → ℕ → Trade
trade_side p qty Buy place facing = trade_of p qty place facing
trade_side p qty Sell place facing = trade_of p qty facing place

-- the handles of the other orders of an order's side name what they named
abbrev pub KeepsOthers : Order → BookView → BookView → Type 0
KeepsOthers x old new = (handle : ℕ) (o : Order) → Names old handle o → is_same_side x.side o.side ≡ true → (x.place == o.place) ≡ false → Names new handle o

-- Of fills of a side some are left to be done, and the others were traded at a price with the front of the other side.
pub record AreFilled {W : Type 0} (took : W → List Output → W → Type 0) (price : ℕ) (side : Side) (fills left : List Fill) (old new : BookView) (from to : W) : Type 0 where
  pub done : List Trade
  pub trades : (more : List Fill) → pair_side price side (fills ++ more) (whole (side_of old (opposite side))) ≡ done ++ pair_side price side (left ++ more) (whole (side_of new (opposite side)))
  pub book : orders new ≡ after_trades done (orders old)
  pub faced : quantity fills + total (side_of new (opposite side)) ≡ quantity left + total (side_of old (opposite side))
  pub prices : new.prices ≡ old.prices
  pub capacity : new.capacity ≡ old.capacity
  pub told : (start : W) (outputs : List Output) → took start outputs from → took start (outputs ++ trade_outputs done) to
