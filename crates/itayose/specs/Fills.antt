-- Who fills in an auction at a price, who trades with whom, and the shares of an allotment.
use Rattle.std.specs.Prelude.{ℕ, ◌-◌, ◌&&◌, ◌==◌, not, Bool, true, List, [], ◌++◌, length, map, filter, nat_lt}
use Rattle.std.specs.List.{find, flat_map, range_with_len}
use Rattle.std.specs.Option.{option_map_or}
use Rattle.mkt_base.specs.Book.{buys, is_buy_above, is_buy_at, is_sell_at, is_sell_below, price_at, sells}
use Rattle.mkt_base.specs.Fills.{Fill, filled, filled_at, from_front, pair, quantity, whole}
use Rattle.mkt_base.specs.Priority.{in_priority}
use Rattle.mkt_base.specs.declared.auction.Trade.{Trade}
use Rattle.mkt_base.specs.declared.order.Order.{Order}
use Rattle.mkt_base.specs.declared.order.Side.{Side}
use Rattle.mkt_base.specs.declared.order.Side.TheVariants.{Buy, Sell}
use Rattle.mkt_base.specs.declared.output.Output.{Output}
use Rattle.mkt_base.specs.declared.output.Output.TheVariants as outputs
use Rattle.mkt_base.specs.declared.units.Price.{Price}
use Rattle.allotment.specs.Allotment.{allot}
use Rattle.allotment.specs.declared.demand.Demand.{Demand}
use Rattle.allotment.specs.declared.round.Round.{Round}
use Rattle.auction_law.specs.Attempt.{volume_at}
use Rattle.book_law.specs.Sides.{total}
use Rattle.itayose.specs.declared.margin.Margin.{Margin}
use Rattle.itayose.specs.declared.margin.Margin.TheVariants.{Rounds}

-- an order of the side that is better than the price: a market order, or a limit beyond it
abbrev pub is_better_than : List Price → ℕ → Side → Order → Bool
is_better_than grid p Buy o = is_buy_above grid p o
is_better_than grid p Sell o = is_sell_below grid p o

-- an order of the side that is at the price or better
abbrev pub is_at_or_better : List Price → ℕ → Side → Order → Bool
is_at_or_better grid p Buy o = is_buy_at grid p o
is_at_or_better grid p Sell o = is_sell_at grid p o

-- a limit order of the side at just this price
abbrev pub is_at_price : List Price → ℕ → Side → Order → Bool
is_at_price grid p side o = is_at_or_better grid p side o && not (is_better_than grid p side o)

-- ---- shares among participants

abbrev pub is_by : ℕ → Order → Bool
is_by participant o = participant == o.participant.0

-- a participant's demand: all that its orders have left, and the place of the first of them
abbrev pub demand_of : List Order → ℕ → Demand
demand_of os participant =
    record {
      participant = record { 0 = participant };
      first = option_map_or (λ o. o.place) (find (is_by participant) os) 0;
      asked = total (filter (is_by participant) os);
      share = 0;
    }

-- the demands of all participants, who are numbered below 64
unfoldable pub demands_by_number : List Order → List Demand
demands_by_number os = map (demand_of os) (range_with_len 0 64)

-- those of the participants that have orders
abbrev pub demands_of : List Order → List Demand
demands_of os = filter (λ d. nat_lt 0 d.asked) (demands_by_number os)

-- inside a participant its orders fill by place
abbrev pub own_fills : List Order → Demand → List Fill
own_fills os d = from_front d.share (whole (filter (is_by d.participant.0) os))

-- what each order fills of its participant's share, in the order of the orders
abbrev pub fill_in : List Fill → Order → Fill
fill_in fills o = record { place = o.place; qty = filled_at o.place fills }

abbrev pub shared_fills : List Order → List Demand → List Fill
shared_fills os shares = map (fill_in (flat_map (own_fills os) shares)) os

-- ---- the fills of an auction

-- what orders at a price fill, and the shares of their participants, where they are by rounds
pub record Filling : Type 0 where
  pub shares : List Demand
  pub fills : List Fill

-- so many shares are filled by place, or by rounds among the participants
abbrev pub by_time : ℕ → List Order → Filling
by_time n os = record { shares = []; fills = from_front n (whole os) }

abbrev pub by_rounds : List Round → ℕ → ℕ → List Order → Filling
by_rounds rounds unit n os =
    let shares : List Demand = allot rounds unit (demands_of os) n in
    record { shares = shares; fills = shared_fills os shares }

-- the side has the greater sum at the price
abbrev pub is_longer : List Price → List Order → ℕ → Side → Bool
is_longer grid os p Buy = nat_lt (sells grid os p) (buys grid os p)
is_longer grid os p Sell = nat_lt (buys grid os p) (sells grid os p)

-- the margin counts on the side with the greater sum alone
abbrev pub sharing : Margin → Bool → List Round → ℕ → ℕ → List Order → Filling
sharing Rounds true rounds unit n os = by_rounds rounds unit n os
sharing margin longer rounds unit n os = by_time n os

-- What the orders of a side fill at a price: those that are better wholly, and those at it share what the volume leaves
-- them. So the side with the lesser sum fills whole.
abbrev pub side_filling : List Price → List Order → ℕ → Margin → List Round → ℕ → Side → Filling
side_filling grid os p margin rounds unit side =
    let ranked : List Order = in_priority (length grid) side os in
    let better : List Order = filter (is_better_than grid p side) ranked in
    let at : List Order = filter (is_at_price grid p side) ranked in
    let shared : Filling = sharing margin (is_longer grid os p side) rounds unit (volume_at grid os p - quantity (whole better)) at in
    record { shares = shared.shares; fills = filled (whole better ++ shared.fills) }

-- shares that were given out, and trades
pub record Settlement : Type 0 where
  pub shares : List Demand
  pub trades : List Trade

-- an auction at a price: what buys and sells fill, each side in its priority, paired from the front
abbrev pub auction_fills : List Price → List Order → ℕ → Margin → List Round → ℕ → Settlement
auction_fills grid os p margin rounds unit =
    let bought : Filling = side_filling grid os p margin rounds unit Buy in
    let sold : Filling = side_filling grid os p margin rounds unit Sell in
    record { shares = bought.shares ++ sold.shares; trades = pair p bought.fills sold.fills }

-- ---- an allotted close

abbrev pub opposite : Side → Side
opposite Buy = Sell
opposite Sell = Buy

-- the end of the grid on a side: the daily limit
abbrev pub limit_position : List Price → Side → ℕ
limit_position grid Buy = length grid - 1
limit_position grid Sell = 0

-- trades at a price between the fills of a side and those that face it
abbrev pub pair_side : ℕ → Side → List Fill → List Fill → List Trade
pair_side p Buy fills facing = pair p fills facing
pair_side p Sell fills facing = pair p facing fills

-- An allotted close: the orders of the pressed side at its limit, market orders among them, share by rounds all that the
-- other side has; they trade by place with the other side in its priority.
abbrev pub allotted_fills : List Price → List Order → Side → List Round → ℕ → Settlement
allotted_fills grid os side rounds unit =
    let p : ℕ = price_at grid (limit_position grid side) in
    let asking : List Order = filter (is_at_or_better grid p side) os in
    let facing : List Order = in_priority (length grid) (opposite side) os in
    let shared : Filling = by_rounds rounds unit (total facing) asking in
    record { shares = shared.shares; trades = pair_side p side (filled shared.fills) (whole facing) }

-- shares and trades as a watch is told them: the shares in the order of the allotment, then the trades
abbrev pub share_outputs : List Demand → List Output
share_outputs shares = map (λ d. outputs.Share d.participant d.share) shares

abbrev pub trade_outputs : List Trade → List Output
trade_outputs trades = map (λ t. outputs.Traded t) trades

abbrev pub settlement_outputs : Settlement → List Output
settlement_outputs s = share_outputs s.shares ++ trade_outputs s.trades
