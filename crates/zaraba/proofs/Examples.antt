-- Orders that arrive, worked by the definition.
use Rattle.std.proofs.Common.{◌≡◌, ℕ, List, [], ◌∷◌, refl}
use Rattle.mkt_base.specs.declared.order.Order.{Order}
use Rattle.mkt_base.specs.declared.order.Side.{Side}
use Rattle.mkt_base.specs.declared.order.Side.TheVariants.{Buy, Sell}
use Rattle.mkt_base.specs.declared.order.Spot.{Spot}
use Rattle.mkt_base.specs.declared.order.Spot.TheVariants.{Market, At}
use Rattle.mkt_base.specs.declared.units.Price.{Price}
use Rattle.mkt_base.specs.Fills.{from_front, quantity}
use Rattle.mkt_base.specs.Priority.{in_priority}
use Rattle.zaraba.specs.Arrival.{arrival, arrival_over}
use Rattle.zaraba.specs.declared.stop.Stop.TheVariants.{Done, Gap, Sequence}

abbrev price : ℕ → Price
price p = record { 0 = p }

abbrev order : ℕ → Side → Spot → ℕ → Order
order place side spot left =
    record { place = place; caller = record { 0 = 1 }; own = place; participant = record { 0 = 0 }; side = side; spot = spot; left = left }

-- five prices from 20000 on, 400 apart
abbrev grid : List Price
grid = price 20000 ∷ price 20400 ∷ price 20800 ∷ price 21200 ∷ price 21600 ∷ []

abbrev three_sells : List Order
three_sells = order 1 Sell (At 1) 100 ∷ order 2 Sell (At 2) 100 ∷ order 3 Sell (At 3) 100 ∷ []

-- a market buy of 300 takes two sells; the third is beyond twice the range from the price at its arrival
sequence_after_two : arrival grid (λ p. 400) three_sells (order 4 Buy Market 300) 20000
    ≡ record {
      trades = record { price = price 20400; qty = 100; buy = 4; sell = 1 } ∷ record { price = price 20800; qty = 100; buy = 4; sell = 2 } ∷ [];
      left = 100;
      last = 20800;
      stop = Sequence Buy;
    }
unfolding arrival_over from_front quantity in_priority
sequence_after_two = refl

-- an order for less than stands against it is done, and fills a part of the second
done_with_a_part : arrival grid (λ p. 400) three_sells (order 4 Buy (At 2) 150) 20000
    ≡ record {
      trades = record { price = price 20400; qty = 100; buy = 4; sell = 1 } ∷ record { price = price 20800; qty = 50; buy = 4; sell = 2 } ∷ [];
      left = 0;
      last = 20800;
      stop = Done;
    }
unfolding arrival_over from_front quantity in_priority
done_with_a_part = refl

-- a sell far below the last price leaves a gap on the sell side, though nothing was sold
gap_on_the_other_side : arrival grid (λ p. 300) (order 1 Buy (At 0) 100 ∷ []) (order 2 Sell Market 100) 20800
    ≡ record { trades = []; left = 100; last = 20800; stop = Gap Sell }
unfolding arrival_over from_front quantity in_priority
gap_on_the_other_side = refl

-- a market order with nothing against it leaves a gap of its side
gap_without_orders : arrival grid (λ p. 400) [] (order 1 Buy Market 100) 20000 ≡ record { trades = []; left = 100; last = 20000; stop = Gap Buy }
unfolding arrival_over from_front quantity in_priority
gap_without_orders = refl

-- a limit order that crosses nothing is done, with all that it has left
done_without_crossing : arrival grid (λ p. 400) three_sells (order 4 Buy (At 0) 100) 20000 ≡ record { trades = []; left = 100; last = 20000; stop = Done }
unfolding arrival_over from_front quantity in_priority
done_without_crossing = refl
