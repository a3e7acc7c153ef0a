-- Worked examples of scripts that are made of a number.
use Rattle.std.specs.Prelude.{◌≡◌, None, Some, refl}
use Rattle.mkt_base.specs.declared.order.Side.TheVariants.{Buy, Sell}
use Rattle.script_file.specs.Generated.{behind_limit, behind_order, behind_side, drawn, drawn_limit, is_market, next_state, order_from, state_before}

-- g1 AAAA order p5 sell 20000 600
first-of-0 : order_from 0 ≡ record { gateway = 1; issue = 0; participant = 5; side = Sell; limit = Some 20000; quantity = 600 }
unfolding next_state drawn is_market drawn_limit behind_limit behind_side order_from
first-of-0 = refl

-- g2 BBBB order p7 buy 12140 100
first-of-last : order_from 2147483647 ≡ record { gateway = 2; issue = 1; participant = 7; side = Buy; limit = Some 12140; quantity = 100 }
unfolding next_state drawn is_market drawn_limit behind_limit behind_side order_from
first-of-last = refl

-- g4 AAAA order p7 sell 20090 700
second-of-last : order_from (state_before 2147483647 1) ≡ record { gateway = 4; issue = 0; participant = 7; side = Sell; limit = Some 20090; quantity = 700 }
unfolding next_state drawn is_market drawn_limit behind_limit behind_side order_from behind_order state_before
second-of-last = refl

-- g1 BBBB order p2 sell market 700
market-of-33 : order_from 33 ≡ record { gateway = 1; issue = 1; participant = 2; side = Sell; limit = None; quantity = 700 }
unfolding next_state drawn is_market drawn_limit behind_limit behind_side order_from
market-of-33 = refl
