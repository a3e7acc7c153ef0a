use Rattle.std.proofs.Common.{◌+◌, ◌≤◌, nat_lt, nat_le, length, arith}
use Rattle.mkt_base.specs.Book.{is_buy_above, is_buy_at, is_sell_at, is_sell_below, is_market_or, limit_of}
use Rattle.auction_law.proofs.SumsLemmas.{total_left-more, total_left-none, total_left-all, buys-fit, sells-fit}
use Rattle.auction_law.proofs.sums.plain_sums.Goals as goal

pub loop-order-init : goal.loop-order-init
loop-order-init c = (total_left-none _, total_left-none _, total_left-none _, total_left-none _)

pub overflow_add-buys : goal.overflow_add-buys
overflow_add-buys c =
    let grid = c.args.grid.now in
    let p = c.args.price.0 in
    let e = total_left-more (is_buy_at grid p) c.args.orders.now c.loop-order.order-index _ _ _ _ c.loop-order-test.true c.loop-order.invariant.0 c.is_buy_at.ensures c.left_if-buys.ensures in
    omega (arith, buys-fit c.args.orders.now (λ o. is_market_or (λ limit. nat_le p limit) (limit_of grid o.spot)) (c.loop-order.order-index + 1) (c.loop-order.buys + c.left_if-buys.result) c.requires.fits e)

pub overflow_add-above : goal.overflow_add-above
overflow_add-above c =
    let grid = c.args.grid.now in
    let p = c.args.price.0 in
    let e = total_left-more (is_buy_above grid p) c.args.orders.now c.loop-order.order-index _ _ _ _ c.loop-order-test.true c.loop-order.invariant.1 c.is_buy_above.ensures c.left_if-above.ensures in
    omega (arith, buys-fit c.args.orders.now (λ o. is_market_or (λ limit. nat_lt p limit) (limit_of grid o.spot)) (c.loop-order.order-index + 1) (c.loop-order.above + c.left_if-above.result) c.requires.fits e)

pub overflow_add-sells : goal.overflow_add-sells
overflow_add-sells c =
    let grid = c.args.grid.now in
    let p = c.args.price.0 in
    let e = total_left-more (is_sell_at grid p) c.args.orders.now c.loop-order.order-index _ _ _ _ c.loop-order-test.true c.loop-order.invariant.2 c.is_sell_at.ensures c.left_if-sells.ensures in
    omega (arith, sells-fit c.args.orders.now (λ o. is_market_or (λ limit. nat_le limit p) (limit_of grid o.spot)) (c.loop-order.order-index + 1) (c.loop-order.sells + c.left_if-sells.result) c.requires.fits e)

pub overflow_add-below : goal.overflow_add-below
overflow_add-below c =
    let grid = c.args.grid.now in
    let p = c.args.price.0 in
    let e = total_left-more (is_sell_below grid p) c.args.orders.now c.loop-order.order-index _ _ _ _ c.loop-order-test.true c.loop-order.invariant.3 c.is_sell_below.ensures c.left_if-below.ensures in
    omega (arith, sells-fit c.args.orders.now (λ o. is_market_or (λ limit. nat_lt limit p) (limit_of grid o.spot)) (c.loop-order.order-index + 1) (c.loop-order.below + c.left_if-below.result) c.requires.fits e)

pub loop-order-preserved : goal.loop-order-preserved
loop-order-preserved c =
    let grid = c.args.grid.now in
    let p = c.args.price.0 in
    let orders = c.args.orders.now in
    let i = c.loop-order.order-index in (
      total_left-more (is_buy_at grid p) orders i _ _ _ _ c.loop-order-test.true c.loop-order.invariant.0 c.is_buy_at.ensures c.left_if-buys.ensures,
      total_left-more (is_buy_above grid p) orders i _ _ _ _ c.loop-order-test.true c.loop-order.invariant.1 c.is_buy_above.ensures c.left_if-above.ensures,
      total_left-more (is_sell_at grid p) orders i _ _ _ _ c.loop-order-test.true c.loop-order.invariant.2 c.is_sell_at.ensures c.left_if-sells.ensures,
      total_left-more (is_sell_below grid p) orders i _ _ _ _ c.loop-order-test.true c.loop-order.invariant.3 c.is_sell_below.ensures c.left_if-below.ensures,
    )

pub returns : goal.returns
returns c =
    let grid = c.args.grid.now in
    let p = c.args.price.0 in
    let orders = c.args.orders.now in
    let i = c.loop-order.order-index in
    let l : length orders ≤ i = omega arith in
    let e0 = total_left-all (is_buy_at grid p) orders i c.loop-order.buys l c.loop-order.invariant.0 in
    let e1 = total_left-all (is_buy_above grid p) orders i c.loop-order.above l c.loop-order.invariant.1 in
    let e2 = total_left-all (is_sell_at grid p) orders i c.loop-order.sells l c.loop-order.invariant.2 in
    let e3 = total_left-all (is_sell_below grid p) orders i c.loop-order.below l c.loop-order.invariant.3 in
    cc
