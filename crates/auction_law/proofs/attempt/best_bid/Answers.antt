use Rattle.auction_law.proofs.CalmLemmas.{bid-more, bid-all}
use Rattle.auction_law.proofs.attempt.best_bid.Goals as goal

pub loop-order-preserved : goal.loop-order-preserved
loop-order-preserved c = bid-more c.args.grid.now c.args.orders.now c.loop-order.order-index _ _ _ _ c.loop-order-test.true c.loop-order.invariant c.bid_of.ensures c.higher-best.ensures

pub returns : goal.returns
returns c = bid-all c.args.grid.now c.args.orders.now c.loop-order.order-index c.loop-order.best c.loop-order-test.false c.loop-order.invariant
