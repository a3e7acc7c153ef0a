use Rattle.auction_law.proofs.CalmLemmas.{ask-more, ask-all}
use Rattle.auction_law.proofs.attempt.best_ask.Goals as goal

pub loop-order-preserved : goal.loop-order-preserved
loop-order-preserved c = ask-more c.args.grid.now c.args.orders.now c.loop-order.order-index _ _ _ _ c.loop-order-test.true c.loop-order.invariant c.ask_of.ensures c.lower-best.ensures

pub returns : goal.returns
returns c = ask-all c.args.grid.now c.args.orders.now c.loop-order.order-index c.loop-order.best c.loop-order-test.false c.loop-order.invariant
