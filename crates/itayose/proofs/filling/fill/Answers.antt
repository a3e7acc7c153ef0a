use Rattle.std.proofs.Common.{arith}
use Rattle.itayose.proofs.FillingLemmas.{filling-done, filling-faced, filling-more, filling-none, filling-side}
use Rattle.itayose.proofs.filling.fill.Goals as goal

pub loop-left-init : goal.loop-left-init
loop-left-init g c = filling-none g.W.Watch.took c.args.price.0 c.args.order.now c.args.handle c.args.qty c.args.book.now c.args.watch.now c.stands.ensures.book c.requires.names c.requires.within

pub trade_with-traded-requires-clause-faced : goal.trade_with-traded-requires-clause-faced
trade_with-traded-requires-clause-faced g c =
    filling-faced g.W.Watch.took c.args.price.0 c.args.order.now c.args.handle c.args.qty c.args.book.now c.args.watch.now c.loop-left.left c.loop-left.rest c.loop-left.book c.loop-left.watch c.loop-left.invariant c.requires.faced

pub loop-left-preserved : goal.loop-left-preserved
loop-left-preserved g c =
    filling-more g.W.Watch.took c.args.price.0 c.args.order.now c.args.handle c.args.qty c.args.book.now c.args.watch.now c.loop-left.left c.trade_with-traded.result c.loop-left.rest c.loop-left.book
    c.trade_with-traded.new.book c.loop-left.watch c.trade_with-traded.new.watch c.loop-left.invariant c.trade_with-traded.ensures.some c.trade_with-traded.ensures.within
    c.trade_with-traded.ensures.filled c.trade_with-traded.ensures.side c.trade_with-traded.ensures.own c.trade_with-traded.ensures.others

pub returns-clause-filled : goal.returns-clause-filled
returns-clause-filled g c =
    filling-done g.W.Watch.took c.args.price.0 c.args.order.now c.args.handle c.args.qty c.args.book.now c.args.watch.now c.loop-left.rest c.loop-left.book c.loop-left.watch c.loop-left.left
    (omega (arith, c.loop-left-test.false)) c.loop-left.invariant

pub returns-clause-side : goal.returns-clause-side
returns-clause-side g c =
    filling-side g.W.Watch.took c.args.price.0 c.args.order.now c.args.handle c.args.qty c.args.book.now c.args.watch.now c.loop-left.rest c.loop-left.book c.loop-left.watch c.loop-left.left
    (omega (arith, c.loop-left-test.false)) c.loop-left.invariant

pub returns-clause-others : goal.returns-clause-others
returns-clause-others g c = c.loop-left.invariant.others
