use Rattle.std.proofs.Common.{subst, arith}
use Rattle.itayose.proofs.TradingLemmas.{IsSettled, settled-book, settled-more, settled-none, settled-told}
use Rattle.itayose.proofs.trading.trade_volume.Goals as goal

pub loop-left-init : goal.loop-left-init
loop-left-init g c = settled-none g.W.Watch.took c.args.price.0 c.args.volume c.args.book.now c.args.watch.now c.stands.ensures.book c.requires.bought c.requires.sold

pub loop-left-preserved : goal.loop-left-preserved
loop-left-preserved g c =
    settled-more g.W.Watch.took c.args.price.0 c.args.volume c.args.book.now c.args.watch.now c.loop-left.left c.loop-left.book c.trade_first-left.new.book c.loop-left.watch c.trade_first-left.new.watch c.trade_first-left.result
    c.loop-left.invariant c.trade_first-left.ensures.trade c.trade_first-left.ensures.told

pub returns-clause-book : goal.returns-clause-book
returns-clause-book g c =
    settled-book g.W.Watch.took c.args.price.0 c.args.volume c.args.book.now c.args.watch.now c.loop-left.book c.loop-left.watch
    (subst (λ n. IsSettled g.W.Watch.took c.args.price.0 c.args.volume n c.args.book.now c.loop-left.book c.args.watch.now c.loop-left.watch) (omega (arith, c.loop-left-test.false)) c.loop-left.invariant)

pub returns-clause-told : goal.returns-clause-told
returns-clause-told g c =
    settled-told g.W.Watch.took c.args.price.0 c.args.volume c.args.book.now c.args.watch.now c.loop-left.book c.loop-left.watch
    (subst (λ n. IsSettled g.W.Watch.took c.args.price.0 c.args.volume n c.args.book.now c.loop-left.book c.args.watch.now c.loop-left.watch) (omega (arith, c.loop-left-test.false)) c.loop-left.invariant)
