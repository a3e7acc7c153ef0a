use Rattle.itayose.proofs.TradingLemmas.{IsSettled}
use Rattle.itayose.proofs.trading.trade_volume.Given as goal

-- the trades until now, and what is left to be traded
abbrev pub invariant-loop-left : goal.invariant-loop-left
invariant-loop-left g l = IsSettled g.W.Watch.took l.price.0 l.volume l.left l.fn.book l.book l.fn.watch l.watch

abbrev pub decreases-loop-left : goal.decreases-loop-left
decreases-loop-left g l = l.left
