use Rattle.itayose.proofs.FillingLemmas.{IsFronting}
use Rattle.itayose.proofs.filling.fill_front.Given as goal

-- what of the front is left to be filled
abbrev pub invariant-loop-left : goal.invariant-loop-left
invariant-loop-left g l = IsFronting g.W.Watch.took l.price.0 l.side l.shares l.left l.fn.book l.book l.fn.watch l.watch

abbrev pub decreases-loop-left : goal.decreases-loop-left
decreases-loop-left g l = l.left
