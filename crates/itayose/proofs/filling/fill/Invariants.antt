use Rattle.itayose.proofs.FillingLemmas.{IsFilling}
use Rattle.itayose.proofs.filling.fill.Given as goal

-- what is left to be filled, and the order that has it
abbrev pub invariant-loop-left : goal.invariant-loop-left
invariant-loop-left g l = IsFilling g.W.Watch.took l.price.0 l.fn.order l.handle l.qty l.left l.rest l.fn.book l.book l.fn.watch l.watch

abbrev pub decreases-loop-left : goal.decreases-loop-left
decreases-loop-left g l = l.left
