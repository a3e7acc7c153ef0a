use Rattle.itayose.proofs.ShareLemmas.{IsGiving}
use Rattle.itayose.proofs.filling.fill_shares.Given as goal

-- the orders that are still to be filled, and what their participants have left
abbrev pub invariant-loop-rest : goal.invariant-loop-rest
invariant-loop-rest g l = IsGiving g.W.Watch.took l.price.0 l.group.side l.group.at l.group.markets l.fn.shares l.shares l.rest l.fn.book l.book l.fn.watch l.watch

abbrev pub decreases-loop-rest : goal.decreases-loop-rest
decreases-loop-rest g l = l.rest.left
