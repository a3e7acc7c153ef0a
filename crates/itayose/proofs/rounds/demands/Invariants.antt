use Rattle.itayose.specs.Sharing.{sharing_of}
use Rattle.itayose.proofs.AskingLemmas.{IsAsking}
use Rattle.itayose.proofs.rounds.demands.Given as goal

-- the orders that still count, and the demands of those that were counted
abbrev pub invariant-loop-rest : goal.invariant-loop-rest
invariant-loop-rest l = IsAsking l.book l.group.side l.group.at (sharing_of l.book l.group.side l.group.at l.group.markets) l.rest l.table

abbrev pub decreases-loop-rest : goal.decreases-loop-rest
decreases-loop-rest l = l.rest.left
