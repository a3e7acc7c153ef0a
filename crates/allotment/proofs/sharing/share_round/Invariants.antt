use Rattle.allotment.proofs.RoundLemmas.{IsSharing}
use Rattle.allotment.proofs.sharing.share_round.Given as goal

-- the round is at work, behind the demands so far
abbrev pub invariant-loop-demand : goal.invariant-loop-demand
invariant-loop-demand l = IsSharing l.round l.unit l.total l.initial.demands l.demand-index l.left l.demands
