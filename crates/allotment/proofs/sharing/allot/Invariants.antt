use Rattle.allotment.proofs.LawLemmas.{IsAllotting}
use Rattle.allotment.proofs.sharing.allot.Given as goal

-- the allotment is at work, behind the rounds so far
abbrev pub invariant-loop-round : goal.invariant-loop-round
invariant-loop-round l = IsAllotting l.rounds l.unit l.fn.demands l.total l.round-index l.left l.demands
