use Rattle.itayose.proofs.SharingLemmas.{IsPassing}
use Rattle.itayose.proofs.sharing.behind_shares.Given as goal

-- how many shares are still to be passed
abbrev pub invariant-loop-left : goal.invariant-loop-left
invariant-loop-left l = IsPassing l.book l.fn.side l.shares l.left l.handle

abbrev pub decreases-loop-left : goal.decreases-loop-left
decreases-loop-left l = l.left
