use Rattle.auction_law.proofs.ChoiceLemmas.{IsBest}
use Rattle.auction_law.proofs.choice.chosen_sums.Given as goal

-- the best sums are those at the first price, of the positions scanned, that meets the conditions
abbrev pub invariant-loop-i : goal.invariant-loop-i
invariant-loop-i l = IsBest l.grid l.orders l.reference.0 l.i l.best
