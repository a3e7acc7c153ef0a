use Rattle.std.proofs.Common.{◌≡◌, ◌++◌, length, map, Some, find}
use Rattle.mkt_base.specs.Book.{price_at, sums_at}
use Rattle.auction_law.specs.Attempt.{meets, nearer_prices}
use Rattle.auction_check.proofs.CheckLemmas.{sums_before}
use Rattle.auction_check.proofs.gathering.nearer.Given as goal

-- the sums so far, and those of the prices that are left
abbrev pub invariant-loop-price : goal.invariant-loop-price
invariant-loop-price l = record {
  found : find (meets l.grid l.orders) l.nearest ≡ Some l.last.0;
  all : l.rejected.items ++ sums_before l.grid l.orders l.nearest ≡ map (sums_at l.grid l.orders) (nearer_prices l.grid l.orders (price_at l.grid l.reference));
}

abbrev pub decreases-loop-price : goal.decreases-loop-price
decreases-loop-price l = length l.nearest
