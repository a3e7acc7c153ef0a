use Rattle.std.proofs.Common.{◌≡◌, ◌++◌, map, length}
use Rattle.mkt_base.specs.Book.{price_at, sums_at}
use Rattle.auction_law.specs.Attempt.{nearer_prices}
use Rattle.auction_check.proofs.CheckLemmas.{sums_before}
use Rattle.level_auction.proofs.gathering.nearer.Given as goal

-- the sums so far, and those of the prices that are left
abbrev pub invariant-loop-sums : goal.invariant-loop-sums
invariant-loop-sums l = record {
  grid_is : l.rest.grid ≡ l.grid;
  orders_are : l.rest.orders ≡ l.levels.orders;
  all : l.rejected.items ++ sums_before l.grid l.levels.orders l.rest.left ≡ map (sums_at l.grid l.levels.orders) (nearer_prices l.grid l.levels.orders (price_at l.grid l.reference));
}

abbrev pub decreases-loop-sums : goal.decreases-loop-sums
decreases-loop-sums l = length l.rest.left
