use Rattle.std.proofs.Common.{◌≡◌, length}
use Rattle.std.specs.Prelude.{find}
use Rattle.mkt_base.specs.Book.{price_at}
use Rattle.auction_law.specs.Attempt.{chosen, meets}
use Rattle.level_auction.proofs.answer.chosen.Given as goal

-- the chosen price is the first that meets the conditions among those that are left
abbrev pub invariant-loop-sums : goal.invariant-loop-sums
invariant-loop-sums l = record {
  grid_is : l.rest.grid ≡ l.grid;
  orders_are : l.rest.orders ≡ l.levels.orders;
  first : chosen l.grid l.levels.orders (price_at l.grid l.reference) ≡ find (meets l.grid l.levels.orders) l.rest.left;
}

abbrev pub decreases-loop-sums : goal.decreases-loop-sums
decreases-loop-sums l = length l.rest.left
