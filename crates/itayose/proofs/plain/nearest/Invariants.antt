use Rattle.std.proofs.Common.{◌≡◌, length}
use Rattle.std.specs.Prelude.{find}
use Rattle.mkt_base.specs.Book.{price_at}
use Rattle.auction_law.specs.Attempt.{chosen, meets}
use Rattle.book_law.specs.BookView.{orders}
use Rattle.itayose.proofs.plain.nearest.Given as goal

-- the chosen price is the first that meets the conditions among those that are left
abbrev pub invariant-loop-at : goal.invariant-loop-at
invariant-loop-at l = record {
  grid_is : l.rest.grid ≡ l.grid;
  orders_are : l.rest.orders ≡ orders l.book;
  first : chosen l.grid (orders l.book) (price_at l.grid l.reference) ≡ find (meets l.grid (orders l.book)) l.rest.left;
}

abbrev pub decreases-loop-at : goal.decreases-loop-at
decreases-loop-at l = length l.rest.left
