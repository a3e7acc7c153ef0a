use Rattle.std.proofs.Common.{length}
use Rattle.mkt_base.specs.Book.{price_at}
use Rattle.book_law.specs.BookView.{orders}
use Rattle.itayose.proofs.TellingLemmas.{IsTold}
use Rattle.itayose.proofs.telling.reject_nearer.Given as goal

-- the watch was told the nearer prices but those that are left
abbrev pub invariant-loop-sums : goal.invariant-loop-sums
invariant-loop-sums g l = IsTold g.W.Watch.took l.grid (orders l.book) (price_at l.grid l.reference) l.rest l.fn.watch l.watch

abbrev pub decreases-loop-sums : goal.decreases-loop-sums
decreases-loop-sums g l = length l.rest.left
