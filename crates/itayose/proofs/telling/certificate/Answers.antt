use Rattle.std.proofs.Common.{sym}
use Rattle.book_law.specs.BookView.{orders}
use Rattle.itayose.proofs.TellingLemmas.{told-auction}
use Rattle.itayose.proofs.telling.certificate.Goals as goal

pub returns-clause-told : goal.returns-clause-told
returns-clause-told g c = rw (sym c.price.ensures.value, sym c.price-2.ensures.value, sym c.price-3.ensures.value) (told-auction g.W.Watch.took c.args.grid.now (orders c.args.book.now) c.price.result c.price-2.result c.price-3.result c.args.lo c.args.hi c.args.attempt c.outcome-outcome.result c.args.watch.now _ _ _ c.outcome-outcome.ensures c.auction.ensures (rw c.price.ensures.value c.reject.ensures) c.outcome.ensures)
