use Rattle.std.proofs.Common.{subst}
use Rattle.book_law.specs.BookView.{IsBookView}
use Rattle.order_book.proofs.ViewLemmas.{sums-fit}
use Rattle.order_book.proofs.plain.PlainBook.stands.Goals as goal

pub returns-clause-sums : goal.returns-clause-sums
returns-clause-sums c = sums-fit c.args.self.now (subst IsBookView c.self.view_is c.self.invariant.book)
