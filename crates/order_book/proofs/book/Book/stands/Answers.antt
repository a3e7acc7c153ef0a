use Rattle.order_book.specs.Fields.{AreFields, book_of}
use Rattle.order_book.proofs.BookLemmas.{stands}
use Rattle.order_book.proofs.ViewLemmas.{sums-fit}
use Rattle.order_book.proofs.book.Book.stands.Goals as goal

pub returns-clause-sums : goal.returns-clause-sums
unfolding AreFields book_of
returns-clause-sums c =
    let f = c.self.inside in
    sums-fit c.args.self.now (stands f.prices f.capacity f.buckets f.held f.levels f.owners f.depths c.self.invariant c.args.self.now c.self.view_is)
