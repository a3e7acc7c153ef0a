use Rattle.order_book.specs.Fields.{AreFields, book_of}
use Rattle.order_book.proofs.CountedLemmas.{limits-first}
use Rattle.order_book.proofs.book.Book.limits_first.Goals as goal

pub returns-clause-exact : goal.returns-clause-exact
unfolding AreFields book_of
returns-clause-exact g c =
    let f = c.self.inside in
    limits-first f.prices f.capacity f.buckets f.held f.levels f.owners f.depths c.self.invariant c.args.self.now c.self.view_is c.args.side c.args.least c.first.result c.first.ensures.exact
