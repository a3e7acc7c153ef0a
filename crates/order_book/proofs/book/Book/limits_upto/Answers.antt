use Rattle.std.proofs.Common.{◌∙◌, ap, arith}
use Rattle.book_law.specs.BookView.{BookView}
use Rattle.order_book.specs.Fields.{AreFields, book_of}
use Rattle.order_book.proofs.CountedLemmas.{limits-upto}
use Rattle.order_book.proofs.book.Book.limits_upto.Goals as goal

pub returns-clause-exact : goal.returns-clause-exact
unfolding AreFields book_of
returns-clause-exact g c =
    let f = c.self.inside in
    c.upto.ensures.exact ∙ limits-upto f.prices f.capacity f.buckets f.held f.levels f.owners f.depths c.self.invariant c.args.self.now c.self.view_is c.args.side c.args.i (omega (arith, c.requires, ap (λ (v : BookView). v.prices) c.self.view_is))
