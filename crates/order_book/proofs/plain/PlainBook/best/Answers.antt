use Rattle.order_book.proofs.NextLemmas.{best-is}
use Rattle.order_book.proofs.plain.PlainBook.best.Goals as goal

pub returns : goal.returns
returns c =
    let fields = c.self.inside in
    best-is fields.prices fields.capacity fields.orders.items c.deref.result.now c.args.self.now c.self.view_is c.deref.ensures.value c.self.invariant.book c.first_of.result c.of.result c.of.ensures
    c.args.side c.first_of.ensures
