use Rattle.order_book.proofs.CallLemmas.{names-at}
use Rattle.order_book.proofs.plain.PlainBook.order.Goals as goal

pub returns : goal.returns
returns c =
    let fields = c.self.inside in
    names-at fields.prices fields.capacity fields.orders.items c.args.self.now c.self.view_is c.self.invariant.book c.args.handle c.index.result c.index.ensures.within c.index.ensures.there
    c.index-2.result.now c.index-2.ensures
