use Rattle.order_book.proofs.NextLemmas.{after-is, along-is}
use Rattle.order_book.proofs.plain.PlainBook.next.Goals as goal

pub returns-clause-after : goal.returns-clause-after
returns-clause-after c o names =
    let fields = c.self.inside in
    after-is fields.prices fields.capacity fields.orders.items c.deref.result.now c.args.self.now c.self.view_is c.deref.ensures.value c.self.invariant.book c.first_of.result c.of.result c.of.ensures
    c.args.handle c.order-order.result o c.order-order.ensures names c.first_of.ensures

pub returns-clause-along : goal.returns-clause-along
returns-clause-along c side o before rest names parts =
    let fields = c.self.inside in
    along-is fields.prices fields.capacity fields.orders.items c.deref.result.now c.args.self.now c.self.view_is c.deref.ensures.value c.self.invariant.book c.first_of.result c.of.result c.of.ensures
    c.args.handle c.order-order.result o c.order-order.ensures names c.first_of.ensures side before rest parts
