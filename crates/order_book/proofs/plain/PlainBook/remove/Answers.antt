use Rattle.std.proofs.Common.{sym, subst, arith, rules}
use Rattle.book_law.specs.BookView.{IsBookView}
use Rattle.order_book.proofs.CallLemmas.{names-at, removed}
use Rattle.order_book.proofs.ViewLemmas.{without-stands}
use Rattle.order_book.proofs.plain.PlainBook.remove.Goals as goal

pub returns-clause-order : goal.returns-clause-order
returns-clause-order c =
    let fields = c.self.inside in
    names-at fields.prices fields.capacity fields.orders.items c.args.self.now c.self.view_is c.self.invariant.book c.args.handle c.index-at.result c.index-at.ensures.within c.index-at.ensures.there
    c.remove.result (search rules)

pub returns-clause-book : goal.returns-clause-book
returns-clause-book c =
    let fields = c.self.inside in
    removed fields.prices fields.capacity fields.orders.items c.args.self.now c.self.view_is c.self.invariant.book c.args.handle c.index-at.result c.index-at.ensures.within c.index-at.ensures.there
    c.remove.new.self.items (search rules)

pub invariant_of-self : goal.invariant_of-self
invariant_of-self c =
    record {
      book = subst IsBookView (sym (returns-clause-book c)) (without-stands c.args.self.now c.args.handle (subst IsBookView c.self.view_is c.self.invariant.book));
      room = omega (arith, c.self.invariant.room, c.remove.ensures.capacity);
    }
