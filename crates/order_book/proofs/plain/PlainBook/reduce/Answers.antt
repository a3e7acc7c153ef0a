use Rattle.std.proofs.Common.{sym, subst, arith, rules}
use Rattle.book_law.specs.BookView.{IsBookView, Names}
use Rattle.order_book.proofs.CallLemmas.{less-left, names-at}
use Rattle.order_book.proofs.ViewLemmas.{reduced-stands}
use Rattle.order_book.proofs.plain.PlainBook.reduce.Goals as goal

pub overflow_sub-index_mut : goal.overflow_sub-index_mut
overflow_sub-index_mut c =
    let fields = c.self.inside in
    let x = c.index_mut.result.now in
    let names : Names c.args.self.now c.args.handle x =
    names-at fields.prices fields.capacity fields.orders.items c.args.self.now c.self.view_is c.self.invariant.book c.args.handle c.index-at.result c.index-at.ensures.within c.index-at.ensures.there
    x c.index_mut.ensures.value in
    let less = c.requires.less x names in
    omega (arith, less)

pub returns : goal.returns
returns c =
    let fields = c.self.inside in
    let less =
    less-left fields.prices fields.capacity fields.orders.items c.args.self.now c.self.view_is c.self.invariant.book c.args.handle c.index-at.result c.index-at.ensures.within c.index-at.ensures.there
    c.args.by c.index_mut.result.now c.index_mut.ensures.value in
    search rules

pub invariant_of-self : goal.invariant_of-self
invariant_of-self c =
    record {
      book =
          subst IsBookView (sym (returns c))
          (reduced-stands c.args.self.now c.args.handle c.args.by (subst IsBookView c.self.view_is c.self.invariant.book) c.requires.less);
      room = c.self.invariant.room;
    }
