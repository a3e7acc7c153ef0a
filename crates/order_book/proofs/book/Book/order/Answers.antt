use Rattle.std.proofs.Common.{sym, subst}
use Rattle.book_law.specs.BookView.{Names}
use Rattle.order_list.specs.Lists.{IsIn, IsLive}
use Rattle.order_book.specs.Fields.{AreFields, book_of}
use Rattle.order_book.specs.declared.held.Held.{Held}
use Rattle.order_book.proofs.BookLemmas.{held-in, held-live, named, node}
use Rattle.order_book.proofs.book.Book.order.Goals as goal

pub item-requires : goal.item-requires
unfolding AreFields book_of
item-requires c =
    let f = c.self.inside in
    subst (IsLive f.held.lists) (sym c.link.ensures) (held-live f.prices f.capacity f.buckets f.held f.levels f.owners f.depths c.self.invariant c.args.self.now c.self.view_is c.args.handle c.requires)

pub returns : goal.returns
unfolding AreFields book_of
returns c =
    let f = c.self.inside in
    let x = node f.prices f.capacity f.buckets f.held f.levels f.owners f.depths c.self.invariant c.args.self.now c.self.view_is c.args.handle c.requires in
    let is =
    c.item.ensures 0 x.0
    (subst (λ h. IsIn f.held.lists h 0 x.0) (sym c.link.ensures) (held-in f.prices f.capacity f.buckets f.held f.levels f.owners f.depths c.self.invariant c.args.self.now c.self.view_is c.args.handle c.requires)) in
    subst (λ (y : Held). Names c.args.self.now c.args.handle y.order) (sym is) (named f.prices f.capacity f.buckets f.held f.levels f.owners f.depths c.self.invariant c.args.self.now c.self.view_is c.args.handle c.requires)
