use Rattle.std.proofs.Common.{sym, ◌∙◌}
use Rattle.order_book.specs.Fields.{AreFields, book_of}
use Rattle.order_book.proofs.CountedLemmas.{sells-fit}
use Rattle.order_book.proofs.PriorityLemmas.{behind-some, behind-there, none-behind-now}
use Rattle.order_book.proofs.book.Book.behind.Goals as goal

pub behind-requires-clause-prices : goal.behind-requires-clause-prices
unfolding AreFields book_of
behind-requires-clause-prices c = c.self.invariant.holds.book.some_price

pub behind-requires-clause-fits : goal.behind-requires-clause-fits
unfolding AreFields book_of
behind-requires-clause-fits c =
    let f = c.self.inside in
    sells-fit f.prices f.capacity f.buckets f.held f.levels f.owners f.depths c.self.invariant c.args.self.now c.self.view_is

pub unreachable-requires : goal.unreachable-requires
unfolding AreFields book_of
unreachable-requires c =
    let f = c.self.inside in
    behind-there f.prices f.capacity f.buckets f.held f.levels f.owners f.depths c.self.invariant c.args.self.now c.self.view_is c.args.side c.args.spot c.in-Some.i c.level_of.result c.in-Some.ensures c.level_of.ensures (sym c.front.ensures.exact ∙ c.in-None-front.is)

pub returns-in-Some-front : goal.returns-in-Some-front
unfolding AreFields book_of
returns-in-Some-front c =
    let f = c.self.inside in
    behind-some f.prices f.capacity f.buckets f.held f.levels f.owners f.depths c.self.invariant c.args.self.now c.self.view_is c.args.side c.args.spot c.in-Some.i c.level_of.result c.in-Some-front.link c.item.result c.in-Some.ensures c.level_of.ensures
    (sym c.front.ensures.exact ∙ c.in-Some-front.is) c.item.ensures

pub returns-in-None : goal.returns-in-None
unfolding AreFields book_of
returns-in-None c =
    let f = c.self.inside in
    none-behind-now f.prices f.capacity f.buckets f.held f.levels f.owners f.depths c.self.invariant c.args.self.now c.self.view_is c.args.side c.args.spot c.in-None.ensures
