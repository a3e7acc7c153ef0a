use Rattle.std.proofs.Common.{None, Some, sym, ◌∙◌}
use Rattle.mkt_base.specs.declared.order.Spot.TheVariants.{Market}
use Rattle.order_book.specs.Fields.{AreFields, book_of}
use Rattle.order_book.specs.Plain.{is_behind, is_wanted}
use Rattle.order_book.proofs.PriorityLemmas.{best-first, best-none, best-some, plain-now, same-finds}
use Rattle.order_book.proofs.book.Book.best.Goals as goal

pub returns-in-Some : goal.returns-in-Some
unfolding AreFields book_of
returns-in-Some c =
    let f = c.self.inside in
    best-first c.args.self.now (plain-now f.prices f.capacity f.buckets f.held f.levels f.owners f.depths c.self.invariant c.args.self.now c.self.view_is) c.args.side (Some c.item.result)
    (best-some f.prices f.capacity f.buckets f.held f.levels f.owners f.depths c.self.invariant c.args.self.now c.self.view_is c.args.side c.level_of.result c.in-Some.link c.item.result c.level_of.ensures (sym c.front.ensures.exact ∙ c.in-Some.is) c.item.ensures)

pub returns-in-None : goal.returns-in-None
unfolding AreFields book_of
returns-in-None c =
    let f = c.self.inside in
    best-first c.args.self.now (plain-now f.prices f.capacity f.buckets f.held f.levels f.owners f.depths c.self.invariant c.args.self.now c.self.view_is) c.args.side c.behind.result
    (same-finds c.args.self.now (plain-now f.prices f.capacity f.buckets f.held f.levels f.owners f.depths c.self.invariant c.args.self.now c.self.view_is) c.args.side (is_behind c.args.self.now.prices c.args.side Market) (is_wanted c.args.self.now.prices c.args.side None) c.behind.result
    (best-none f.prices f.capacity f.buckets f.held f.levels f.owners f.depths c.self.invariant c.args.self.now c.self.view_is c.args.side c.level_of.result c.level_of.ensures (sym c.front.ensures.exact ∙ c.in-None.is)) c.behind.ensures)
