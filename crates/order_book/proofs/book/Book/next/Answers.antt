use Rattle.std.proofs.Common.{Some, sym, ◌∙◌, ap, subst}
use Rattle.order_list.specs.Lists.{IsIn, IsLive}
use Rattle.book_law.specs.BookView.{BookView, IsSpotBelow}
use Rattle.order_book.specs.Fields.{AreFields, book_of}
use Rattle.order_book.specs.Linked.{level_key}
use Rattle.order_book.specs.Plain.{FindsFirst, is_behind, is_wanted}
use Rattle.order_book.specs.declared.held.Held.{Held}
use Rattle.order_book.proofs.BookLemmas.{held-live, kept, level-in, named, node, node-below, read-is}
use Rattle.order_book.proofs.PriorityLemmas.{next-after, next-along, next-none, next-some, node-in, plain-now, same-finds}
use Rattle.order_book.proofs.book.Book.next.Goals as goal

pub item-filed-requires : goal.item-filed-requires
unfolding AreFields book_of
item-filed-requires c =
    let f = c.self.inside in
    subst (IsLive f.held.lists) (sym c.link.ensures) (held-live f.prices f.capacity f.buckets f.held f.levels f.owners f.depths c.self.invariant c.args.self.now c.self.view_is c.args.handle c.requires)

pub next-requires : goal.next-requires
unfolding AreFields book_of
next-requires c =
    let f = c.self.inside in
    let is = read-is f.prices f.capacity f.buckets f.held f.levels f.owners f.depths c.self.invariant c.args.self.now c.self.view_is c.args.handle c.requires c.link.result c.item-filed.result c.link.ensures c.item-filed.ensures in
    (level_key (kept f.prices f.capacity f.buckets f.held f.levels f.owners f.depths c.self.invariant c.args.self.now c.self.view_is c.args.handle c.requires).order, c.args.handle, (subst (λ (y : Held). IsIn f.levels.lists y.filed.level (level_key (kept f.prices f.capacity f.buckets f.held f.levels f.owners f.depths c.self.invariant c.args.self.now c.self.view_is c.args.handle c.requires).order) c.args.handle) (sym is) (level-in f.prices f.capacity f.buckets f.held f.levels f.owners f.depths c.self.invariant c.args.self.now c.self.view_is c.args.handle c.requires)))

pub item-requires : goal.item-requires
unfolding AreFields book_of
item-requires c =
    let f = c.self.inside in
    let is = read-is f.prices f.capacity f.buckets f.held f.levels f.owners f.depths c.self.invariant c.args.self.now c.self.view_is c.args.handle c.requires c.link.result c.item-filed.result c.link.ensures c.item-filed.ensures in
    let live = c.in-Some.ensures.live (level_key (kept f.prices f.capacity f.buckets f.held f.levels f.owners f.depths c.self.invariant c.args.self.now c.self.view_is c.args.handle c.requires).order) c.args.handle ((subst (λ (y : Held). IsIn f.levels.lists y.filed.level (level_key (kept f.prices f.capacity f.buckets f.held f.levels f.owners f.depths c.self.invariant c.args.self.now c.self.view_is c.args.handle c.requires).order) c.args.handle) (sym is) (level-in f.prices f.capacity f.buckets f.held f.levels f.owners f.depths c.self.invariant c.args.self.now c.self.view_is c.args.handle c.requires))) in
    (level_key (kept f.prices f.capacity f.buckets f.held f.levels f.owners f.depths c.self.invariant c.args.self.now c.self.view_is c.args.handle c.requires).order, live.0, live.1)

pub behind-requires : goal.behind-requires
unfolding AreFields book_of
behind-requires c =
    let f = c.self.inside in
    let is = read-is f.prices f.capacity f.buckets f.held f.levels f.owners f.depths c.self.invariant c.args.self.now c.self.view_is c.args.handle c.requires c.link.result c.item-filed.result c.link.ensures c.item-filed.ensures in
    subst (λ (v : BookView). IsSpotBelow v.prices c.item-filed.result.order.spot) c.self.view_is (subst (λ (y : Held). IsSpotBelow f.prices y.order.spot) (sym is) (node-below f.prices f.capacity f.buckets f.held f.levels f.owners f.depths c.self.invariant c.args.self.now c.self.view_is c.args.handle c.requires))

pub returns-in-Some-clause-after : goal.returns-in-Some-clause-after
unfolding AreFields book_of
returns-in-Some-clause-after c o names =
    let f = c.self.inside in
    let is = read-is f.prices f.capacity f.buckets f.held f.levels f.owners f.depths c.self.invariant c.args.self.now c.self.view_is c.args.handle c.requires c.link.result c.item-filed.result c.link.ensures c.item-filed.ensures in
    let a = kept f.prices f.capacity f.buckets f.held f.levels f.owners f.depths c.self.invariant c.args.self.now c.self.view_is c.args.handle c.requires in
    let exact = c.next.ensures.exact (level_key a.order) c.args.handle ((subst (λ (y : Held). IsIn f.levels.lists y.filed.level (level_key (kept f.prices f.capacity f.buckets f.held f.levels f.owners f.depths c.self.invariant c.args.self.now c.self.view_is c.args.handle c.requires).order) c.args.handle) (sym is) (level-in f.prices f.capacity f.buckets f.held f.levels f.owners f.depths c.self.invariant c.args.self.now c.self.view_is c.args.handle c.requires))) in
    let finds =
    next-some f.prices f.capacity f.buckets f.held f.levels f.owners f.depths c.self.invariant c.args.self.now c.self.view_is c.args.handle a (node f.prices f.capacity f.buckets f.held f.levels f.owners f.depths c.self.invariant c.args.self.now c.self.view_is c.args.handle c.requires).1 c.item-filed.result.filed.level c.in-Some.link c.item.result 0 (ap (λ (y : Held). y.filed.level) is) (sym c.in-Some.is ∙ exact) c.item.ensures in
    next-after c.args.self.now (plain-now f.prices f.capacity f.buckets f.held f.levels f.owners f.depths c.self.invariant c.args.self.now c.self.view_is) c.args.handle a.order o (Some c.item.result) (node-in f.prices f.capacity f.buckets f.held f.levels f.owners f.depths c.self.invariant c.args.self.now c.self.view_is c.args.handle a (node f.prices f.capacity f.buckets f.held f.levels f.owners f.depths c.self.invariant c.args.self.now c.self.view_is c.args.handle c.requires).1) (named f.prices f.capacity f.buckets f.held f.levels f.owners f.depths c.self.invariant c.args.self.now c.self.view_is c.args.handle c.requires) names finds

pub returns-in-Some-clause-along : goal.returns-in-Some-clause-along
unfolding AreFields book_of
returns-in-Some-clause-along c side o before rest names parts =
    let f = c.self.inside in
    let is = read-is f.prices f.capacity f.buckets f.held f.levels f.owners f.depths c.self.invariant c.args.self.now c.self.view_is c.args.handle c.requires c.link.result c.item-filed.result c.link.ensures c.item-filed.ensures in
    let a = kept f.prices f.capacity f.buckets f.held f.levels f.owners f.depths c.self.invariant c.args.self.now c.self.view_is c.args.handle c.requires in
    let exact = c.next.ensures.exact (level_key a.order) c.args.handle ((subst (λ (y : Held). IsIn f.levels.lists y.filed.level (level_key (kept f.prices f.capacity f.buckets f.held f.levels f.owners f.depths c.self.invariant c.args.self.now c.self.view_is c.args.handle c.requires).order) c.args.handle) (sym is) (level-in f.prices f.capacity f.buckets f.held f.levels f.owners f.depths c.self.invariant c.args.self.now c.self.view_is c.args.handle c.requires))) in
    let finds =
    next-some f.prices f.capacity f.buckets f.held f.levels f.owners f.depths c.self.invariant c.args.self.now c.self.view_is c.args.handle a (node f.prices f.capacity f.buckets f.held f.levels f.owners f.depths c.self.invariant c.args.self.now c.self.view_is c.args.handle c.requires).1 c.item-filed.result.filed.level c.in-Some.link c.item.result 0 (ap (λ (y : Held). y.filed.level) is) (sym c.in-Some.is ∙ exact) c.item.ensures in
    next-along c.args.self.now (plain-now f.prices f.capacity f.buckets f.held f.levels f.owners f.depths c.self.invariant c.args.self.now c.self.view_is) c.args.handle a.order o (Some c.item.result) (node-in f.prices f.capacity f.buckets f.held f.levels f.owners f.depths c.self.invariant c.args.self.now c.self.view_is c.args.handle a (node f.prices f.capacity f.buckets f.held f.levels f.owners f.depths c.self.invariant c.args.self.now c.self.view_is c.args.handle c.requires).1) (named f.prices f.capacity f.buckets f.held f.levels f.owners f.depths c.self.invariant c.args.self.now c.self.view_is c.args.handle c.requires) names finds side before rest parts

pub returns-in-None-clause-after : goal.returns-in-None-clause-after
unfolding AreFields book_of
returns-in-None-clause-after c o names =
    let f = c.self.inside in
    let is = read-is f.prices f.capacity f.buckets f.held f.levels f.owners f.depths c.self.invariant c.args.self.now c.self.view_is c.args.handle c.requires c.link.result c.item-filed.result c.link.ensures c.item-filed.ensures in
    let a = kept f.prices f.capacity f.buckets f.held f.levels f.owners f.depths c.self.invariant c.args.self.now c.self.view_is c.args.handle c.requires in
    let exact = c.next.ensures.exact (level_key a.order) c.args.handle ((subst (λ (y : Held). IsIn f.levels.lists y.filed.level (level_key (kept f.prices f.capacity f.buckets f.held f.levels f.owners f.depths c.self.invariant c.args.self.now c.self.view_is c.args.handle c.requires).order) c.args.handle) (sym is) (level-in f.prices f.capacity f.buckets f.held f.levels f.owners f.depths c.self.invariant c.args.self.now c.self.view_is c.args.handle c.requires))) in
    let same = next-none f.prices f.capacity f.buckets f.held f.levels f.owners f.depths c.self.invariant c.args.self.now c.self.view_is c.args.handle a (node f.prices f.capacity f.buckets f.held f.levels f.owners f.depths c.self.invariant c.args.self.now c.self.view_is c.args.handle c.requires).1 c.item-filed.result.filed.level (ap (λ (y : Held). y.filed.level) is) (sym c.in-None.is ∙ exact) in
    let behind = subst (λ (y : Held). FindsFirst c.args.self.now y.order.side (is_behind c.args.self.now.prices y.order.side y.order.spot) c.behind.result) is c.behind.ensures in
    let finds =
    same-finds c.args.self.now (plain-now f.prices f.capacity f.buckets f.held f.levels f.owners f.depths c.self.invariant c.args.self.now c.self.view_is) a.order.side (is_behind c.args.self.now.prices a.order.side a.order.spot) (is_wanted c.args.self.now.prices a.order.side (Some a.order)) c.behind.result same behind in
    next-after c.args.self.now (plain-now f.prices f.capacity f.buckets f.held f.levels f.owners f.depths c.self.invariant c.args.self.now c.self.view_is) c.args.handle a.order o c.behind.result (node-in f.prices f.capacity f.buckets f.held f.levels f.owners f.depths c.self.invariant c.args.self.now c.self.view_is c.args.handle a (node f.prices f.capacity f.buckets f.held f.levels f.owners f.depths c.self.invariant c.args.self.now c.self.view_is c.args.handle c.requires).1) (named f.prices f.capacity f.buckets f.held f.levels f.owners f.depths c.self.invariant c.args.self.now c.self.view_is c.args.handle c.requires) names finds

pub returns-in-None-clause-along : goal.returns-in-None-clause-along
unfolding AreFields book_of
returns-in-None-clause-along c side o before rest names parts =
    let f = c.self.inside in
    let is = read-is f.prices f.capacity f.buckets f.held f.levels f.owners f.depths c.self.invariant c.args.self.now c.self.view_is c.args.handle c.requires c.link.result c.item-filed.result c.link.ensures c.item-filed.ensures in
    let a = kept f.prices f.capacity f.buckets f.held f.levels f.owners f.depths c.self.invariant c.args.self.now c.self.view_is c.args.handle c.requires in
    let exact = c.next.ensures.exact (level_key a.order) c.args.handle ((subst (λ (y : Held). IsIn f.levels.lists y.filed.level (level_key (kept f.prices f.capacity f.buckets f.held f.levels f.owners f.depths c.self.invariant c.args.self.now c.self.view_is c.args.handle c.requires).order) c.args.handle) (sym is) (level-in f.prices f.capacity f.buckets f.held f.levels f.owners f.depths c.self.invariant c.args.self.now c.self.view_is c.args.handle c.requires))) in
    let same = next-none f.prices f.capacity f.buckets f.held f.levels f.owners f.depths c.self.invariant c.args.self.now c.self.view_is c.args.handle a (node f.prices f.capacity f.buckets f.held f.levels f.owners f.depths c.self.invariant c.args.self.now c.self.view_is c.args.handle c.requires).1 c.item-filed.result.filed.level (ap (λ (y : Held). y.filed.level) is) (sym c.in-None.is ∙ exact) in
    let behind = subst (λ (y : Held). FindsFirst c.args.self.now y.order.side (is_behind c.args.self.now.prices y.order.side y.order.spot) c.behind.result) is c.behind.ensures in
    let finds =
    same-finds c.args.self.now (plain-now f.prices f.capacity f.buckets f.held f.levels f.owners f.depths c.self.invariant c.args.self.now c.self.view_is) a.order.side (is_behind c.args.self.now.prices a.order.side a.order.spot) (is_wanted c.args.self.now.prices a.order.side (Some a.order)) c.behind.result same behind in
    next-along c.args.self.now (plain-now f.prices f.capacity f.buckets f.held f.levels f.owners f.depths c.self.invariant c.args.self.now c.self.view_is) c.args.handle a.order o c.behind.result (node-in f.prices f.capacity f.buckets f.held f.levels f.owners f.depths c.self.invariant c.args.self.now c.self.view_is c.args.handle a (node f.prices f.capacity f.buckets f.held f.levels f.owners f.depths c.self.invariant c.args.self.now c.self.view_is c.args.handle c.requires).1) (named f.prices f.capacity f.buckets f.held f.levels f.owners f.depths c.self.invariant c.args.self.now c.self.view_is c.args.handle c.requires) names finds side before rest parts
