use Rattle.std.proofs.Common.{◌≡◌, ◌<◌, List, length, sym, ◌∙◌, subst}
use Rattle.std.specs.List.{HoldsAt}
use Rattle.mkt_base.specs.declared.order.Order.{Order}
use Rattle.order_book.proofs.CallLemmas.{slot-index, sought}
use Rattle.order_book.proofs.PlainLemmas.{IsRising, rising}
use Rattle.order_book.proofs.plain.PlainBook.index.Goals as goal

pub index_of-requires-clause-rising : goal.index_of-requires-clause-rising
index_of-requires-clause-rising c =
    let fields = c.self.inside in
    subst IsRising (sym c.deref.ensures.value) (rising fields.prices fields.capacity fields.orders.items c.self.invariant.book)

pub index_of-requires-clause-there : goal.index_of-requires-clause-there
index_of-requires-clause-there c =
    let fields = c.self.inside in
    sought fields.prices fields.capacity fields.orders.items c.args.self.now c.self.view_is c.args.handle c.place.result c.deref.result.now c.requires c.place.ensures c.deref.ensures.value

pub returns : goal.returns
returns c =
    let fields = c.self.inside in
    let i = c.index_of.result in
    let same = c.deref.ensures.value in
    let found =
    slot-index fields.prices fields.capacity fields.orders.items c.args.self.now c.self.view_is c.args.handle i (subst (λ os. i < length os) same c.index_of.ensures.within)
    (subst (λ (os : List Order). HoldsAt (λ o. o.place ≡ c.args.handle) os i) same (λ d. c.index_of.ensures.there d ∙ c.place.ensures)) in
    record { within = found.0; there = found.1 }
