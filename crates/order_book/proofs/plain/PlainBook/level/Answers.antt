use Rattle.std.proofs.Common.{◌≤◌, List, sym, ◌∙◌, ap, subst}
use Rattle.std.specs.List.{All}
use Rattle.mkt_base.specs.Book.{total_left}
use Rattle.mkt_base.specs.Priority.{is_on_level}
use Rattle.mkt_base.specs.declared.order.Order.{Order}
use Rattle.order_book.proofs.CallLemmas.{same-orders}
use Rattle.order_book.proofs.PlainLemmas.{within-limit}
use Rattle.order_book.proofs.plain.PlainBook.level.Goals as goal

pub total-requires-clause-limit : goal.total-requires-clause-limit
total-requires-clause-limit c =
    let fields = c.self.inside in
    subst (λ (os : List Order). All (λ o. o.left ≤ 100000000) os) (sym c.deref.ensures.value) (within-limit fields.prices fields.capacity fields.orders.items c.self.invariant.book)

pub returns : goal.returns
returns c =
    let fields = c.self.inside in
    c.total.ensures ∙ ap (total_left (is_on_level c.args.side c.args.spot)) (c.deref.ensures.value ∙ same-orders fields.prices fields.capacity fields.orders.items c.args.self.now c.self.view_is)
