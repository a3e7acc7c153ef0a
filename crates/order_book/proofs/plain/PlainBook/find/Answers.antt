use Rattle.std.proofs.Common.{◌∙◌, ap}
use Rattle.std.specs.List.{find}
use Rattle.std.specs.Option.{option_map}
use Rattle.mkt_base.specs.declared.order.Order.{Order}
use Rattle.book_law.specs.BookView.{is_of}
use Rattle.order_book.proofs.CallLemmas.{own-handle}
use Rattle.order_book.proofs.plain.PlainBook.find.Goals as goal

pub returns : goal.returns
returns c =
    let fields = c.self.inside in
    let own = is_of c.args.caller c.args.own in
    c.of.ensures ∙ ap (option_map (λ (o : Order). o.place)) (c.with_own.ensures ∙ ap (find own) c.deref.ensures.value)
    ∙ own-handle fields.prices fields.capacity fields.orders.items c.args.self.now c.self.view_is own
