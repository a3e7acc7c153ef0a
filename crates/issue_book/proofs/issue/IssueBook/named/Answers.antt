use Rattle.std.proofs.Common.{Some, sym, ap, subst, refl, ◌∙◌}
use Rattle.std.specs.List.{find}
use Rattle.std.specs.Option.{IsSome}
use Rattle.book_law.specs.BookView.{is_of}
use Rattle.itayose.proofs.TradingLemmas.{names-one}
use Rattle.issue_book.proofs.issue.IssueBook.named.Goals as goal

pub order-requires : goal.order-requires
order-requires c = subst (λ o. IsSome o) (sym c.in-Some.ensures.some.names) refl

pub returns-in-Some : goal.returns-in-Some
returns-in-Some c =
    let h = c.in-Some.ensures.some in
    ap (λ o. Some o) (names-one c.self.inside.book c.in-Some.handle c.order.result h.order c.order.ensures h.names) ∙ sym h.found
    ∙ ap (λ v. find (is_of c.args.caller c.args.own) v.state.orders) c.self.view_is

pub returns-in-None : goal.returns-in-None
returns-in-None c = sym c.in-None.ensures.none ∙ ap (λ v. find (is_of c.args.caller c.args.own) v.state.orders) c.self.view_is
