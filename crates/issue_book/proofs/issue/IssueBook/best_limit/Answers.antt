use Rattle.std.proofs.Common.{◌<◌, length, Some, sym, ap, subst, ◌∙◌}
use Rattle.std.specs.Option.{IfSome, option_map}
use Rattle.auction_law.specs.Attempt.{best_ask, best_bid}
use Rattle.itayose.specs.Answer.{price_there}
use Rattle.issue_book.proofs.LimitLemmas.{ask-told, bid-told, limit-inside}
use Rattle.issue_book.proofs.issue.IssueBook.best_limit.Goals as goal

pub price-requires : goal.price-requires
price-requires c =
    let f = c.self.inside in
    subst (λ o. IfSome o (λ i. i < length f.grid)) (sym c.first_limit.ensures ∙ c.in-Some.is)
    (limit-inside f.book c.stands.ensures.book f.grid (record { rising = c.stands-2.ensures.rising; size = c.self.invariant.size }) c.args.side)

pub returns-in-Some-clause-buy : goal.returns-in-Some-clause-buy
returns-in-Some-clause-buy c = λ side.
    let f = c.self.inside in
    let found = bid-told f.book c.stands.ensures.book f.grid (record { rising = c.stands-2.ensures.rising; size = c.self.invariant.size }) c.args.side c.first_limit.result c.first_limit.ensures side in
    ap (λ n. Some (record { 0 = n })) c.price.ensures.value ∙ ap (option_map (price_there f.grid)) (sym c.in-Some.is) ∙ found ∙ ap (λ v. best_bid v.terms.grid v.state.orders) c.self.view_is

pub returns-in-Some-clause-sell : goal.returns-in-Some-clause-sell
returns-in-Some-clause-sell c = λ side.
    let f = c.self.inside in
    let found = ask-told f.book c.stands.ensures.book f.grid (record { rising = c.stands-2.ensures.rising; size = c.self.invariant.size }) c.args.side c.first_limit.result c.first_limit.ensures side in
    ap (λ n. Some (record { 0 = n })) c.price.ensures.value ∙ ap (option_map (price_there f.grid)) (sym c.in-Some.is) ∙ found ∙ ap (λ v. best_ask v.terms.grid v.state.orders) c.self.view_is

pub returns-in-None-clause-buy : goal.returns-in-None-clause-buy
returns-in-None-clause-buy c = λ side.
    let f = c.self.inside in
    let found = bid-told f.book c.stands.ensures.book f.grid (record { rising = c.stands-2.ensures.rising; size = c.self.invariant.size }) c.args.side c.first_limit.result c.first_limit.ensures side in
    ap (option_map (price_there f.grid)) (sym c.in-None.is) ∙ found ∙ ap (λ v. best_bid v.terms.grid v.state.orders) c.self.view_is

pub returns-in-None-clause-sell : goal.returns-in-None-clause-sell
returns-in-None-clause-sell c = λ side.
    let f = c.self.inside in
    let found = ask-told f.book c.stands.ensures.book f.grid (record { rising = c.stands-2.ensures.rising; size = c.self.invariant.size }) c.args.side c.first_limit.result c.first_limit.ensures side in
    ap (option_map (price_there f.grid)) (sym c.in-None.is) ∙ found ∙ ap (λ v. best_ask v.terms.grid v.state.orders) c.self.view_is
