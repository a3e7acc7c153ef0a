use Rattle.std.proofs.Common.{◌≡◌, ◌-◌, ◌%◌, ◌<◌, ◌≤◌, map, Some, sym, ap, subst, refl, ◌∙◌, arith}
use Rattle.std.specs.List.{All}
use Rattle.std.specs.Option.{IsSome}
use Rattle.book_law.specs.BookView.{orders, reduced}
use Rattle.itayose.proofs.TradingLemmas.{names-one}
use Rattle.issue_book.specs.Entering.{lowered, named}
use Rattle.issue_book.specs.Fields.{IsInUnits}
use Rattle.issue_book.proofs.CalmLemmas.{calm-lowered}
use Rattle.issue_book.proofs.FieldLemmas.{calm-seen, keeps, lowered-units, seen-as}
use Rattle.issue_book.proofs.issue.IssueBook.lower.Goals as goal

pub unreachable-requires : goal.unreachable-requires
unreachable-requires c =
    absurd (cc (subst (λ o. IsSome o) c.in_default.ensures.none (subst (λ v. IsSome (named c.args.caller c.args.own v.state)) (sym c.self.view_is) c.requires.named)))

pub order-left-requires : goal.order-left-requires
order-left-requires c = subst (λ o. IsSome o) (sym c.in-Some.ensures.some.names) refl

pub overflow_sub-left : goal.overflow_sub-left
overflow_sub-left c =
    let h = c.in-Some.ensures.some in
    let same = names-one c.self.inside.book c.in-Some.handle c.order-left.result h.order c.order-left.ensures h.names in
    let less : c.args.qty < c.order-left.result.left =
    c.requires.less c.order-left.result (sym (ap (λ v. named c.args.caller c.args.own v.state) c.self.view_is) ∙ h.found ∙ ap (λ o. Some o) (sym same)) in
    omega arith

pub reduce-requires-clause-less : goal.reduce-requires-clause-less
reduce-requires-clause-less c = λ o names.
    let same : o ≡ c.order-left.result = names-one c.self.inside.book c.in-Some.handle o c.order-left.result names c.order-left.ensures in
    let left : o.left ≡ c.order-left.result.left = ap (λ x. x.left) same in
    let h = c.in-Some.ensures.some in
    let found = names-one c.self.inside.book c.in-Some.handle c.order-left.result h.order c.order-left.ensures h.names in
    let some : 1 ≤ c.args.qty = c.requires.some in
    let less : c.args.qty < c.order-left.result.left =
    c.requires.less c.order-left.result (sym (ap (λ v. named c.args.caller c.args.own v.state) c.self.view_is) ∙ h.found ∙ ap (λ x. Some x) (sym found)) in
    omega arith

-- what is left of the orders
out : (c : goal.After-reduce) → orders c.reduce.new.self ≡ map (lowered c.args.caller c.args.own c.args.qty) (orders c.self.inside.book)
out c =
    let h = c.in-Some.ensures.some in
    let same : c.order-left.result ≡ h.order = names-one c.self.inside.book c.in-Some.handle c.order-left.result h.order c.order-left.ensures h.names in
    let less : c.args.qty < h.order.left = c.requires.less h.order (sym (ap (λ v. named c.args.caller c.args.own v.state) c.self.view_is) ∙ h.found) in
    ap (λ b. orders b) c.reduce.ensures
    ∙ ap (λ o. orders (reduced c.in-Some.handle (o.left - c.args.qty) c.self.inside.book)) same ∙ h.lowers c.args.qty less

pub invariant_of-self : goal.invariant_of-self
invariant_of-self c =
    let f = c.self.inside in
    keeps f c.reduce.new.self c.self.invariant (ap (λ b. b.prices) c.reduce.ensures)
    (subst (All (IsInUnits f.unit)) (sym (out c))
    (lowered-units f.unit c.args.caller c.args.own c.args.qty (orders f.book) (ap (λ v. c.args.qty % v.terms.unit) c.self.view_is ∙ c.requires.units) c.self.invariant.units))

pub returns-clause-state : goal.returns-clause-state
returns-clause-state c =
    seen-as c.self.inside c.reduce.new.self c.args.self.now (map (lowered c.args.caller c.args.own c.args.qty)) c.self.view_is (out c) (ap (λ b. b.capacity) c.reduce.ensures)

pub returns-clause-calm : goal.returns-clause-calm
returns-clause-calm c =
    calm-seen c.self.inside c.reduce.new.self c.args.self.now (map (lowered c.args.caller c.args.own c.args.qty)) c.self.view_is (out c)
    (calm-lowered c.self.inside.grid (λ o. (lowered c.args.caller c.args.own c.args.qty o).left))
