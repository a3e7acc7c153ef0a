use Rattle.std.proofs.Common.{not, filter, sym, ap, subst, refl, ◌∙◌}
use Rattle.std.specs.List.{All}
use Rattle.std.specs.Option.{IsSome}
use Rattle.std.proofs.lemmas.List.Elements.{All-filter}
use Rattle.book_law.specs.BookView.{is_of, orders}
use Rattle.issue_book.specs.Entering.{named}
use Rattle.issue_book.specs.Fields.{IsInUnits}
use Rattle.issue_book.proofs.CalmLemmas.{calm-kept}
use Rattle.issue_book.proofs.FieldLemmas.{calm-seen, keeps, seen-as}
use Rattle.issue_book.proofs.issue.IssueBook.take_out.Goals as goal

pub unreachable-requires : goal.unreachable-requires
unreachable-requires c =
    absurd (cc (subst (λ o. IsSome o) c.in_default.ensures.none (subst (λ v. IsSome (named c.args.caller c.args.own v.state)) (sym c.self.view_is) c.requires)))

pub remove-requires : goal.remove-requires
remove-requires c = subst (λ o. IsSome o) (sym c.in-Some.ensures.some.names) refl

pub invariant_of-self : goal.invariant_of-self
invariant_of-self c =
    let f = c.self.inside in
    let out = ap (λ b. orders b) c.remove.ensures.book ∙ c.in-Some.ensures.some.out in
    keeps f c.remove.new.self c.self.invariant (ap (λ b. b.prices) c.remove.ensures.book)
    (subst (All (IsInUnits f.unit)) (sym out) (All-filter (λ o. not (is_of c.args.caller c.args.own o)) (IsInUnits f.unit) (orders f.book) c.self.invariant.units))

pub returns-clause-state : goal.returns-clause-state
returns-clause-state c =
    seen-as c.self.inside c.remove.new.self c.args.self.now (filter (λ o. not (is_of c.args.caller c.args.own o))) c.self.view_is
    (ap (λ b. orders b) c.remove.ensures.book ∙ c.in-Some.ensures.some.out) (ap (λ b. b.capacity) c.remove.ensures.book)

pub returns-clause-calm : goal.returns-clause-calm
returns-clause-calm c =
    calm-seen c.self.inside c.remove.new.self c.args.self.now (filter (λ o. not (is_of c.args.caller c.args.own o))) c.self.view_is
    (ap (λ b. orders b) c.remove.ensures.book ∙ c.in-Some.ensures.some.out) (calm-kept c.self.inside.grid (λ o. not (is_of c.args.caller c.args.own o)))
