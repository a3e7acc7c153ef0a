use Rattle.std.proofs.Common.{◌≡◌, ℕ, ◌<◌, ◌≤◌, List, Option, None, Some, sym, ap, subst, ◌∙◌}
use Rattle.std.specs.Option.{IfSome}
use Rattle.std.proofs.lemmas.Map.Keys.{le_from_is_le}
use Rattle.session_phase.specs.Sessions.{next_boundary}
use Rattle.session_phase.specs.declared.session.Boundary.{Boundary}
use Rattle.session_phase.specs.declared.session.Session.{Session}
use Rattle.issue_machine.proofs.BoundaryLemmas.{first-boundary, gt-from, no-boundary}
use Rattle.issue_machine.proofs.clock.boundary_due.Goals as goal

pub returns-in_default : goal.returns-in_default
returns-in_default c =
    let v = c.args.floor.now in
    let none : next_boundary v.terms.sessions c.args.passed ≡ None = ap (λ (ss : List Session). next_boundary ss c.args.passed) (sym c.sessions.ensures) ∙ sym c.next_due.ensures ∙ c.in_default.is in
    no-boundary v.terms c.args.passed c.args.to c.stands.ensures.issue.terms.sessions c.requires (subst (λ (o : Option (ℕ × Boundary)). IfSome o (λ b. c.args.to < b.0)) (sym none) tt)

pub returns-then-le : goal.returns-then-le
returns-then-le c =
    let v = c.args.floor.now in
    let next : next_boundary v.terms.sessions c.args.passed ≡ Some c.in-Some.next = ap (λ (ss : List Session). next_boundary ss c.args.passed) (sym c.sessions.ensures) ∙ sym c.next_due.ensures ∙ c.in-Some.is in
    let upto : c.in-Some.next.0 ≤ c.args.to = le_from_is_le c.in-Some.next.0 c.args.to (sym c.le.ensures ∙ c.if-le.true) in
    first-boundary v.terms c.args.passed c.args.to c.in-Some.next c.stands.ensures.issue.terms.sessions next upto

pub returns-else-le : goal.returns-else-le
returns-else-le c =
    let v = c.args.floor.now in
    let next : next_boundary v.terms.sessions c.args.passed ≡ Some c.in-Some.next = ap (λ (ss : List Session). next_boundary ss c.args.passed) (sym c.sessions.ensures) ∙ sym c.next_due.ensures ∙ c.in-Some.is in
    let beyond : c.args.to < c.in-Some.next.0 = gt-from c.in-Some.next.0 c.args.to (sym c.le.ensures ∙ c.if-le.false) in
    no-boundary v.terms c.args.passed c.args.to c.stands.ensures.issue.terms.sessions c.requires (subst (λ (o : Option (ℕ × Boundary)). IfSome o (λ b. c.args.to < b.0)) (sym next) beyond)
