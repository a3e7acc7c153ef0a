use Rattle.std.proofs.Common.{subst, Option}
use Rattle.session_phase.specs.declared.session.Boundary.{Boundary}
use Rattle.issue_machine.specs.Advancing.{IsBoundaryNext, IsNext, IsQuoteNext}
use Rattle.issue_machine.proofs.AdvanceLemmas.{boundary-done, quote-done}
use Rattle.issue_machine.proofs.clock.advance.Goals as goal

pub returns-in-Some : goal.returns-in-Some
returns-in-Some g c =
    let v = c.args.floor.now in
    let next : IsBoundaryNext v.terms c.args.passed c.args.to v.state c.in_ok-step.step.at c.in-Some.boundary =
    subst (λ (o : Option Boundary). IsNext v.terms c.args.passed c.args.to v.state c.in_ok-step.step.at o) c.in-Some.is c.in_ok-step.ensures in
    boundary-done g.W.Watch.took v c.at_boundary.new.self c.args.passed c.args.to c.in_ok-step.step.at c.in-Some.boundary c.args.watch.now c.at_boundary.new.watch
    c.stands.ensures.issue.terms.sessions c.requires next (record { state = c.at_boundary.ensures.state; told = c.at_boundary.ensures.told })

pub returns-in-None : goal.returns-in-None
returns-in-None g c =
    let v = c.args.floor.now in
    let next : IsQuoteNext v.terms c.args.passed c.args.to v.state c.in_ok-step.step.at =
    subst (λ (o : Option Boundary). IsNext v.terms c.args.passed c.args.to v.state c.in_ok-step.step.at o) c.in-None.is c.in_ok-step.ensures in
    quote-done g.W.Watch.took v c.serve.new.self c.args.passed c.args.to c.in_ok-step.step.at next.quote c.args.watch.now c.serve.new.watch c.stands.ensures.quote c.requires next.shown next.moment next.due
    next.upto next.ahead (record { state = c.serve.ensures.state next.quote next.shown; told = c.serve.ensures.told next.quote next.shown })
