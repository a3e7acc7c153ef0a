use Rattle.std.proofs.Common.{◌++◌, [], ◌∷◌, sym, subst}
use Rattle.mkt_base.specs.declared.output.Output.TheVariants.{Due}
use Rattle.session_phase.specs.declared.session.Boundary.{Boundary}
use Rattle.issue_book.specs.Sessions.{at_boundary}
use Rattle.issue_floor.proofs.ToldLemmas.{told-due}
use Rattle.issue_floor.proofs.boundaries.at_boundary.Goals as goal

pub returns-in-Accept-clause-told : goal.returns-in-Accept-clause-told
returns-in-Accept-clause-told g c = λ from outputs h.
    let v = c.set_clock.new.self in
    let to = c.accept_orders.new.watch in
    told-due g.W.Watch.took from to outputs c.args.at c.args.book.now v (λ t. at_boundary t c.args.boundary) c.set_clock.ensures
    (subst (λ (b : Boundary). g.W.Watch.took from ((outputs ++ Due c.args.at ∷ []) ++ (at_boundary v.terms b v.state).outputs) to) (sym c.in-Accept.is) (c.accept_orders.ensures.told from _ (c.due.ensures from outputs h)))

pub returns-in-Begin-clause-told : goal.returns-in-Begin-clause-told
returns-in-Begin-clause-told g c = λ from outputs h.
    let v = c.set_clock.new.self in
    let to = c.open_trading.new.watch in
    told-due g.W.Watch.took from to outputs c.args.at c.args.book.now v (λ t. at_boundary t c.args.boundary) c.set_clock.ensures
    (subst (λ (b : Boundary). g.W.Watch.took from ((outputs ++ Due c.args.at ∷ []) ++ (at_boundary v.terms b v.state).outputs) to) (sym c.in-Begin.is) (c.open_trading.ensures.told from _ (c.due.ensures from outputs h)))

pub returns-in-Finish-clause-told : goal.returns-in-Finish-clause-told
returns-in-Finish-clause-told g c = λ from outputs h.
    let v = c.set_clock.new.self in
    let to = c.close_trading.new.watch in
    told-due g.W.Watch.took from to outputs c.args.at c.args.book.now v (λ t. at_boundary t c.args.boundary) c.set_clock.ensures
    (subst (λ (b : Boundary). g.W.Watch.took from ((outputs ++ Due c.args.at ∷ []) ++ (at_boundary v.terms b v.state).outputs) to) (sym c.in-Finish.is) (c.close_trading.ensures.told from _ (c.due.ensures from outputs h)))
