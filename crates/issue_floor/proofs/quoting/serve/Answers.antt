use Rattle.std.proofs.Common.{◌≡◌, ◌++◌, ◌∷◌, [], true, List, sym, ap, subst, ◌∙◌}
use Rattle.mkt_base.specs.declared.output.Output.{Output}
use Rattle.mkt_base.specs.declared.output.Output.TheVariants.{Due}
use Rattle.quote_law.specs.Quotes.{IsToward}
use Rattle.issue_book.specs.Holding.{tried_at}
use Rattle.issue_book.specs.IssueView.{IssueView}
use Rattle.issue_book.specs.Quoting.{is_trading, serve}
use Rattle.issue_book.specs.State.{Move}
use Rattle.issue_floor.proofs.FloorLemmas.{floor-held, moved-shown, shown-of, special-shown}
use Rattle.issue_floor.proofs.QuotedLemmas.{serve-held}
use Rattle.issue_floor.proofs.ToldLemmas.{told-due, told-then}
use Rattle.issue_floor.proofs.quoting.serve.Goals as goal

pub returns-clause-told : goal.returns-clause-told
returns-clause-told g c = λ from outputs h.
    let v = c.set_clock.new.self in
    let q = c.args.quote.now in
    let is = serve-held v q c.due_by-window.result c.hold-outcome.result c.opposite.result c.moved-moved.result c.new_special-fresh.result c.at_due.result c.due_by-window.ensures c.hold-outcome.ensures.outcome c.moved-moved.ensures.exact
    c.opposite.ensures c.new_special-fresh.ensures.exact c.at_due.ensures in
    let told : List Output = outputs ++ Due c.args.at ∷ [] in
    told-due g.W.Watch.took from c.show_quote.new.watch outputs c.args.at c.args.book.now v (λ t. serve t q) c.set_clock.ensures
    (subst (λ (m : Move). g.W.Watch.took from (told ++ m.outputs) c.show_quote.new.watch) (sym is)
    (told-then g.W.Watch.took from c.show_quote.new.watch told _ _ (c.show_quote.ensures.told from _ (c.hold-outcome.ensures.told from told (c.due.ensures from outputs h)))))

pub returns-clause-floor : goal.returns-clause-floor
returns-clause-floor g c =
    let v = c.set_clock.new.self in
    let q = c.args.quote.now in
    let before = shown-of c.args.book.now q c.requires.floor c.requires.shown in
    let trading : is_trading v.state.phase ≡ true = ap (λ (x : IssueView). is_trading x.state.phase) c.set_clock.ensures ∙ before.trading in
    let here : IsToward q.side v.state.last q.price.0 = subst (λ (x : IssueView). IsToward q.side x.state.last q.price.0) (sym c.set_clock.ensures) before.toward in
    let own = c.moved-moved.ensures in
    let other = c.new_special-fresh.ensures in
    floor-held v c.hold-outcome.new.self c.show_quote.new.self (tried_at v.terms.grid c.due_by-window.result) q c.moved-moved.result c.new_special-fresh.result c.hold-outcome.result c.at_due.result c.stands.ensures c.hold-outcome.ensures.outcome
    c.hold-outcome.ensures.state c.at_due.ensures c.show_quote.ensures.state c.hold-outcome.ensures.calm (moved-shown v q c.moved-moved.result trading here own.exact own.on_grid own.toward own.due)
    (special-shown v c.opposite.result c.new_special-fresh.result trading other.exact other.on_grid other.toward other.due)
