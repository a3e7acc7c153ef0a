use Rattle.std.proofs.Common.{◌≡◌, ◌++◌, refl, sym, ap, subst, ◌∙◌}
use Rattle.mkt_base.specs.Book.{price_at}
use Rattle.itayose.specs.Answer.{auction_outputs, outcome_of}
use Rattle.issue_book.specs.Holding.{is_pressed, tried_at}
use Rattle.issue_book.specs.IssueView.{in_state}
use Rattle.issue_book.proofs.HoldLemmas.{calm-still, filled-still, filled-traded, hold-still, told-still, told-traded}
use Rattle.issue_book.proofs.issue.IssueBook.hold.Goals as goal

pub returns-in_default : goal.returns-in_default
returns-in_default g c =
    let v = c.args.self.now in
    let w = c.args.window.now in
    let tried = tried_at v.terms.grid w in
    let answer = c.requires.answer.answer in
    let outcome = subst (λ x. c.certificate-outcome.result ≡ outcome_of x.terms.grid x.state.orders w.lo w.hi c.args.answer) c.self.view_is c.certificate-outcome.ensures.outcome ∙ answer in
    record {
      outcome = outcome;
      state = ap (λ m. in_state m.state v) (sym (hold-still v.terms tried v.state w.lo w.hi c.args.answer answer c.in_default.not-Traded));
      calm = λ none. calm-still v.terms tried v.state w.lo w.hi c.args.answer answer c.in_default.not-Traded (ap is_pressed (sym outcome) ∙ none);
      filled = λ caller own place keys. filled-still v.terms tried v.state caller own place w.lo w.hi c.args.answer answer c.in_default.not-Traded keys;
      told = λ from outputs h.
          told-still v.terms tried v.state g.W.Watch.took w.lo w.hi c.args.answer answer c.in_default.not-Traded from c.certificate-outcome.new.watch outputs
          (subst (λ o. g.W.Watch.took from (outputs ++ auction_outputs v.terms.grid v.state.orders tried.reference tried.lo tried.hi o) c.certificate-outcome.new.watch) outcome
          (subst (λ x. g.W.Watch.took from (outputs ++ auction_outputs x.terms.grid x.state.orders (price_at x.terms.grid w.reference) (price_at x.terms.grid w.lo) (price_at x.terms.grid w.hi) c.certificate-outcome.result) c.certificate-outcome.new.watch) c.self.view_is
          (c.certificate-outcome.ensures.told from outputs h)));
    }

pub returns-clause-filled : goal.returns-clause-filled
returns-clause-filled g c = λ caller own place keys.
    let v = c.args.self.now in
    let w = c.args.window.now in
    let traded = sym c.requires.answer.answer ∙ ap (outcome_of v.terms.grid v.state.orders w.lo w.hi) c.in-Traded.is in
    filled-traded v.terms (tried_at v.terms.grid w) v.state caller own place c.in-Traded.volume (price_at v.terms.grid c.in-Traded.at) traded (c.fill.ensures.filled caller own place refl keys)

pub returns-clause-told : goal.returns-clause-told
returns-clause-told g c = λ from outputs h.
    let v = c.args.self.now in
    let w = c.args.window.now in
    let tried = tried_at v.terms.grid w in
    let traded = sym c.requires.answer.answer ∙ ap (outcome_of v.terms.grid v.state.orders w.lo w.hi) c.in-Traded.is in
    let outcome = subst (λ x. c.certificate-outcome.result ≡ outcome_of x.terms.grid x.state.orders w.lo w.hi c.args.answer) c.self.view_is c.certificate-outcome.ensures.outcome ∙ c.requires.answer.answer in
    let told =
    subst (λ o. g.W.Watch.took from (outputs ++ auction_outputs v.terms.grid v.state.orders tried.reference tried.lo tried.hi o) c.certificate-outcome.new.watch) outcome
    (subst (λ x. g.W.Watch.took from (outputs ++ auction_outputs x.terms.grid x.state.orders (price_at x.terms.grid w.reference) (price_at x.terms.grid w.lo) (price_at x.terms.grid w.hi) c.certificate-outcome.result) c.certificate-outcome.new.watch) c.self.view_is
    (c.certificate-outcome.ensures.told from outputs h)) in
    told-traded v.terms tried v.state g.W.Watch.took c.in-Traded.volume (price_at v.terms.grid c.in-Traded.at) traded from c.fill.new.watch outputs (c.fill.ensures.told from _ told)
