use Rattle.std.proofs.Common.{◌≡◌, ◌++◌, ◌<◌, true, false, length, IsTrue, append-nil, sym, ap, subst, ◌∙◌}
use Rattle.mkt_base.specs.Book.{price_at}
use Rattle.auction_law.specs.Attempt.{IsAuction}
use Rattle.itayose.specs.Answer.{outcome_of}
use Rattle.itayose.specs.Fills.{is_longer}
use Rattle.issue_book.specs.Closing.{end_of}
use Rattle.issue_book.specs.Holding.{tried_at}
use Rattle.issue_book.specs.IssueView.{in_state}
use Rattle.issue_book.specs.Quoting.{answer_at}
use Rattle.issue_book.specs.Sessions.{is_allotted}
use Rattle.issue_book.proofs.CloseLemmas.{close-left, close-shared, limit-there, presses}
use Rattle.issue_book.proofs.FieldLemmas.{auction}
use Rattle.issue_book.proofs.issue.IssueBook.fill_close.Goals as goal

pub fill-requires-clause-meets : goal.fill-requires-clause-meets
fill-requires-clause-meets g c = c.requires.answer.meets c.in-Traded.at c.in-Traded.volume c.in-Traded.is

pub returns-then-not-is_allotted : goal.returns-then-not-is_allotted
returns-then-not-is_allotted g c =
    let v = c.args.self.now in
    let f = c.self.inside in
    let w = c.args.window.now in
    let side = c.in-Pressed.side in
    let answer = answer_at v.terms (tried_at v.terms.grid w) v.state in
    let is = subst (λ a. outcome_of v.terms.grid v.state.orders w.lo w.hi a ≡ answer) c.in-Pressed.is c.requires.answer.answer in
    let said = sym (c.is_allotted.ensures v.terms v.state (sym (ap (λ x. x.terms.grid) c.self.view_is)) (sym (ap (λ x. x.state.orders) c.self.view_is))) ∙ c.if-not-is_allotted.true in
    let at = subst (λ x. is_allotted v.terms side (price_at x.terms.grid (end_of side w)) v.state ≡ false) c.self.view_is
    (subst (λ n. is_allotted v.terms side (price_at f.grid n) v.state ≡ false) c.end_of.ensures said) in
    let still = close-left v.terms v.state w side answer is at in
    record {
      state = ap (λ m. in_state m.state v) (sym still);
      told = λ from outputs h.
          subst (λ m. g.W.Watch.took from (outputs ++ m.outputs) c.args.watch.now) (sym still) (subst (λ xs. g.W.Watch.took from xs c.args.watch.now) (sym (append-nil outputs)) h);
    }

pub share_out-requires : goal.share_out-requires
share_out-requires g c =
    let v = c.args.self.now in
    let f = c.self.inside in
    let w = c.args.window.now in
    let side = c.in-Pressed.side in
    let answer = answer_at v.terms (tried_at v.terms.grid w) v.state in
    let is = subst (λ a. outcome_of v.terms.grid v.state.orders w.lo w.hi a ≡ answer) c.in-Pressed.is c.requires.answer.answer in
    let said = sym (c.is_allotted.ensures v.terms v.state (sym (ap (λ x. x.terms.grid) c.self.view_is)) (sym (ap (λ x. x.state.orders) c.self.view_is))) ∙ c.if-not-is_allotted.false in
    let at = subst (λ x. is_allotted v.terms side (price_at x.terms.grid (end_of side w)) v.state ≡ true) c.self.view_is
    (subst (λ n. is_allotted v.terms side (price_at f.grid n) v.state ≡ true) c.end_of.ensures said) in
    let inside = subst (λ x. w.hi < length x.terms.grid) (sym c.self.view_is) c.requires.window.inside in
    let held = subst (λ x. IsAuction x.terms.grid x.state.orders w.reference w.lo w.hi) c.self.view_is
    (auction f w.reference w.lo w.hi c.stands.ensures.book c.self.invariant c.stands-2.ensures.rising c.requires.window.lo c.requires.window.hi inside) in
    subst (λ p. IsTrue (is_longer v.terms.grid v.state.orders p side)) (limit-there v.terms v.state w side answer is at) (presses v.terms v.state w side held is)

pub returns : goal.returns
returns g c =
    let v = c.args.self.now in
    let f = c.self.inside in
    let w = c.args.window.now in
    let side = c.in-Pressed.side in
    let answer = answer_at v.terms (tried_at v.terms.grid w) v.state in
    let is = subst (λ a. outcome_of v.terms.grid v.state.orders w.lo w.hi a ≡ answer) c.in-Pressed.is c.requires.answer.answer in
    let said = sym (c.is_allotted.ensures v.terms v.state (sym (ap (λ x. x.terms.grid) c.self.view_is)) (sym (ap (λ x. x.state.orders) c.self.view_is))) ∙ c.if-not-is_allotted.false in
    let at = subst (λ x. is_allotted v.terms side (price_at x.terms.grid (end_of side w)) v.state ≡ true) c.self.view_is
    (subst (λ n. is_allotted v.terms side (price_at f.grid n) v.state ≡ true) c.end_of.ensures said) in
    let shared = close-shared v.terms v.state w side answer is at in
    record {
      state = c.share_out.ensures.state ∙ ap (λ m. in_state m.state v) (sym shared);
      told = λ from outputs h. subst (λ m. g.W.Watch.took from (outputs ++ m.outputs) c.share_out.new.watch) (sym shared) (c.share_out.ensures.told from outputs h);
    }
