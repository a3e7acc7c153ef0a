-- The moves that end with a quote, from what was tried.
use Rattle.std.proofs.Common.{◌≡◌, Bool, true, false, Option, None, Some, refl, sym, ap, subst, ◌∙◌}
use Rattle.mkt_base.specs.declared.auction.Outcome.{Outcome}
use Rattle.mkt_base.specs.declared.order.Side.{Side}
use Rattle.mkt_base.specs.declared.quote.Quote.{Quote}
use Rattle.itayose.specs.Answer.{outcome_of}
use Rattle.itayose.specs.declared.positions.Attempt.{Attempt}
use Rattle.quote_law.specs.Quotes.{after_event, at_due, opposite}
use Rattle.issue_book.specs.Holding.{IsAnswer, IsOver, tried_at}
use Rattle.issue_book.specs.IssueView.{IssueView}
use Rattle.issue_book.specs.Quoting.{Tried, answer_at, due_by, held, hold_at, is_trading, moved, new_special, presses, serve, served, show_quote, tried, tried_by, try_quote, try_shown}
use Rattle.issue_book.specs.State.{State, Terms, stay, ◌then◌}
use Rattle.issue_book.specs.declared.window.Window.{Window}

-- ---- a quote that is tried after an event

tried-pressed : (t : Terms) (q : Quote) (w : Tried) (s : State) (outcome : Outcome) → presses q.side outcome ≡ true → tried t q w s outcome ≡ stay s
tried-pressed t q w s outcome e = rw e refl

tried-held : (t : Terms) (q : Quote) (w : Tried) (s : State) (outcome : Outcome) → presses q.side outcome ≡ false
    → tried t q w s outcome ≡ (held t w outcome s then show_quote (after_event q outcome (new_special t (opposite q.side) s)))
tried-held t q w s outcome e = rw e refl

-- what is tested of the answer in positions is so of the outcome
pressed-is : (v : IssueView) (q : Quote) (w : Window) (a : Attempt) (pressed : Bool) → IsAnswer v w a
    → pressed ≡ presses q.side (outcome_of v.terms.grid v.state.orders w.lo w.hi a)
    → presses q.side (answer_at v.terms (tried_at v.terms.grid w) v.state) ≡ pressed
pressed-is v q w a pressed answer tests = sym (tests ∙ ap (presses q.side) answer.answer)

pub try-pressed : (v : IssueView) (q : Quote) (w : Window) (a : Attempt) (pressed : Bool)
    → IsOver v.terms.grid (tried_by v.terms q v.state) w → IsAnswer v w a
    → pressed ≡ presses q.side (outcome_of v.terms.grid v.state.orders w.lo w.hi a) → pressed ≡ true → try_shown v.terms q v.state ≡ stay v.state
try-pressed v q w a pressed over answer tests e =
    subst (λ (y : Tried). tried v.terms q y v.state (answer_at v.terms y v.state) ≡ stay v.state) over.exact
    (tried-pressed v.terms q (tried_at v.terms.grid w) v.state _ (pressed-is v q w a pressed answer tests ∙ e))

pub try-held : (v : IssueView) (q : Quote) (w : Window) (a : Attempt) (pressed : Bool) (outcome : Outcome) (side : Side) (fresh : Quote) (x : Option Quote)
    → IsOver v.terms.grid (tried_by v.terms q v.state) w → IsAnswer v w a
    → pressed ≡ presses q.side (outcome_of v.terms.grid v.state.orders w.lo w.hi a) → pressed ≡ false
    → outcome ≡ answer_at v.terms (tried_at v.terms.grid w) v.state → side ≡ opposite q.side → fresh ≡ new_special v.terms side v.state
    → x ≡ after_event q outcome fresh → try_shown v.terms q v.state ≡ (hold_at v.terms (tried_at v.terms.grid w) v.state then show_quote x)
try-held v q w a pressed outcome side fresh x over answer tests e is other begins shows =
    subst (λ (y : Tried). tried v.terms q y v.state (answer_at v.terms y v.state) ≡ (hold_at v.terms (tried_at v.terms.grid w) v.state then show_quote x)) over.exact
    (rw (shows, begins, other, is) (tried-held v.terms q (tried_at v.terms.grid w) v.state _ (pressed-is v q w a pressed answer tests ∙ e)))

pub try-idle : (t : Terms) (s : State) → is_trading s.phase ≡ false → try_quote t s ≡ stay s
try-idle t s e = rw e refl

pub try-none : (t : Terms) (s : State) → is_trading s.phase ≡ true → s.quote ≡ None → try_quote t s ≡ stay s
try-none t s e quote = rw (e, quote) refl

pub try-some : (t : Terms) (q : Quote) (s : State) → is_trading s.phase ≡ true → s.quote ≡ Some q → try_quote t s ≡ try_shown t q s
try-some t q s e quote = rw e (rw quote refl)

-- ---- a quote that is served

pub serve-held : (v : IssueView) (q : Quote) (w : Window) (outcome : Outcome) (side : Side) (own fresh : Quote) (x : Option Quote)
    → IsOver v.terms.grid (due_by v.terms q v.state) w → outcome ≡ answer_at v.terms (tried_at v.terms.grid w) v.state → own ≡ moved v.terms q v.state
    → side ≡ opposite q.side → fresh ≡ new_special v.terms side v.state → x ≡ at_due q outcome own fresh
    → serve v.terms q v.state ≡ (hold_at v.terms (tried_at v.terms.grid w) v.state then show_quote x)
serve-held v q w outcome side own fresh x over is moves other begins shows =
    subst (λ (y : Tried). served v.terms q y v.state (answer_at v.terms y v.state) ≡ (hold_at v.terms (tried_at v.terms.grid w) v.state then show_quote x)) over.exact
    (rw (shows, moves, begins, other, is) refl)
