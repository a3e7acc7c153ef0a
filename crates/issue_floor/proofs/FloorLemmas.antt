-- What holds of the trading of an issue after an attempt that was held for its quote.
use Rattle.std.proofs.Common.{◌≡◌, ◌<◌, ℕ, Bool, true, false, Option, None, Some, IsTrue, refl, sym, ap, subst, arith}
use Rattle.std.specs.Bool.{if◌then◌else◌}
use Rattle.std.specs.Prelude.{IfSome}
use Rattle.mkt_base.specs.Priority.{is_same_side}
use Rattle.mkt_base.specs.declared.auction.Outcome.{Outcome}
use Rattle.mkt_base.specs.declared.auction.Outcome.TheVariants.{Traded, Calm, Pressed}
use Rattle.mkt_base.specs.declared.order.Side.{Side}
use Rattle.mkt_base.specs.declared.order.Side.TheVariants.{Buy, Sell}
use Rattle.mkt_base.specs.declared.quote.Quote.{Quote}
use Rattle.auction_law.specs.Attempt.{is_calm}
use Rattle.quote_law.specs.Quotes.{IsOn, IsToward, answered}
use Rattle.issue_book.specs.Holding.{is_pressed}
use Rattle.issue_book.specs.IssueView.{IsIssue, IssueView, in_state}
use Rattle.issue_book.specs.Quoting.{Tried, answer_at, held, hold_at, is_trading, moved, new_special, show_quote}
use Rattle.issue_book.specs.State.{Terms}
use Rattle.issue_floor.specs.Floor.{IsFloor, IsShown}

pub shown-of : (v : IssueView) (q : Quote) → IsFloor v → v.state.quote ≡ Some q → IsShown v.terms v.state q
shown-of v q floor e = subst (λ (x : Option Quote). IfSome x (IsShown v.terms v.state)) e floor.quote

-- ---- quotes that would stand

-- to the same way twice
toward-on : (side : Side) (a b c : ℕ) → IsToward side a b → IsToward side b c → IsToward side a c
toward-on Buy a b c h k = omega arith
toward-on Sell a b c h k = omega arith

pub moved-shown : (v : IssueView) (q x : Quote) → is_trading v.state.phase ≡ true → IsToward q.side v.state.last q.price.0 → x ≡ moved v.terms q v.state → IsOn v.terms.grid x
    → IsToward q.side q.price.0 x.price.0 → IfSome x.due (λ d. (v.state.now < d) × (d < 86400000)) → IsShown v.terms v.state x
moved-shown v q x trading here is on_grid toward due = record {
  trading = trading;
  on_grid = on_grid;
  toward = subst (λ (side : Side). IsToward side v.state.last x.price.0) (sym (ap (λ (y : Quote). y.side) is)) (toward-on q.side v.state.last q.price.0 x.price.0 here toward);
  due = due;
}

pub special-shown : (v : IssueView) (side : Side) (x : Quote) → is_trading v.state.phase ≡ true → x ≡ new_special v.terms side v.state → IsOn v.terms.grid x
    → IsToward side v.state.last x.price.0 → IfSome x.due (λ d. (v.state.now < d) × (d < 86400000)) → IsShown v.terms v.state x
special-shown v side x trading is on_grid toward due = record {
  trading = trading;
  on_grid = on_grid;
  toward = subst (λ (y : Side). IsToward y v.state.last x.price.0) (sym (ap (λ (y : Quote). y.side) is)) toward;
  due = due;
}

-- ---- after the attempt

floor-shown : (v n : IssueView) (x : Quote) → IsIssue n → n ≡ in_state (show_quote (Some x) v.state).state v → IsShown v.terms v.state x → IsFloor n
floor-shown v n x issue shows h = subst IsFloor (sym shows) (record {
  issue = subst IsIssue shows issue;
  quote = record { trading = h.trading; on_grid = h.on_grid; toward = h.toward; due = h.due };
  calm = λ trading e. absurd (cc);
})

floor-calm : (v h n : IssueView) → IsIssue n → h.terms ≡ v.terms → n ≡ in_state (show_quote None h.state).state h → IsTrue (is_calm v.terms.grid h.state.orders) → IsFloor n
floor-calm v h n issue terms shows calm = subst IsFloor (sym shows) (record {
  issue = subst IsIssue shows issue;
  quote = tt;
  calm = λ trading e. subst (λ (t : Terms). IsTrue (is_calm t.grid h.state.orders)) (sym terms) calm;
})

floor-either : (v n : IssueView) (own other : Quote) (same : Bool) → IsIssue n → n ≡ in_state (show_quote (if same then Some own else Some other) v.state).state v
    → IsShown v.terms v.state own → IsShown v.terms v.state other → IsFloor n
floor-either v n own other true issue shows a b = floor-shown v n own issue shows a
floor-either v n own other false issue shows a b = floor-shown v n other issue shows b

floor-answered : (v h n : IssueView) (w : Tried) (q own other : Quote) (outcome : Outcome) → IsIssue n → h ≡ in_state (held v.terms w outcome v.state).state v
    → n ≡ in_state (show_quote (answered q (Some own) (Some other) outcome) h.state).state h → (is_pressed outcome ≡ false → IsTrue (is_calm v.terms.grid h.state.orders))
    → IsShown v.terms v.state own → IsShown v.terms v.state other → IsFloor n
floor-answered v h n w q own other (Traded volume sums) issue after shows calm a b = floor-calm v h n issue (ap (λ (x : IssueView). x.terms) after) shows (calm refl)
floor-answered v h n w q own other (Calm bid ask) issue after shows calm a b = floor-calm v h n issue (ap (λ (x : IssueView). x.terms) after) shows (calm refl)
floor-answered v h n w q own other (Pressed side price pressing facing) issue after shows calm a b =
    floor-either v n own other (is_same_side side q.side) issue
    (subst (λ (x : IssueView). n ≡ in_state (show_quote (if is_same_side side q.side then Some own else Some other) x.state).state x) after shows) a b

pub floor-held : (v h n : IssueView) (w : Tried) (q own other : Quote) (outcome : Outcome) (x : Option Quote) → IsIssue n → outcome ≡ answer_at v.terms w v.state
    → h ≡ in_state (hold_at v.terms w v.state).state v → x ≡ answered q (Some own) (Some other) outcome → n ≡ in_state (show_quote x h.state).state h
    → (is_pressed outcome ≡ false → IsTrue (is_calm v.terms.grid h.state.orders)) → IsShown v.terms v.state own → IsShown v.terms v.state other → IsFloor n
floor-held v h n w q own other outcome x issue answers after is shows calm a b =
    floor-answered v h n w q own other outcome issue (subst (λ (o : Outcome). h ≡ in_state (held v.terms w o v.state).state v) (sym answers) after)
    (subst (λ (y : Option Quote). n ≡ in_state (show_quote y h.state).state h) is shows) calm a b
