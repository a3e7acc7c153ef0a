use Rattle.std.proofs.Common.{◌≡◌, ◌++◌, ◌%◌, ◌<◌, ◌≤◌, length, IsTrue, sym, ap, subst, ◌∙◌}
use Rattle.std.specs.List.{All}
use Rattle.std.proofs.lemmas.List.Elements.{All-weaker}
use Rattle.mkt_base.specs.Book.{price_at}
use Rattle.mkt_base.specs.Fills.{after_trades}
use Rattle.auction_law.specs.Attempt.{is_calm, meets}
use Rattle.book_law.specs.BookView.{orders}
use Rattle.itayose.specs.Fills.{auction_fills, settlement_outputs}
use Rattle.itayose.specs.declared.margin.Margin.TheVariants.{Time}
use Rattle.issue_book.specs.Fields.{IsInUnits, state_in, terms_in}
use Rattle.issue_book.specs.Filled.{IsFilled, IsKey, left_of}
use Rattle.issue_book.specs.Fills.{fills_at}
use Rattle.issue_book.proofs.FieldLemmas.{book-on, keeps-at, seen-filled, settling, shareable, whole-left}
use Rattle.issue_book.proofs.FilledLemmas.{settled-filled}
use Rattle.issue_book.proofs.UnitLemmas.{after-units}
use Rattle.issue_book.proofs.issue.IssueBook.fill.Goals as goal

pub invariant_of-self : goal.invariant_of-self
invariant_of-self g c =
    let f = c.self.inside in
    let p = price_at f.grid c.args.at in
    let book = subst (λ r. orders c.settle.new.book ≡ after_trades (auction_fills f.grid (orders f.book) p c.args.margin r f.unit).trades (orders f.book)) c.as_slice.ensures c.settle.ensures.book in
    let trades = (auction_fills f.grid (orders f.book) p c.args.margin f.rounds f.unit).trades in
    let met = subst (λ v. IsTrue (meets v.terms.grid v.state.orders (price_at v.terms.grid c.args.at))) (sym c.self.view_is) c.requires.meets in
    let law =
    c.trades_are_whole.ensures f.grid (orders f.book) p c.args.margin f.rounds f.unit (settling f c.args.at c.stands.ensures.book c.self.invariant c.stands-2.ensures.rising met)
    (λ e. shareable f c.self.invariant) (whole-left f c.self.invariant) in
    let whole = All-weaker (λ t. (1 ≤ t.qty) × (t.qty % f.unit ≡ 0) × (t.price.0 ≡ p)) (λ t. t.qty % f.unit ≡ 0) (λ t h. h.1) trades law in
    keeps-at f c.settle.new.book c.args.at c.self.invariant c.settle.ensures.prices
    (subst (All (IsInUnits f.unit)) (sym book) (after-units f.unit trades (orders f.book) whole c.self.invariant.units))
    (subst (λ v. c.args.at < length v.terms.grid) (sym c.self.view_is) c.requires.within)

pub returns-clause-state : goal.returns-clause-state
returns-clause-state g c =
    let f = c.self.inside in
    let p = price_at f.grid c.args.at in
    let book = subst (λ r. orders c.settle.new.book ≡ after_trades (auction_fills f.grid (orders f.book) p c.args.margin r f.unit).trades (orders f.book)) c.as_slice.ensures c.settle.ensures.book in
    seen-filled f c.settle.new.book c.args.self.now c.args.margin c.args.at c.self.view_is book c.settle.ensures.capacity

pub returns-clause-calm : goal.returns-clause-calm
returns-clause-calm g c = λ time.
    let f = c.self.inside in
    let p = price_at f.grid c.args.at in
    let book = subst (λ r. orders c.settle.new.book ≡ after_trades (auction_fills f.grid (orders f.book) p c.args.margin r f.unit).trades (orders f.book)) c.as_slice.ensures c.settle.ensures.book in
    let by-time = book ∙ ap (λ m. after_trades (auction_fills f.grid (orders f.book) p m f.rounds f.unit).trades (orders f.book)) time in
    let met = subst (λ v. IsTrue (meets v.terms.grid v.state.orders (price_at v.terms.grid c.args.at))) (sym c.self.view_is) c.requires.meets in
    let law = c.calm_afterwards.ensures f.grid (orders f.book) p (settling f c.args.at c.stands.ensures.book c.self.invariant c.stands-2.ensures.rising met) in
    subst (λ w. IsTrue (is_calm w.terms.grid (orders c.settle.new.book))) c.self.view_is (subst (λ os. IsTrue (is_calm f.grid os)) (sym by-time) law)

pub returns-clause-filled : goal.returns-clause-filled
returns-clause-filled g c = λ caller own place time keys.
    let f = c.self.inside in
    let p = price_at f.grid c.args.at in
    let fills = auction_fills f.grid (orders f.book) p Time f.rounds f.unit in
    let met = subst (λ v. IsTrue (meets v.terms.grid v.state.orders (price_at v.terms.grid c.args.at))) (sym c.self.view_is) c.requires.meets in
    let law =
    c.none_trades_more.ensures f.grid (orders f.book) p Time f.rounds f.unit (settling f c.args.at c.stands.ensures.book c.self.invariant c.stands-2.ensures.rising met)
    (λ e. shareable f c.self.invariant) in
    let rising = (book-on f c.stands.ensures.book c.self.invariant).book.by_place in
    subst (λ v. IsKey caller own place v.state.orders → IsFilled caller own place (left_of caller own v.state) (fills_at v.terms c.args.margin (price_at v.terms.grid c.args.at) v.state)) c.self.view_is
    (λ mine. subst (λ m. IsFilled caller own place (left_of caller own (state_in f)) (fills_at (terms_in f) m p (state_in f))) (sym time)
    (settled-filled caller own place p fills (state_in f) mine rising law.0 (law.1 place))) keys

pub returns-clause-told : goal.returns-clause-told
returns-clause-told g c = λ from outputs h.
    let f = c.self.inside in
    subst (λ v. g.W.Watch.took from (outputs ++ settlement_outputs (auction_fills v.terms.grid v.state.orders (price_at v.terms.grid c.args.at) c.args.margin v.terms.rounds v.terms.unit)) c.settle.new.watch) c.self.view_is
    (subst (λ r. g.W.Watch.took from (outputs ++ settlement_outputs (auction_fills f.grid (orders f.book) (price_at f.grid c.args.at) c.args.margin r f.unit)) c.settle.new.watch) c.as_slice.ensures
    (c.settle.ensures.told from outputs h))
