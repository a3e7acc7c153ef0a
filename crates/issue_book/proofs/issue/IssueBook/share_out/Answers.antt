use Rattle.std.proofs.Common.{◌≡◌, ◌%◌, ◌≤◌, ◌++◌, IsTrue, sym, subst}
use Rattle.std.specs.List.{All}
use Rattle.std.proofs.lemmas.List.Elements.{All-weaker}
use Rattle.mkt_base.specs.Book.{price_at}
use Rattle.mkt_base.specs.Fills.{after_trades}
use Rattle.book_law.specs.BookView.{orders}
use Rattle.itayose.specs.Fills.{allotted_fills, is_longer, limit_position, settlement_outputs}
use Rattle.issue_book.specs.Fields.{IsInUnits}
use Rattle.issue_book.proofs.FieldLemmas.{closing, keeps-at, seen-shared, shareable}
use Rattle.issue_book.proofs.UnitLemmas.{after-units}
use Rattle.issue_book.proofs.issue.IssueBook.share_out.Goals as goal

pub invariant_of-self : goal.invariant_of-self
invariant_of-self g c =
    let f = c.self.inside in
    let book = subst (λ r. orders c.share_out.new.book ≡ after_trades (allotted_fills f.grid (orders f.book) c.args.side r f.unit).trades (orders f.book)) c.as_slice.ensures c.share_out.ensures.book in
    let trades = (allotted_fills f.grid (orders f.book) c.args.side f.rounds f.unit).trades in
    let presses = subst (λ v. IsTrue (is_longer v.terms.grid v.state.orders (price_at v.terms.grid (limit_position v.terms.grid c.args.side)) c.args.side)) (sym c.self.view_is) c.requires in
    let law =
    c.close_trades_fairly.ensures f.grid (orders f.book) c.args.side f.rounds f.unit (closing f c.args.side c.stands.ensures.book c.self.invariant c.stands-2.ensures.rising presses)
    (shareable f c.self.invariant) in
    let p = price_at f.grid (limit_position f.grid c.args.side) in
    let whole = All-weaker (λ t. (1 ≤ t.qty) × (t.qty % f.unit ≡ 0) × (t.price.0 ≡ p)) (λ t. t.qty % f.unit ≡ 0) (λ t h. h.1) trades law.3 in
    keeps-at f c.share_out.new.book c.limit_position-last.result c.self.invariant c.share_out.ensures.prices
    (subst (All (IsInUnits f.unit)) (sym book) (after-units f.unit trades (orders f.book) whole c.self.invariant.units)) c.limit_position-last.ensures.within

pub returns-clause-state : goal.returns-clause-state
returns-clause-state g c =
    let f = c.self.inside in
    let book = subst (λ r. orders c.share_out.new.book ≡ after_trades (allotted_fills f.grid (orders f.book) c.args.side r f.unit).trades (orders f.book)) c.as_slice.ensures c.share_out.ensures.book in
    seen-shared f c.share_out.new.book c.args.self.now c.args.side c.limit_position-last.result c.self.view_is c.limit_position-last.ensures.position book c.share_out.ensures.capacity

pub returns-clause-told : goal.returns-clause-told
returns-clause-told g c = λ from outputs h.
    let f = c.self.inside in
    subst (λ v. g.W.Watch.took from (outputs ++ settlement_outputs (allotted_fills v.terms.grid v.state.orders c.args.side v.terms.rounds v.terms.unit)) c.share_out.new.watch) c.self.view_is
    (subst (λ r. g.W.Watch.took from (outputs ++ settlement_outputs (allotted_fills f.grid (orders f.book) c.args.side r f.unit)) c.share_out.new.watch) c.as_slice.ensures
    (c.share_out.ensures.told from outputs h))
