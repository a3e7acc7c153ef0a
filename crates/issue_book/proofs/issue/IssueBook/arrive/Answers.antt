use Rattle.std.proofs.Common.{◌≡◌, ◌*◌, ◌≤◌, sym, subst, ◌∙◌}
use Rattle.std.specs.List.{All}
use Rattle.mkt_base.specs.Book.{price_at}
use Rattle.tick_grid.specs.Rows.{band_of}
use Rattle.auction_law.specs.Nearness.{distance}
use Rattle.book_law.specs.BookView.{orders}
use Rattle.zaraba.specs.Arrival.{arrival, book_after}
use Rattle.issue_book.specs.Entering.{arrival_at, arrived}
use Rattle.issue_book.specs.Fields.{IsInUnits, state_in, terms_in}
use Rattle.issue_book.specs.Filled.{IsFilled, left_of}
use Rattle.issue_book.specs.IssueView.{MayEnter}
use Rattle.issue_book.proofs.FieldLemmas.{arrives, arriving, enters-fresh, keeps-at}
use Rattle.issue_book.proofs.FilledLemmas.{arrived-filled, arrived-left}
use Rattle.issue_book.proofs.issue.IssueBook.arrive.Goals as goal

pub incoming-arrived-requires-clause-order : goal.incoming-arrived-requires-clause-order
incoming-arrived-requires-clause-order g c =
    enters-fresh c.self.inside c.args.order c.self.invariant (subst (λ v. MayEnter v c.args.order) (sym c.self.view_is) c.requires.enters)

pub invariant_of-self : goal.invariant_of-self
invariant_of-self g c =
    let f = c.self.inside in
    let o = c.args.order in
    let last = price_at f.grid f.last in
    let may = subst (λ v. MayEnter v o) (sym c.self.view_is) c.requires.enters in
    let book = subst (λ r. orders c.incoming-arrived.new.book ≡ book_after (arrival f.grid (band_of r) (orders f.book) o last) (orders f.book) o) c.as_slice.ensures c.incoming-arrived.ensures.book in
    keeps-at f c.incoming-arrived.new.book c.incoming-arrived.result.last c.self.invariant c.incoming-arrived.ensures.prices
    (subst (All (IsInUnits f.unit)) (sym book) (arrives f o c.stands.ensures.book c.self.invariant c.stands-2.ensures.rising may c.trades_stand.ensures))
    c.incoming-arrived.ensures.in_range

pub returns-clause-near : goal.returns-clause-near
returns-clause-near g c =
    let f = c.self.inside in
    let o = c.args.order in
    let may = subst (λ v. MayEnter v o) (sym c.self.view_is) c.requires.enters in
    let last = price_at f.grid f.last in
    let law = (c.last_is_near.ensures f.grid (band_of f.ranges) (orders f.book) o last (arriving f o c.stands.ensures.book c.self.invariant c.stands-2.ensures.rising may)).0 in
    let then = subst (λ r. price_at f.grid c.incoming-arrived.result.last ≡ (arrival f.grid (band_of r) (orders f.book) o last).last) c.as_slice.ensures c.incoming-arrived.ensures.last in
    subst (λ v. distance v.state.last (price_at f.grid c.incoming-arrived.result.last) ≤ 2 * band_of v.terms.ranges v.state.last) c.self.view_is
    (subst (λ p. distance last p ≤ 2 * band_of f.ranges last) (sym then) law)

pub returns-clause-side : goal.returns-clause-side
returns-clause-side g c = λ side e.
    let f = c.self.inside in
    let o = c.args.order in
    let last = price_at f.grid f.last in
    let may = subst (λ v. MayEnter v o) (sym c.self.view_is) c.requires.enters in
    let stop = subst (λ r. c.incoming-arrived.result.stop ≡ (arrival f.grid (band_of r) (orders f.book) o last).stop) c.as_slice.ensures c.incoming-arrived.ensures.stop in
    (c.sequence_is_beyond.ensures f.grid (band_of f.ranges) (orders f.book) o last
    (arriving f o c.stands.ensures.book c.self.invariant c.stands-2.ensures.rising may) side (sym stop ∙ e)).0

pub returns-clause-filled : goal.returns-clause-filled
returns-clause-filled g c =
    let f = c.self.inside in
    let o = c.args.order in
    let may = subst (λ v. MayEnter v o) (sym c.self.view_is) c.requires.enters in
    let law = (c.none_fills_more.ensures f.grid (band_of f.ranges) (orders f.book) o (price_at f.grid f.last) (arriving f o c.stands.ensures.book c.self.invariant c.stands-2.ensures.rising may)).1 in
    subst (λ v. IsFilled o.caller o.own o.place o.left (arrived o v.state (arrival_at v.terms o v.state))) c.self.view_is
    (arrived-filled o (state_in f) (arrival_at (terms_in f) o (state_in f)) may.last may.pair law)

pub returns-clause-left : goal.returns-clause-left
returns-clause-left g c =
    let f = c.self.inside in
    let o = c.args.order in
    let s = state_in f in
    let a = arrival_at (terms_in f) o s in
    let may = subst (λ v. MayEnter v o) (sym c.self.view_is) c.requires.enters in
    let law = (c.none_fills_more.ensures f.grid (band_of f.ranges) (orders f.book) o (price_at f.grid f.last) (arriving f o c.stands.ensures.book c.self.invariant c.stands-2.ensures.rising may)).1 in
    let left = subst (λ r. c.incoming-arrived.result.left ≡ (arrival f.grid (band_of r) (orders f.book) o (price_at f.grid f.last)).left) c.as_slice.ensures c.incoming-arrived.ensures.left in
    subst (λ v. c.incoming-arrived.result.left ≡ left_of o.caller o.own (arrived o v.state (arrival_at v.terms o v.state)).state) c.self.view_is
    (left ∙ arrived-left o s a (arrived-filled o s a may.last may.pair law) law)
