use Rattle.std.proofs.Common.{◌<◌, ◌∙◌, sym, ap, subst, arith}
use Rattle.mkt_base.specs.Book.{price_at}
use Rattle.auction_law.proofs.AttemptLemmas.{attempt-calm, attempt-pressed_buy, attempt-pressed_sell, attempt-traded}
use Rattle.auction_law.proofs.SumsLemmas.{price-le}
use Rattle.auction_law.proofs.TradedLemmas.{traded-chosen}
use Rattle.book_law.specs.BookView.{IsGridOf, orders}
use Rattle.itayose.proofs.AnswerLemmas.{book-chosen, book-traded, traded-meets}
use Rattle.itayose.specs.Answer.{outcome_of}
use Rattle.itayose.proofs.plain.plain_attempt.Goals as goal

pub returns-in-Some-clause-positions : goal.returns-in-Some-clause-positions
returns-in-Some-clause-positions c = (c.in-Some.ensures c.args.grid.now (record { rising = c.stands-2.ensures.rising; size = c.requires.size })).positions

pub returns-in-Some-clause-answer : goal.returns-in-Some-clause-answer
returns-in-Some-clause-answer c =
    let found = c.in-Some.ensures c.args.grid.now (record { rising = c.stands-2.ensures.rising; size = c.requires.size }) in
    found.outcome c.args.lo c.args.hi ∙ sym (attempt-calm c.args.grid.now (orders c.args.book.now) _ _ _ found.calm)

pub returns-then-high-clause-answer : goal.returns-then-high-clause-answer
returns-then-high-clause-answer c =
    let calm = c.in_default.ensures c.args.grid.now (record { rising = c.stands-2.ensures.rising; size = c.requires.size }) in
    sym (attempt-pressed_buy c.args.grid.now (orders c.args.book.now) _ _ _ calm (subst (λ s. s.sells < s.above) c.sums_there-high.ensures c.if-high.true))

pub returns-then-low-clause-answer : goal.returns-then-low-clause-answer
returns-then-low-clause-answer c =
    let grid = c.args.grid.now in
    let calm = c.in_default.ensures grid (record { rising = c.stands-2.ensures.rising; size = c.requires.size }) in
    sym (attempt-pressed_sell grid (orders c.args.book.now) _ _ _ (price-le grid c.args.lo c.args.hi c.stands-2.ensures.rising (omega (arith, c.requires.lo, c.requires.hi)) c.requires.in_range) calm (subst (λ s. s.buys < s.below) c.sums_there-low.ensures c.if-low.true))

pub nearest-requires-clause-some : goal.nearest-requires-clause-some
nearest-requires-clause-some c =
    let grid = c.args.grid.now in
    let of : IsGridOf c.args.book.now grid = record { rising = c.stands-2.ensures.rising; size = c.requires.size } in
    let calm = c.in_default.ensures grid of in
    let t = book-traded c.args.book.now grid c.args.reference c.args.lo c.args.hi c.stands.ensures.book of c.requires.lo c.requires.hi c.requires.in_range calm
    c.sums_there-high.result c.sums_there-low.result c.sums_there-high.ensures c.sums_there-low.ensures (omega (arith, c.if-high.false)) (omega (arith, c.if-low.false)) in
    book-chosen c.args.book.now grid c.args.reference c.args.lo c.args.hi c.stands.ensures.book of c.requires.lo c.requires.hi c.requires.in_range t

pub returns-clause-answer : goal.returns-clause-answer
returns-clause-answer c =
    let grid = c.args.grid.now in
    let of : IsGridOf c.args.book.now grid = record { rising = c.stands-2.ensures.rising; size = c.requires.size } in
    let calm = c.in_default.ensures grid of in
    let t = book-traded c.args.book.now grid c.args.reference c.args.lo c.args.hi c.stands.ensures.book of c.requires.lo c.requires.hi c.requires.in_range calm
    c.sums_there-high.result c.sums_there-low.result c.sums_there-high.ensures c.sums_there-low.ensures (omega (arith, c.if-high.false)) (omega (arith, c.if-low.false)) in
    let w = traded-chosen grid (orders c.args.book.now) (price_at grid c.args.reference) (price_at grid c.args.lo) (price_at grid c.args.hi) t in
    c.nearest.ensures.answer c.args.lo c.args.hi w.0 w.1 ∙ sym (attempt-traded grid (orders c.args.book.now) _ _ _ w.0 w.1 t)

pub returns-in-Some-clause-meets : goal.returns-in-Some-clause-meets
returns-in-Some-clause-meets c = λ at volume e. traded-meets c.args.grid.now (orders c.args.book.now) (price_at c.args.grid.now c.args.reference) (price_at c.args.grid.now c.args.lo) (price_at c.args.grid.now c.args.hi) at volume
    (ap (outcome_of c.args.grid.now (orders c.args.book.now) c.args.lo c.args.hi) (sym e) ∙ returns-in-Some-clause-answer c)

pub returns-then-high-clause-meets : goal.returns-then-high-clause-meets
returns-then-high-clause-meets c = λ at volume e. traded-meets c.args.grid.now (orders c.args.book.now) (price_at c.args.grid.now c.args.reference) (price_at c.args.grid.now c.args.lo) (price_at c.args.grid.now c.args.hi) at volume
    (ap (outcome_of c.args.grid.now (orders c.args.book.now) c.args.lo c.args.hi) (sym e) ∙ returns-then-high-clause-answer c)

pub returns-then-low-clause-meets : goal.returns-then-low-clause-meets
returns-then-low-clause-meets c = λ at volume e. traded-meets c.args.grid.now (orders c.args.book.now) (price_at c.args.grid.now c.args.reference) (price_at c.args.grid.now c.args.lo) (price_at c.args.grid.now c.args.hi) at volume
    (ap (outcome_of c.args.grid.now (orders c.args.book.now) c.args.lo c.args.hi) (sym e) ∙ returns-then-low-clause-answer c)

pub returns-clause-meets : goal.returns-clause-meets
returns-clause-meets c = λ at volume e. traded-meets c.args.grid.now (orders c.args.book.now) (price_at c.args.grid.now c.args.reference) (price_at c.args.grid.now c.args.lo) (price_at c.args.grid.now c.args.hi) at volume
    (ap (outcome_of c.args.grid.now (orders c.args.book.now) c.args.lo c.args.hi) (sym e) ∙ returns-clause-answer c)
