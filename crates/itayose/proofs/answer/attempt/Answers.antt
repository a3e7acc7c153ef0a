use Rattle.std.proofs.Common.{ℕ, ◌+◌, ◌*◌, ◌<◌, ◌∙◌, sym, ap, subst, arith}
use Rattle.mkt_base.specs.Book.{price_at}
use Rattle.auction_law.proofs.AttemptLemmas.{attempt-calm, attempt-pressed_buy, attempt-pressed_sell, attempt-traded}
use Rattle.auction_law.proofs.SumsLemmas.{price-le}
use Rattle.auction_law.proofs.TradedLemmas.{traded-chosen}
use Rattle.book_law.specs.BookView.{IsGridOf, orders}
use Rattle.itayose.proofs.AnswerLemmas.{book-traded, traded-meets}
use Rattle.itayose.specs.Answer.{outcome_of}
use Rattle.itayose.specs.Reads.{ReadsWithin}
use Rattle.itayose.proofs.ReadLemmas.{reads-join, reads-none, reads-two, steps-bound}
use Rattle.itayose.proofs.answer.attempt.Goals as goal

pub returns-in-Some-clause-positions : goal.returns-in-Some-clause-positions
returns-in-Some-clause-positions g c = (c.in-Some.ensures c.args.grid.now (record { rising = c.stands-2.ensures.rising; size = c.requires.size })).positions

pub returns-in-Some-clause-answer : goal.returns-in-Some-clause-answer
returns-in-Some-clause-answer g c =
    let found = c.in-Some.ensures c.args.grid.now (record { rising = c.stands-2.ensures.rising; size = c.requires.size }) in
    found.outcome c.args.lo c.args.hi ∙ sym (attempt-calm c.args.grid.now (orders c.args.book.now) _ _ _ found.calm)

pub returns-then-high-clause-answer : goal.returns-then-high-clause-answer
returns-then-high-clause-answer g c =
    let calm = c.in_default.ensures c.args.grid.now (record { rising = c.stands-2.ensures.rising; size = c.requires.size }) in
    sym (attempt-pressed_buy c.args.grid.now (orders c.args.book.now) _ _ _ calm (subst (λ s. s.sells < s.above) c.sums_counted-high.ensures.sums c.if-high.true))

pub returns-then-low-clause-answer : goal.returns-then-low-clause-answer
returns-then-low-clause-answer g c =
    let grid = c.args.grid.now in
    let calm = c.in_default.ensures grid (record { rising = c.stands-2.ensures.rising; size = c.requires.size }) in
    sym (attempt-pressed_sell grid (orders c.args.book.now) _ _ _ (price-le grid c.args.lo c.args.hi c.stands-2.ensures.rising (omega (arith, c.requires.lo, c.requires.hi)) c.requires.in_range) calm (subst (λ s. s.buys < s.below) c.sums_counted-low.ensures.sums c.if-low.true))

pub chosen-requires-clause-traded : goal.chosen-requires-clause-traded
chosen-requires-clause-traded g c =
    let grid = c.args.grid.now in
    let of : IsGridOf c.args.book.now grid = record { rising = c.stands-2.ensures.rising; size = c.requires.size } in
    let calm = c.in_default.ensures grid of in
    book-traded c.args.book.now grid c.args.reference c.args.lo c.args.hi c.stands.ensures.book of c.requires.lo c.requires.hi c.requires.in_range calm
    c.sums_counted-high.result c.sums_counted-low.result c.sums_counted-high.ensures.sums c.sums_counted-low.ensures.sums (omega (arith, c.if-high.false)) (omega (arith, c.if-low.false))

pub returns-clause-answer : goal.returns-clause-answer
returns-clause-answer g c =
    let grid = c.args.grid.now in
    let of : IsGridOf c.args.book.now grid = record { rising = c.stands-2.ensures.rising; size = c.requires.size } in
    let calm = c.in_default.ensures grid of in
    let t = book-traded c.args.book.now grid c.args.reference c.args.lo c.args.hi c.stands.ensures.book of c.requires.lo c.requires.hi c.requires.in_range calm
    c.sums_counted-high.result c.sums_counted-low.result c.sums_counted-high.ensures.sums c.sums_counted-low.ensures.sums (omega (arith, c.if-high.false)) (omega (arith, c.if-low.false)) in
    let w = traded-chosen grid (orders c.args.book.now) (price_at grid c.args.reference) (price_at grid c.args.lo) (price_at grid c.args.hi) t in
    c.chosen.ensures.answer w.0 w.1 ∙ sym (attempt-traded grid (orders c.args.book.now) _ _ _ w.0 w.1 t)

pub returns-in-Some-clause-meets : goal.returns-in-Some-clause-meets
returns-in-Some-clause-meets g c = λ at volume e. traded-meets c.args.grid.now (orders c.args.book.now) (price_at c.args.grid.now c.args.reference) (price_at c.args.grid.now c.args.lo) (price_at c.args.grid.now c.args.hi) at volume
    (ap (outcome_of c.args.grid.now (orders c.args.book.now) c.args.lo c.args.hi) (sym e) ∙ returns-in-Some-clause-answer g c)

pub returns-then-high-clause-meets : goal.returns-then-high-clause-meets
returns-then-high-clause-meets g c = λ at volume e. traded-meets c.args.grid.now (orders c.args.book.now) (price_at c.args.grid.now c.args.reference) (price_at c.args.grid.now c.args.lo) (price_at c.args.grid.now c.args.hi) at volume
    (ap (outcome_of c.args.grid.now (orders c.args.book.now) c.args.lo c.args.hi) (sym e) ∙ returns-then-high-clause-answer g c)

pub returns-then-low-clause-meets : goal.returns-then-low-clause-meets
returns-then-low-clause-meets g c = λ at volume e. traded-meets c.args.grid.now (orders c.args.book.now) (price_at c.args.grid.now c.args.reference) (price_at c.args.grid.now c.args.lo) (price_at c.args.grid.now c.args.hi) at volume
    (ap (outcome_of c.args.grid.now (orders c.args.book.now) c.args.lo c.args.hi) (sym e) ∙ returns-then-low-clause-answer g c)

pub returns-clause-meets : goal.returns-clause-meets
returns-clause-meets g c = λ at volume e. traded-meets c.args.grid.now (orders c.args.book.now) (price_at c.args.grid.now c.args.reference) (price_at c.args.grid.now c.args.lo) (price_at c.args.grid.now c.args.hi) at volume
    (ap (outcome_of c.args.grid.now (orders c.args.book.now) c.args.lo c.args.hi) (sym e) ∙ returns-clause-answer g c)

pub returns-in-Some-clause-reads : goal.returns-in-Some-clause-reads
returns-in-Some-clause-reads g c digits h =
    let found = c.in-Some.ensures c.args.grid.now (record { rising = c.stands-2.ensures.rising; size = c.requires.size }) in
    subst (λ n. ReadsWithin c.args.book.now.prices n (4 * digits + 8) c.args.steps.now c.args.steps.now) (sym found.unread) (reads-none c.args.book.now.prices (4 * digits + 8) c.args.steps.now)

pub returns-then-high-clause-reads : goal.returns-then-high-clause-reads
returns-then-high-clause-reads g c digits h =
    let size : ℕ = c.args.book.now.prices in
    reads-join size 2 2 0 0 2 (4 * digits + 8) c.args.steps.now c.sums_counted-high.new.steps c.sums_counted-high.new.steps
    (reads-two size c.args.steps.now c.sums_counted-high.new.steps c.sums_counted-high.ensures.reads) (reads-none size 0 c.sums_counted-high.new.steps) (omega arith) (omega arith)

pub returns-then-low-clause-reads : goal.returns-then-low-clause-reads
returns-then-low-clause-reads g c digits h =
    let size : ℕ = c.args.book.now.prices in
    reads-join size 2 2 2 2 4 (4 * digits + 8) c.args.steps.now c.sums_counted-high.new.steps c.sums_counted-low.new.steps
    (reads-two size c.args.steps.now c.sums_counted-high.new.steps c.sums_counted-high.ensures.reads)
    (reads-two size c.sums_counted-high.new.steps c.sums_counted-low.new.steps c.sums_counted-low.ensures.reads) (omega arith) (omega arith)

pub returns-clause-reads : goal.returns-clause-reads
returns-clause-reads g c digits h =
    let size : ℕ = c.args.book.now.prices in
    let ends = reads-join size 2 2 2 2 4 4 c.args.steps.now c.sums_counted-high.new.steps c.sums_counted-low.new.steps
    (reads-two size c.args.steps.now c.sums_counted-high.new.steps c.sums_counted-high.ensures.reads)
    (reads-two size c.sums_counted-high.new.steps c.sums_counted-low.new.steps c.sums_counted-low.ensures.reads) (omega arith) (omega arith) in
    reads-join size 4 4 2 (4 * digits + 2) _ (4 * digits + 8) c.args.steps.now c.sums_counted-low.new.steps c.chosen.new.steps ends (c.chosen.ensures.reads digits h) (omega (arith, c.chosen.ensures.trades)) (omega arith)

pub returns-clause-steps : goal.returns-clause-steps
returns-clause-steps g c digits h = steps-bound c.args.book.now.prices digits _ (4 * digits + 8) c.args.steps.now c.chosen.new.steps h (returns-clause-reads g c digits h)
