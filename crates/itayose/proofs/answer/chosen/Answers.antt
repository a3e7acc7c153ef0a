use Rattle.std.proofs.Common.{◌≡◌, ℕ, ◌+◌, ◌-◌, ◌*◌, Some, max, min, arith}
use Rattle.mkt_base.specs.Book.{price_at}
use Rattle.auction_law.specs.Attempt.{chosen}
use Rattle.book_law.specs.BookView.{IsGridOf, orders}
use Rattle.itayose.proofs.ReadLemmas.{reads-join, reads-two}
use Rattle.itayose.proofs.RunLemmas.{run-chosen}
use Rattle.itayose.proofs.TellingLemmas.{traded-answer}
use Rattle.itayose.proofs.answer.chosen.Goals as goal

pub returns-clause-answer : goal.returns-clause-answer
returns-clause-answer g c p h =
    let grid = c.args.grid.now in
    let of : IsGridOf c.args.book.now grid = record { rising = c.stands.ensures.rising; size = c.requires.size } in
    let at : ℕ = c.max-at.result in
    let moved : at ≡ max (min c.args.reference (c.first_past-past.result - 1)) c.first_past-first.result = omega (arith, c.max-at.ensures, c.min.ensures) in
    let found : chosen grid (orders c.args.book.now) (price_at grid c.args.reference) ≡ Some (price_at grid at) =
    run-chosen c.args.book.now grid of c.args.reference c.args.lo c.args.hi c.first_past-first.result c.first_past-past.result at c.requires.lo c.requires.hi c.requires.in_range c.requires.traded c.first_past-first.ensures.found c.first_past-past.ensures.found moved in
    rw c.traded.ensures
    (traded-answer grid (orders c.args.book.now) at p c.sums_counted-sums.result _ c.sums_counted-sums.ensures.sums found h c.args.lo c.args.hi)

pub returns-clause-reads : goal.returns-clause-reads
returns-clause-reads g c digits h =
    let size : ℕ = c.args.book.now.prices in
    let low = c.first_past-first.ensures.reads digits (omega (arith, c.requires.size, c.requires.in_range, h)) in
    let high = c.first_past-past.ensures.reads digits (omega (arith, c.requires.size, c.requires.in_range, h)) in
    let ends = reads-join size 0 (2 * digits) 0 (2 * digits) 0 (4 * digits) c.args.steps.now c.first_past-first.new.steps c.first_past-past.new.steps low high (omega arith) (omega arith) in
    reads-join size 0 (4 * digits) 2 2 2 (4 * digits + 2) c.args.steps.now c.first_past-past.new.steps c.sums_counted-sums.new.steps ends (reads-two size c.first_past-past.new.steps c.sums_counted-sums.new.steps c.sums_counted-sums.ensures.reads) (omega arith) (omega arith)
