use Rattle.std.proofs.Common.{◌≡◌, true, false, ◌∙◌, sym}
use Rattle.mkt_base.specs.Book.{price_at}
use Rattle.auction_law.specs.Attempt.{meets}
use Rattle.auction_law.proofs.ChoiceLemmas.{meets-of_sums}
use Rattle.book_law.specs.BookView.{orders}
use Rattle.itayose.proofs.TellingLemmas.{chosen-behind, found-next, meets-next, next_of, passed-next, reference-chosen, traded-answer}
use Rattle.itayose.proofs.WalkLemmas.{begins}
use Rattle.itayose.proofs.plain.nearest.Goals as goal

pub returns-then-meets-clause-answer : goal.returns-then-meets-clause-answer
returns-then-meets-clause-answer c =
    let grid = c.args.grid.now in
    let os = orders c.args.book.now in
    let r = price_at grid c.args.reference in
    let m : meets grid os r ≡ true = sym (c.meets.ensures ∙ meets-of_sums grid os r c.sums_there-sums.result c.sums_there-sums.ensures) ∙ c.if-meets.true in
    λ lo hi p h. rw c.traded.ensures
    (traded-answer grid os c.args.reference p c.sums_there-sums.result _ c.sums_there-sums.ensures (reference-chosen grid os r _ (begins grid c.args.reference c.stands.ensures.rising c.requires.in_range) m) h lo hi)

pub loop-at-init : goal.loop-at-init
loop-at-init c =
    let grid = c.args.grid.now in
    let os = orders c.args.book.now in
    let r = price_at grid c.args.reference in
    let m : meets grid os r ≡ false = sym (c.meets.ensures ∙ meets-of_sums grid os r c.sums_there-sums.result c.sums_there-sums.ensures) ∙ c.if-meets.false in
    record {
      grid_is = c.new-rest.ensures.grid;
      orders_are = c.new-rest.ensures.orders;
      first = chosen-behind grid os r c.new-rest.result.left c.new-rest.ensures.left m;
    }

pub returns-then-meets-2-clause-answer : goal.returns-then-meets-2-clause-answer
returns-then-meets-2-clause-answer c =
    let grid = c.args.grid.now in
    let os = orders c.args.book.now in
    let n = next_of grid os c.loop-at.rest c.in-Some.at c.in-Some.sums _ c.loop-at.invariant.grid_is c.loop-at.invariant.orders_are c.in-Some.ensures.next in
    let m = meets-next grid os c.in-Some.at c.in-Some.sums _ _ n c.meets-in-Some.result c.meets-in-Some.ensures ∙ c.if-meets-2.true in
    λ lo hi p h. rw c.traded-then-meets-2.ensures
    (traded-answer grid os c.in-Some.at p c.in-Some.sums _ n.sums (c.loop-at.invariant.first ∙ found-next grid os _ _ _ n.first m) h lo hi)

pub loop-at-preserved : goal.loop-at-preserved
loop-at-preserved c =
    let grid = c.args.grid.now in
    let os = orders c.args.book.now in
    let inv = c.loop-at.invariant in
    let n = next_of grid os c.loop-at.rest c.in-Some.at c.in-Some.sums _ inv.grid_is inv.orders_are c.in-Some.ensures.next in
    let m = meets-next grid os c.in-Some.at c.in-Some.sums _ _ n c.meets-in-Some.result c.meets-in-Some.ensures ∙ c.if-meets-2.false in
    record {
      grid_is = c.in-Some.ensures.grid ∙ inv.grid_is;
      orders_are = c.in-Some.ensures.orders ∙ inv.orders_are;
      first = inv.first ∙ passed-next grid os _ _ _ n.first m;
    }
