use Rattle.std.proofs.Common.{◌≡◌, ◌∙◌, true, false, sym, subst}
use Rattle.mkt_base.specs.Book.{price_at, sums_at}
use Rattle.auction_law.specs.Attempt.{chosen, meets}
use Rattle.auction_law.proofs.ChoiceLemmas.{meets-of_sums}
use Rattle.itayose.proofs.TellingLemmas.{chosen-behind, found-next, meets-next, next_of, passed-next, reference-chosen}
use Rattle.itayose.proofs.WalkLemmas.{begins}
use Rattle.level_auction.proofs.AnswerLemmas.{found-sums}
use Rattle.level_auction.proofs.answer.chosen.Goals as goal

pub returns-then-meets : goal.returns-then-meets
returns-then-meets c =
    let grid = c.args.grid.now in
    let os = c.args.levels.now.orders in
    let r = price_at grid c.args.reference in
    let s = c.plain_sums-sums.result in
    let sums : s ≡ sums_at grid os r = subst (λ xs. s ≡ sums_at grid xs r) c.as_slice.ensures.orders c.plain_sums-sums.ensures in
    let m : meets grid os r ≡ true = sym (c.meets.ensures ∙ meets-of_sums grid os r s sums) ∙ c.if-meets.true in
    found-sums grid os r s (chosen grid os r) sums (reference-chosen grid os r _ (begins grid c.args.reference c.requires.can.rising c.requires.in_range) m)

pub loop-sums-init : goal.loop-sums-init
loop-sums-init c =
    let grid = c.args.grid.now in
    let os = c.args.levels.now.orders in
    let r = price_at grid c.args.reference in
    let s = c.plain_sums-sums.result in
    let sums : s ≡ sums_at grid os r = subst (λ xs. s ≡ sums_at grid xs r) c.as_slice.ensures.orders c.plain_sums-sums.ensures in
    let m : meets grid os r ≡ false = sym (c.meets.ensures ∙ meets-of_sums grid os r s sums) ∙ c.if-meets.false in
    record {
      grid_is = c.new-rest.ensures.grid;
      orders_are = c.new-rest.ensures.orders;
      first = chosen-behind grid os r c.new-rest.result.left c.new-rest.ensures.left m;
    }

pub returns-then-meets-2 : goal.returns-then-meets-2
returns-then-meets-2 c =
    let grid = c.args.grid.now in
    let os = c.args.levels.now.orders in
    let r = price_at grid c.args.reference in
    let inv = c.loop-sums.invariant in
    let i = c.in-Some.field-0-0 in
    let n = next_of grid os c.loop-sums.rest i c.in-Some.sums _ inv.grid_is inv.orders_are c.in-Some.ensures.next in
    let m = meets-next grid os i c.in-Some.sums _ _ n c.meets-in-Some.result c.meets-in-Some.ensures ∙ c.if-meets-2.true in
    found-sums grid os (price_at grid i) c.in-Some.sums (chosen grid os r) n.sums (inv.first ∙ found-next grid os _ _ _ n.first m)

pub loop-sums-preserved : goal.loop-sums-preserved
loop-sums-preserved c =
    let grid = c.args.grid.now in
    let os = c.args.levels.now.orders in
    let inv = c.loop-sums.invariant in
    let i = c.in-Some.field-0-0 in
    let n = next_of grid os c.loop-sums.rest i c.in-Some.sums _ inv.grid_is inv.orders_are c.in-Some.ensures.next in
    let m = meets-next grid os i c.in-Some.sums _ _ n c.meets-in-Some.result c.meets-in-Some.ensures ∙ c.if-meets-2.false in
    record {
      grid_is = c.in-Some.ensures.grid ∙ inv.grid_is;
      orders_are = c.in-Some.ensures.orders ∙ inv.orders_are;
      first = inv.first ∙ passed-next grid os _ _ _ n.first m;
    }
