use Rattle.std.proofs.Common.{◌≡◌, ℕ, true, false, List, [], ◌∷◌, ◌++◌, map, rules, sym, ap, subst, ◌∙◌, append_assoc, append-nil}
use Rattle.mkt_base.specs.Book.{price_at, sums_at}
use Rattle.mkt_base.specs.declared.auction.Sums.{Sums}
use Rattle.auction_law.specs.Attempt.{meets}
use Rattle.auction_law.proofs.ChoiceLemmas.{meets-of_sums}
use Rattle.auction_check.proofs.CheckLemmas.{sums_before, sums_before-failed, sums_before-met}
use Rattle.itayose.proofs.TellingLemmas.{meets-next, next_of, none-nearer, reference-nearer}
use Rattle.itayose.proofs.WalkLemmas.{begins}
use Rattle.level_auction.proofs.gathering.nearer.Goals as goal

pub returns-then-meets : goal.returns-then-meets
returns-then-meets c =
    let grid = c.args.grid.now in
    let os = c.args.levels.now.orders in
    let r = price_at grid c.args.reference in
    let s = c.plain_sums-sums.result in
    let sums : s ≡ sums_at grid os r = subst (λ xs. s ≡ sums_at grid xs r) c.as_slice.ensures.orders c.plain_sums-sums.ensures in
    let m : meets grid os r ≡ true = sym (c.meets.ensures ∙ meets-of_sums grid os r s sums) ∙ c.if-meets.true in
    let all : List ℕ → List Sums = λ ps. map (sums_at grid os) ps in
    c.new-rejected.ensures.items ∙ sym (ap all (none-nearer grid os r _ (begins grid c.args.reference c.requires.can.rising c.requires.in_range) m))

pub loop-sums-init : goal.loop-sums-init
loop-sums-init c =
    let grid = c.args.grid.now in
    let os = c.args.levels.now.orders in
    let r = price_at grid c.args.reference in
    let s = c.plain_sums-sums.result in
    let sums : s ≡ sums_at grid os r = subst (λ xs. s ≡ sums_at grid xs r) c.as_slice.ensures.orders c.plain_sums-sums.ensures in
    let m : meets grid os r ≡ false = sym (c.meets.ensures ∙ meets-of_sums grid os r s sums) ∙ c.if-meets.false in
    let all : List ℕ → List Sums = λ ps. map (sums_at grid os) ps in
    let first : c.push.new.self.items ≡ s ∷ [] = search rules in
    record {
      grid_is = c.new-rest.ensures.grid;
      orders_are = c.new-rest.ensures.orders;
      all = ap (λ xs. xs ++ sums_before grid os c.new-rest.result.left) (first ∙ ap (λ t. t ∷ []) sums)
          ∙ sym (ap all (reference-nearer grid os r c.new-rest.result.left c.new-rest.ensures.left m));
    }

pub returns-then-meets-2 : goal.returns-then-meets-2
returns-then-meets-2 c =
    let grid = c.args.grid.now in
    let os = c.args.levels.now.orders in
    let inv = c.loop-sums.invariant in
    let i = c.in-Some.field-0-0 in
    let n = next_of grid os c.loop-sums.rest i c.in-Some.sums c.next.new.self.left inv.grid_is inv.orders_are c.in-Some.ensures.next in
    let m = meets-next grid os i c.in-Some.sums _ _ n c.meets-in-Some.result c.meets-in-Some.ensures ∙ c.if-meets-2.true in
    let none : sums_before grid os c.loop-sums.rest.left ≡ [] = ap (sums_before grid os) n.first ∙ sums_before-met grid os (price_at grid i) c.next.new.self.left m in
    sym (append-nil c.loop-sums.rejected.items) ∙ ap (λ xs. c.loop-sums.rejected.items ++ xs) (sym none) ∙ inv.all

pub loop-sums-preserved : goal.loop-sums-preserved
loop-sums-preserved c =
    let grid = c.args.grid.now in
    let os = c.args.levels.now.orders in
    let inv = c.loop-sums.invariant in
    let i = c.in-Some.field-0-0 in
    let p = price_at grid i in
    let more = c.next.new.self.left in
    let n = next_of grid os c.loop-sums.rest i c.in-Some.sums more inv.grid_is inv.orders_are c.in-Some.ensures.next in
    let m = meets-next grid os i c.in-Some.sums _ _ n c.meets-in-Some.result c.meets-in-Some.ensures ∙ c.if-meets-2.false in
    let before = c.loop-sums.rejected.items in
    let grown : c.push-in-Some.new.self.items ≡ before ++ c.in-Some.sums ∷ [] = search rules in
    let here : sums_before grid os c.loop-sums.rest.left ≡ sums_at grid os p ∷ sums_before grid os more = ap (sums_before grid os) n.first ∙ sums_before-failed grid os p more m in
    record {
      grid_is = c.in-Some.ensures.grid ∙ inv.grid_is;
      orders_are = c.in-Some.ensures.orders ∙ inv.orders_are;
      all = ap (λ xs. xs ++ sums_before grid os more) (grown ∙ ap (λ s. before ++ s ∷ []) n.sums)
          ∙ append_assoc before (sums_at grid os p ∷ []) (sums_before grid os more) ∙ ap (λ xs. before ++ xs) (sym here) ∙ inv.all;
    }
