use Rattle.std.proofs.Common.{◌≡◌, ◌≢◌, ◌↔◌, true, false, eqb, [], ◌∷◌, Some, find, sym, ap, ◌∙◌, eq-eqb}
use Rattle.std.proofs.lemmas.Bool.{eqb-true}
use Rattle.mkt_base.specs.Book.{sums_at}
use Rattle.auction_law.specs.Attempt.{chosen, meets, nearer_prices}
use Rattle.auction_check.proofs.CheckLemmas.{find-other, find-passes, iff_then, same-cons, sums_before, sums_before-failed, sums_before-met}
use Rattle.auction_check.proofs.checking.are_nearer.Goals as goal
use Rattle.auction_check.proofs.checking.are_nearer.Goals.{in-Some+then-eq, in_default}

pub loop-price-init : goal.loop-price-init
unfolding chosen nearer_prices
loop-price-init c = record {
  found = rw c.new-nearest.ensures c.requires.chosen;
  same = rw c.new-nearest.ensures (λ all. all, λ all. all);
}

pub loop-price-preserved : goal.loop-price-preserved
loop-price-preserved c =
    let grid = c.args.grid.now in
    let orders = c.args.orders.now in
    let kept = c.loop-price.invariant in
    let p = c.in-Some.price.0 in
    let more = c.next.new.self in
    let found : find (meets grid orders) (p ∷ more) ≡ Some c.args.last.0 = rw c.in-Some.ensures at kept.found in
    let other : p ≢ c.args.last.0 = λ same. let equal = eq-eqb p c.args.last.0 same in let not_equal : eqb p c.args.last.0 ≡ false = sym c.eq.ensures ∙ c.if-eq.false in cc in
    let failed = find-other (meets grid orders) p more c.args.last.0 found other in
    let here : sums_before grid orders c.loop-price.nearest ≡ sums_at grid orders p ∷ sums_before grid orders more =
    ap (sums_before grid orders) c.in-Some.ensures ∙ sums_before-failed grid orders p more failed.0 in
    let first : c.in-Some-cut_first.sums ≡ sums_at grid orders p = c.is_same.ensures.0 c.if-not-is_same.false ∙ c.plain_sums.ensures in
    let cons = same-cons c.in-Some-cut_first.sums (sums_at grid orders p) c.in-Some-cut_first.more.now (sums_before grid orders more) first in
    record {
      found = failed.1;
      same = iff_then kept.same (λ e. cons.0 (sym c.in-Some-cut_first.ensures ∙ e ∙ here), λ e. c.in-Some-cut_first.ensures ∙ cons.1 e ∙ sym here);
    }

pub returns : goal.returns
returns c =
    let grid = c.args.grid.now in
    let orders = c.args.orders.now in
    let kept = c.loop-price.invariant in
    let none : sums_before grid orders c.loop-price.nearest ≡ [] = elim c.match-next.branch [
      | in-Some+then-eq w ↦
          let p = w.in-Some.price.0 in
          let more = c.next.new.self in
          let found : find (meets grid orders) (p ∷ more) ≡ Some c.args.last.0 = rw w.in-Some.ensures at kept.found in
          let same : p ≡ c.args.last.0 = eqb-true p c.args.last.0 (sym w.eq.ensures ∙ w.if-eq.true) in
          let met : meets grid orders p ≡ true = rw same (find-passes (meets grid orders) (p ∷ more) c.args.last.0 found) in
          ap (sums_before grid orders) w.in-Some.ensures ∙ sums_before-met grid orders p more met
      | in_default w ↦ ap (sums_before grid orders) w.in_default.ensures.0
    ] in
    let left : (c.loop-price.left.now ≡ sums_before grid orders c.loop-price.nearest) ↔ (c.loop-price.left.now ≡ []) = (λ e. e ∙ none, λ e. e ∙ sym none) in
    let all = iff_then (iff_then kept.same left) (c.is_none_left.ensures.1, c.is_none_left.ensures.0) in
    (all.1, all.0)
