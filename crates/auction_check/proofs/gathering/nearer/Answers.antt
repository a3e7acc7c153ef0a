use Rattle.std.proofs.Common.{◌≡◌, ◌≢◌, true, false, eqb, [], ◌∷◌, ◌++◌, Some, find, refl, rules, sym, ap, ◌∙◌, append_assoc, append-nil, eq-eqb}
use Rattle.std.proofs.lemmas.Bool.{eqb-true}
use Rattle.mkt_base.specs.Book.{sums_at}
use Rattle.auction_law.specs.Attempt.{chosen, meets, nearer_prices}
use Rattle.auction_check.proofs.CheckLemmas.{find-other, find-passes, sums_before, sums_before-failed, sums_before-met}
use Rattle.auction_check.proofs.gathering.nearer.Goals as goal
use Rattle.auction_check.proofs.gathering.nearer.Goals.{in-Some+then-eq, in_default}

pub loop-price-init : goal.loop-price-init
unfolding chosen nearer_prices
loop-price-init c = record {
  found = rw c.new-nearest.ensures c.requires.chosen;
  all = rw (c.new-rejected.ensures.items, c.new-nearest.ensures) refl;
}

pub loop-price-preserved : goal.loop-price-preserved
loop-price-preserved c =
    let grid = c.args.grid.now in
    let orders = c.args.orders.now in
    let kept = c.loop-price.invariant in
    let p = c.in-Some.price.0 in
    let more = c.next.new.self in
    let found : find (meets grid orders) (p ∷ more) ≡ Some c.args.last.0 = rw c.in-Some.ensures at kept.found in
    let other : p ≢ c.args.last.0 = λ same. let equal = eq-eqb p c.args.last.0 same in let not_equal : eqb p c.args.last.0 ≡ false = sym c.eq.ensures ∙ c.if-eq.false in cc in
    let failed = find-other (meets grid orders) p more c.args.last.0 found other in
    let here : sums_before grid orders c.loop-price.nearest ≡ sums_at grid orders p ∷ sums_before grid orders more =
    ap (sums_before grid orders) c.in-Some.ensures ∙ sums_before-failed grid orders p more failed.0 in
    let grown : c.push.new.self.items ≡ c.loop-price.rejected.items ++ c.plain_sums.result ∷ [] = search rules in
    let all = ap (λ xs. xs ++ sums_before grid orders more) (grown ∙ ap (λ s. c.loop-price.rejected.items ++ s ∷ []) c.plain_sums.ensures)
    ∙ append_assoc c.loop-price.rejected.items (sums_at grid orders p ∷ []) (sums_before grid orders more) in
    record { found = failed.1; all = all ∙ ap (λ xs. c.loop-price.rejected.items ++ xs) (sym here) ∙ kept.all }

pub returns : goal.returns
returns c =
    let grid = c.args.grid.now in
    let orders = c.args.orders.now in
    let kept = c.loop-price.invariant in
    let none : sums_before grid orders c.loop-price.nearest ≡ [] = elim c.match-next.branch [
      | in-Some+then-eq w ↦
          let p = w.in-Some.price.0 in
          let more = c.next.new.self in
          let found : find (meets grid orders) (p ∷ more) ≡ Some c.args.last.0 = rw w.in-Some.ensures at kept.found in
          let same : p ≡ c.args.last.0 = eqb-true p c.args.last.0 (sym w.eq.ensures ∙ w.if-eq.true) in
          let met : meets grid orders p ≡ true = rw same (find-passes (meets grid orders) (p ∷ more) c.args.last.0 found) in
          ap (sums_before grid orders) w.in-Some.ensures ∙ sums_before-met grid orders p more met
      | in_default w ↦ ap (sums_before grid orders) w.in_default.ensures.0
    ] in
    sym (append-nil c.loop-price.rejected.items) ∙ ap (λ xs. c.loop-price.rejected.items ++ xs) (sym none) ∙ kept.all
