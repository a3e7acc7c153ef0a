-- Lines that are done at the desks: none, one, and some in a row.
use Rattle.std.proofs.Common.{◌≡◌, ℕ, ◌<◌, ◌==◌, Bool, true, false, cond, List, [], ◌∷◌, ◌++◌, length, map, filter, filter_map, refl, sym, ap, subst, ◌∙◌, append-nil, append_assoc, slice_index_or, slice_set}
use Rattle.std.proofs.lemmas.List.{map-append, get_or-set_other, get_or_default, length-set}
use Rattle.std.proofs.lemmas.Bool.{eqb-false, eqb-true}
use Rattle.std.proofs.lemmas.Grind.{get_or-set_at}
use Rattle.std.proofs.lemmas.List.Elements.{All-append, All-nil, filter-append, filter_map-append}
use Rattle.mkt_base.specs.Desk.{DeskState}
use Rattle.mkt_base.specs.declared.quote.Board.{Board}
use Rattle.mkt_base.specs.declared.script.ShowLine.{ShowLine}
use Rattle.mkt_base.specs.declared.units.Caller.{Caller}
use Rattle.gateway.specs.Ran.{Deed, Did, answers_at, show_of}
use Rattle.gateway.specs.Served.{Answer, Served, act_of}
use Rattle.gateway.proofs.Pairs.{all-one}
use Rattle.gateway.proofs.Serving.{served-nothing, served-then}

pub answers_at-append : (issue : ℕ) (xs ys : List Deed) → answers_at issue (xs ++ ys) ≡ answers_at issue xs ++ answers_at issue ys
answers_at-append issue xs ys =
    let here : Deed → Bool = λ x. x.line.issue == issue in
    ap (map (λ (x : Deed). x.answer)) (filter-append here xs ys) ∙ map-append (λ (x : Deed). x.answer) (filter here xs) (filter here ys)

abbrev WasAsked : Deed → Type 0
WasAsked x = act_of x.answer ≡ x.line.act

module _ {D F : Type 0} (state : D → DeskState) (fixed : D → F) (tells : D → Board → ℕ → Type 0) (gateway : Caller) where
  pub did-nothing : (shows : List ShowLine) (desks : List D) → Did state fixed tells gateway [] shows shows desks desks
  did-nothing shows desks = record {
    asked = All-nil WasAsked;
    shows_kept = sym (append-nil shows);
    each = refl;
    served = λ issue d within. served-nothing state fixed tells (slice_index_or desks issue d);
  }

  pub did-then : (xs ys : List Deed) (a b c : List ShowLine) (desks between after : List D) → Did state fixed tells gateway xs a b desks between → Did state fixed tells gateway ys b c between after → Did state fixed tells gateway (xs ++ ys) a c desks after
  did-then xs ys a b c desks between after first second = record {
    asked = All-append WasAsked xs ys first.asked second.asked;
    shows_kept = second.shows_kept ∙ ap (λ (ss : List ShowLine). ss ++ filter_map (show_of gateway) ys) first.shows_kept
        ∙ append_assoc a (filter_map (show_of gateway) xs) (filter_map (show_of gateway) ys)
        ∙ ap (λ (ss : List ShowLine). a ++ ss) (sym (filter_map-append (show_of gateway) xs ys));
    each = second.each ∙ first.each;
    served = λ issue d within. subst (λ (answers : List Answer). Served state fixed tells answers (slice_index_or desks issue d) (slice_index_or after issue d)) (sym (answers_at-append issue xs ys))
        (served-then state fixed tells (answers_at issue xs) (answers_at issue ys) (slice_index_or desks issue d) (slice_index_or between issue d) (slice_index_or after issue d)
        (first.served issue d within) (second.served issue d (subst (λ (n : ℕ). issue < n) (sym first.each) within)));
  }

  -- one line was done at the desk of its issue
  pub did-one : (x : Deed) (shows kept : List ShowLine) (desks : List D) (old new : D) → x.line.issue < length desks → slice_index_or desks x.line.issue old ≡ old → act_of x.answer ≡ x.line.act
      → kept ≡ shows ++ filter_map (show_of gateway) (x ∷ []) → Served state fixed tells (x.answer ∷ []) old new → Did state fixed tells gateway (x ∷ []) shows kept desks (slice_set desks x.line.issue new)
  did-one x shows kept desks old new within is asked kept_is served = record {
    asked = all-one WasAsked x asked;
    shows_kept = kept_is;
    each = length-set desks x.line.issue new;
    served = λ issue d there. at issue d there (x.line.issue == issue) refl;
  }
    where
      at : (issue : ℕ) (d : D) → issue < length desks → (here : Bool) → (x.line.issue == issue) ≡ here
          → Served state fixed tells (map (λ (y : Deed). y.answer) (cond here (x ∷ []) [])) (slice_index_or desks issue d) (slice_index_or (slice_set desks x.line.issue new) issue d)
      at issue d there true e =
          let same : x.line.issue ≡ issue = eqb-true x.line.issue issue e in
          let first : slice_index_or desks issue d ≡ old = get_or_default desks issue d old there ∙ ap (λ (n : ℕ). slice_index_or desks n old) (sym same) ∙ is in
          let second : slice_index_or (slice_set desks x.line.issue new) issue d ≡ new = get_or-set_at desks x.line.issue issue new d (sym same) within in
          subst (λ (a : D). Served state fixed tells (x.answer ∷ []) a (slice_index_or (slice_set desks x.line.issue new) issue d)) (sym first)
          (subst (λ (b : D). Served state fixed tells (x.answer ∷ []) old b) (sym second) served)
      at issue d there false e =
          let other : slice_index_or (slice_set desks x.line.issue new) issue d ≡ slice_index_or desks issue d =
          get_or-set_other desks x.line.issue issue new d (λ is. eqb-false x.line.issue issue e (sym is)) in
          subst (λ (b : D). Served state fixed tells [] (slice_index_or desks issue d) b) (sym other) (served-nothing state fixed tells (slice_index_or desks issue d))

  -- the same, at a place that is the issue's number
  pub did-at : (x : Deed) (shows kept : List ShowLine) (desks : List D) (place : ℕ) (d new : D) → place ≡ x.line.issue → x.line.issue < length desks → act_of x.answer ≡ x.line.act
      → kept ≡ shows ++ filter_map (show_of gateway) (x ∷ []) → Served state fixed tells (x.answer ∷ []) (slice_index_or desks place d) new → Did state fixed tells gateway (x ∷ []) shows kept desks (slice_set desks place new)
  did-at x shows kept desks place d new here within asked kept_is served =
      let old : D = slice_index_or desks place d in
      subst (λ (n : ℕ). Did state fixed tells gateway (x ∷ []) shows kept desks (slice_set desks n new)) (sym here)
      (did-one x shows kept desks old new within (get_or_default desks x.line.issue old d within ∙ ap (λ (n : ℕ). slice_index_or desks n d) (sym here)) asked kept_is served)
