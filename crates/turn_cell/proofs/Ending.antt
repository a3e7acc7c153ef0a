-- The rule at the start, and what it says when all callers are back.
use Rattle.std.proofs.Common.{◌≡◌, ℕ, zero, suc, ◌+◌, ◌-◌, ◌<◌, ◌≤◌, ◌≢◌, List, [], ◌∷◌, ◌++◌, length, get_or, sym, refl, ap, ◌∙◌, subst, arith}
use Rattle.std.specs.Prelude.{Option, Some, All}
use Rattle.std.proofs.lemmas.Bool.Decides.{nat_tests}
use Rattle.std.proofs.lemmas.List.Elements.{All-head, All-tail}
use mathlib.Core.Logic.{dite}
use native.Mathlib.Decide.{dec_le, ℕ_discrete}
use mathlib.Core.Option.{some, some-injective, some-ne-none}
use lib.ListN.{get_elem?}
use Rattle.atomic_table.specs.Table.{State, opening, Final, Seen}
use Rattle.turn_cell.specs.Marks.{Numbered, marks_of, Begins, added_to, Owned}
use Rattle.turn_cell.specs.Views.{total, only, lives, in_block, named_gone, is_ready, size_of, names_of, first_view}
use Rattle.turn_cell.specs.Rule.{Knows, Line}
use Rattle.turn_cell.specs.declared.value.Mark.{Mark}
use Rattle.turn_cell.specs.declared.view.Gone.{Gone}
use Rattle.turn_cell.specs.declared.view.Stage.TheVariants.{Idle, Noted, Ready}
use Rattle.turn_cell.specs.declared.view.View.{View}
use Rattle.turn_cell.proofs.Sums.{some_term, terms_le, only_else, lives_real}
use Rattle.turn_cell.proofs.Marks.{begins_refl, nobody_more, nothing_more, none_before, added_is}
use Rattle.turn_cell.proofs.Lines.{ready_stage, lined}
use Rattle.turn_cell.proofs.Turning.{differ, some_same}

-- all callers but the first stand in its block
first_place : (c n : ℕ) → 0 < c → c ≤ n → (only c 1 + 0) + in_block c (n - 1) n + 0 ≡ 1
first_place c n real within = grind (arith, nat_tests)

no_place : (c n : ℕ) → 0 < n → n < c → (only c 1 + 0) + in_block c (n - 1) n + 0 ≡ 0
no_place c n some_caller past = grind (arith, nat_tests)

none_met : {A : Type 0} (f : A → ℕ) (l : List A) → length l ≡ 0 → total f l ≡ 0
none_met f [] e = refl
none_met f (x ∷ xs) e = absurd (omega arith)

all_at : {A : Type 0} (P : A → Type 0) (l : List A) (j : ℕ) (a : A) → All P l → get_elem? l j ≡ some a → P a
all_at P [] j a h e = absurd (some-ne-none a (sym e))
all_at P (x ∷ xs) zero a h e = subst P (some-injective x a e) (All-head P x xs h)
all_at P (x ∷ xs) (suc j) a h e = all_at P xs j a (All-tail P x xs h) e

-- a view without callers names none
spent_names : {F : Type 0} (c : ℕ) (u : View F) → size_of u ≡ 0 → c ≢ 0 → 0 < names_of c u → ⊥
spent_names c u empty ne pos =
    let nobody : total (named_gone c) u.met ≡ 0 = none_met (named_gone c) u.met (omega arith) in
    dite (ℕ_discrete u.caller 0)
    (λ (e : u.caller ≡ 0). let z = only_else c u.caller (λ q. ne (sym q ∙ e)) in omega arith)
    (λ real. let one : lives u.caller ≡ 1 = lives_real u.caller real in omega arith)

none_behind : (c : ℕ) (a l : List Mark) (b : Begins a l) → marks_of c l ≡ [] → marks_of c b.0 ≡ []
none_behind c a l b nil = nothing_more c a b.0 l [] b.1 (none_before c a l b nil) nil

-- a caller that is named has no marks behind what was seen
owned_behind : (c caller : ℕ) (seen rest log made : List Mark) (met : List Gone) → log ≡ seen ++ rest → Owned seen caller made met → Owned log caller made met
    → 0 < only c caller + total (named_gone c) met → marks_of c rest ≡ []
owned_behind c caller seen rest log made met e here all named =
    dite (ℕ_discrete caller c)
    (λ (is : caller ≡ c). subst (λ (d : ℕ). marks_of d rest ≡ []) is (nothing_more caller seen rest log made e here.0 all.0))
    (λ ne. let z = only_else c caller ne in let t = some_term (named_gone c) met (omega arith) in
    let is : t.1.caller ≡ c = named_is c t.1 t.3 in
    subst (λ (d : ℕ). marks_of d rest ≡ []) is
    (nothing_more t.1.caller seen rest log t.1.made e (all_at (λ (g : Gone). marks_of g.caller seen ≡ g.made) met t.0 t.1 here.1 t.2) (all_at (λ (g : Gone). marks_of g.caller log ≡ g.made) met t.0 t.1 all.1 t.2)))
  where
    named_is : (c : ℕ) (g : Gone) → 0 < named_gone c g → g.caller ≡ c
    named_is c g pos = dite (ℕ_discrete g.caller c) (λ (q : g.caller ≡ c). q) (λ ne. let z = only_else c g.caller ne in absurd (omega arith))

module _ {T F : Type 0} (marks : T → List Mark) (fixed : T → F) (n : ℕ) where
  pub opens : (x : T) (ws : List ℕ) → 0 < n → n < 65536 → marks x ≡ [] → length ws ≡ 64 → get_or ws 16 0 ≡ 0 → get_or ws 32 0 ≡ 0 → get_or ws 48 0 ≡ 0
      → Line marks fixed n (fixed x) (opening ws (Some x ∷ []) (first_view n (fixed x)))
  opens x ws some_caller few nil sized a b c =
      let v : View F = first_view n (fixed x) in
      lined marks fixed n (fixed x) ws (some (Some x) ∷ []) (v ∷ []) [] 0 0 0 few sized a b c
      record {
        order = omega arith;
        all_turns = refl;
        in_line = λ t p q. absurd (omega arith);
        past = λ t p. absurd (omega arith);
        to_come = λ t p. refl;
      }
      record {
        one_slot = refl;
        home = λ _. (x, refl, nil, refl);
        out = λ h. absurd (omega arith);
      }
      record { counted = refl; short_log = omega arith; turns_start = tt }
      record {
        whole = omega arith;
        placed = λ d p q. first_place d n p q;
        beyond = λ d p. no_place d n some_caller p;
        silent = λ d p q. refl;
      }
      (λ j u there. one_view j u there
      record {
        noted = differ Idle Noted (λ z. omega arith);
        ready = differ Idle Ready (λ z. omega arith);
        few = omega arith;
        few_met = omega arith;
        informed = λ _. record {
          fixed_is = refl;
          callers_is = refl;
          begins = begins_refl [];
          shorter = begins_refl [];
          own = (refl, λ k d h. absurd (omega arith));
          own_seen = (refl, λ k d h. absurd (omega arith));
          numbered = ((λ k d h. absurd (omega arith)), λ k d h. absurd (omega arith));
          met_real = λ k d h. absurd (omega arith);
        };
      })
    where
      one_view : (j : ℕ) (u : View F) → get_elem? (first_view n (fixed x) ∷ []) j ≡ some u → Knows n 0 [] (fixed x) (first_view n (fixed x)) → Knows n 0 [] (fixed x) u
      one_view zero u e k = subst (Knows n 0 [] (fixed x)) (some-injective (first_view n (fixed x)) u e) k
      one_view (suc j) u e k = absurd (some-ne-none u (sym e))

  -- the same where the slots and the key are known by equations
  pub opens_at : (x y : T) (slots : List (Option T)) (ws : List ℕ) → slots ≡ Some x ∷ [] → y ≡ x → 0 < n → n < 65536 → marks x ≡ [] → length ws ≡ 64 → get_or ws 16 0 ≡ 0 → get_or ws 32 0 ≡ 0 → get_or ws 48 0 ≡ 0
      → Line marks fixed n (fixed y) (opening ws slots (first_view n (fixed y)))
  opens_at x y slots ws e q some_caller few nil sized a b c =
      subst (λ (z : T). Line marks fixed n (fixed z) (opening ws slots (first_view n (fixed z)))) (sym q)
      (subst (λ (l : List (Option T)). Line marks fixed n (fixed x) (opening ws l (first_view n (fixed x)))) (sym e) (opens x ws some_caller few nil sized a b c))

  module _ (p : F) where
    -- where one view has all callers, the value is at home, and its marks are those that the view has seen
    pub closes : (s : State (Option T) (View F)) (id : ℕ) (v : View F) → Line marks fixed n p s → get_elem? s.views id ≡ some v → v.stage ≡ Idle → v.caller ≢ 0
        → length v.met + v.block + 1 ≡ v.callers
        → (x : T) × (get_elem? s.homes 0 ≡ some (some (Some x))) × (marks x ≡ v.seen) × (Some (fixed x) ≡ v.fixed) × ((c : ℕ) → c ≢ 0 → names_of c v ≡ 0 → marks_of c v.seen ≡ []) × (Numbered v.made × All (λ (g : Gone). Numbered g.made) v.met)
    closes s id v l at idle real all_back =
        let i = (l.each id v at).informed real in
        let n_is = i.callers_is in let whole = l.places.whole in
        let one : lives v.caller ≡ 1 = lives_real v.caller real in
        let alone : (j : ℕ) (u : View F) → j ≢ id → get_elem? s.views j ≡ some u → size_of u ≡ 0 = λ j u apart there.
        let both = terms_le size_of s.views id j v u apart at there in omega arith in
        let calm : total is_ready s.views ≡ 0 = dite (dec_le (total is_ready s.views) 0) (λ z. omega arith)
        (λ some_one. let t = some_term is_ready s.views (omega arith) in let r = ready_stage t.1.stage t.3 in
        let apart : t.0 ≢ id = λ e. differ Idle Ready (λ z. omega arith) (sym idle ∙ (ap (λ (u : View F). u.stage) (some-injective v t.1 (sym at ∙ (ap (get_elem? s.views) (sym e) ∙ t.2))) ∙ r)) in
        let empty = alone t.0 t.1 apart t.2 in let its_real = ((l.each t.0 t.1 t.2).ready r).2 in let its_one : lives t.1.caller ≡ 1 = lives_real t.1.caller its_real in absurd (omega arith)) in
        let h = l.slot.home calm in
        -- a caller that the view does not name is named nowhere, and has no mark
        let silent : (c : ℕ) → c ≢ 0 → names_of c v ≡ 0 → marks_of c l.log ≡ [] = λ c ne e.
        l.places.silent c (omega arith) (dite (dec_le (total (names_of c) s.views) 0) (λ z. omega arith)
        (λ some_one. let t = some_term (names_of c) s.views (omega arith) in
        let apart : t.0 ≢ id = λ q. let same = some-injective v t.1 (sym at ∙ (ap (get_elem? s.views) (sym q) ∙ t.2)) in let named : names_of c t.1 ≡ 0 = subst (λ (u : View F). names_of c u ≡ 0) same e in let pos = t.3 in omega arith in
        absurd (spent_names c t.1 (alone t.0 t.1 apart t.2) ne t.3))) in
        let behind : (c : ℕ) → c ≢ 0 → marks_of c (added_to v.seen l.log) ≡ [] = λ c ne.
        ap (marks_of c) (added_is v.seen i.begins.0 l.log i.begins.1)
        ∙ dite (ℕ_discrete (names_of c v) 0)
        (λ e. none_behind c v.seen l.log i.begins (silent c ne e))
        (λ named. owned_behind c v.caller v.seen i.begins.0 l.log v.made v.met i.begins.1 i.own_seen i.own (omega arith)) in
        let all_seen : l.log ≡ v.seen = nobody_more v.seen l.log i.begins behind in
        (h.0, h.1, h.2 ∙ all_seen, ap Some h.3 ∙ sym i.fixed_is, (λ c ne e. ap (marks_of c) (sym all_seen) ∙ silent c ne e), i.numbered)

    -- the value of a cell that is closed
    pub closed : (words : List ℕ) (slots : List (Option T)) (id : ℕ) (v : View F) (taken : Option T) → Final (Seen (Line marks fixed n p) id v) words slots → v.stage ≡ Idle → v.caller ≢ 0
        → length v.met + v.block + 1 ≡ v.callers → get_elem? slots 0 ≡ some taken
        → (x : T) × (taken ≡ Some x) × (marks x ≡ v.seen) × (Some (fixed x) ≡ v.fixed) × ((c : ℕ) → c ≢ 0 → names_of c v ≡ 0 → marks_of c v.seen ≡ []) × (Numbered v.made × All (λ (g : Gone). Numbered g.made) v.met)
    closed words slots id v taken final idle real all_back at =
        let t = closes final.0 id v final.1.0 final.1.1 idle real all_back in
        (t.0, some-injective taken (Some t.0) (sym at ∙ final.4 0 (Some t.0) t.1), t.2, t.3, t.4, t.5)

    -- the same for the value that was taken out
    pub closed_as : (words : List ℕ) (slots : List (Option T)) (id : ℕ) (v : View F) (taken : Option T) (y : T) → Final (Seen (Line marks fixed n p) id v) words slots → v.stage ≡ Idle → v.caller ≢ 0
        → length v.met + v.block + 1 ≡ v.callers → get_elem? slots 0 ≡ some taken → taken ≡ Some y
        → (marks y ≡ v.seen) × (Some (fixed y) ≡ v.fixed) × ((c : ℕ) → c ≢ 0 → names_of c v ≡ 0 → marks_of c v.seen ≡ []) × (Numbered v.made × All (λ (g : Gone). Numbered g.made) v.met)
    closed_as words slots id v taken y final idle real all_back at is =
        let t = closed words slots id v taken final idle real all_back at in
        let same : t.0 ≡ y = some_same t.0 y (sym t.1 ∙ is) in
        (ap marks (sym same) ∙ t.2, ap (λ (x : T). Some (fixed x)) (sym same) ∙ t.3, t.4, t.5)
