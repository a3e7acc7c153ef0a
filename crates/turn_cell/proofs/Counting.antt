-- To count what a turn has added keeps the rule: the marks of the others stay as they know them.
use Rattle.std.proofs.Common.{◌≡◌, ℕ, zero, suc, ◌+◌, ◌%◌, ◌^◌, ◌<◌, ◌≤◌, ◌≢◌, ⊎_elim, List, [], ◌∷◌, ◌++◌, length, set, get_or, sym, refl, ap, ◌∙◌, subst, arith, append-nil, length-append, length-set, get_or-set_same, get_or-set_other}
use Rattle.std.specs.Prelude.{Option, Some, All}
use mathlib.Core.Logic.{dite}
use native.Mathlib.Decide.{dec_le}
use mathlib.Core.Option.{none}
use Rattle.atomic_table.specs.Table.{State, step, keeps, Allows}
use Rattle.atomic_table.proofs.Lists.{at_set}
use Rattle.turn_cell.specs.Marks.{entries_in, marks_of, StartsTurn, Begins, IsTurn, own_mark, added_to, Owned}
use Rattle.turn_cell.specs.Views.{total, only, ready_at, named_gone, has_ticket, is_ready, names_of, places_of, counted}
use Rattle.turn_cell.specs.Rule.{Places, IsInformed, Knows, Line}
use Rattle.turn_cell.specs.Steps.{Sat, counts}
use Rattle.turn_cell.specs.declared.value.Mark.{Mark}
use Rattle.turn_cell.specs.declared.view.Gone.{Gone}
use Rattle.turn_cell.specs.declared.view.Stage.TheVariants.{Noted, Ready}
use Rattle.turn_cell.specs.declared.view.View.{View}
use Rattle.turn_cell.proofs.Sums.{total-set, term_le, terms_le, only_same}
use Rattle.turn_cell.proofs.Marks.{marks_of-append, begins_refl, begins_trans, starts_append, turn_starts, turn_own, turn_other, added_is}
use Rattle.turn_cell.proofs.Lines.{ready_ticket, queue_same, places_same, lined, nobody_else_ready}
use Rattle.turn_cell.proofs.Seeing.{numbered_turn}
use Rattle.turn_cell.proofs.Turning.{differ}

zero_at : {A : Type 0} (f : A → ℕ) (l : List A) (k : ℕ) (d : A) → total f l ≡ 0 → k < length l → f (get_or l k d) ≡ 0
zero_at f [] k d e h = absurd (omega arith)
zero_at f (x ∷ xs) zero d e h = omega arith
zero_at f (x ∷ xs) (suc k) d e h = zero_at f xs k d (omega arith) (omega arith)

-- a caller that is not named among those that were met is none of them
unmet : (c : ℕ) (met : List Gone) → total (named_gone c) met ≡ 0 → All (λ (g : Gone). g.caller ≢ c) met
unmet c met e k d h = λ is. let z = zero_at (named_gone c) met k d e h in let one : only c (get_or met k d).caller ≡ 1 = only_same c (get_or met k d).caller is in absurd (omega arith)

same_marks : (log after rest : List Mark) (c : ℕ) (list : List Mark) → after ≡ log ++ rest → marks_of c rest ≡ [] → marks_of c log ≡ list → marks_of c after ≡ list
same_marks log after rest c list e nil is = ap (marks_of c) e ∙ (marks_of-append c log rest ∙ (ap (λ (l : List Mark). marks_of c log ++ l) nil ∙ (append-nil (marks_of c log) ∙ is)))

-- a longer journal in which what is new is of none of those that were met
met_more : (log after rest : List Mark) (met : List Gone) → after ≡ log ++ rest → All (λ (g : Gone). marks_of g.caller rest ≡ []) met
    → All (λ (g : Gone). marks_of g.caller log ≡ g.made) met → All (λ (g : Gone). marks_of g.caller after ≡ g.made) met
met_more log after rest met e theirs own k d h = let g : Gone = get_or met k d in same_marks log after rest g.caller g.made e (theirs k d h) (own k d h)

-- the caller's own list after its turn
owned_turn : (log after rest : List Mark) (c own : ℕ) (made : List Mark) (met : List Gone) → after ≡ log ++ rest → c ≢ 0 → IsTurn c own rest
    → All (λ (g : Gone). g.caller ≢ 0) met → All (λ (g : Gone). g.caller ≢ c) met
    → Owned log c made met → Owned after c (made ++ own_mark (added_to log after)) met
owned_turn log after rest c own made met e n turn real apart known = (
  ap (marks_of c) e ∙ (marks_of-append c log rest ∙ (ap (λ (l : List Mark). l ++ marks_of c rest) known.0
      ∙ ap (λ (l : List Mark). made ++ l) (turn_own c own rest n turn ∙ ap own_mark (sym (added_is log rest after e))))),
  met_more log after rest met e (λ k d h. turn_other c (get_or met k d).caller own rest (real k d h) (apart k d h) turn) known.1,
)

module _ {F : Type 0} where
  -- a caller that a view does not name is not its own, nor one that it has met
  unnamed : (c : ℕ) (u : View F) → names_of c u ≡ 0 → (u.caller ≢ c) × All (λ (g : Gone). g.caller ≢ c) u.met
  unnamed c u e = ((λ is. let one = only_same c u.caller is in absurd (omega arith)), unmet c u.met (omega arith))

  pub place_le : (n : ℕ) (log : List Mark) (vs : List (View F)) (c : ℕ) → Places n log vs → 0 < c → total (places_of c) vs ≤ 1
  place_le n log vs c p real = dite (dec_le c n) (λ within. omega (arith, p.placed c real within)) (λ past. omega (arith, p.beyond c (omega arith)))

  -- what another caller knows after a turn of the caller c
  informed_more : (n : ℕ) (log after rest : List Mark) (p : F) (c own : ℕ) (u : View F) → after ≡ log ++ rest → c ≢ 0 → IsTurn c own rest → u.caller ≢ 0
      → names_of c u ≡ 0 → IsInformed n log p u → IsInformed n after p u
  informed_more n log after rest p c own u e real turn its_real apart i =
      let not_named = unnamed c u apart in
      record {
        fixed_is = i.fixed_is;
        callers_is = i.callers_is;
        begins = begins_trans u.seen log after i.begins (rest, e, turn_starts c own rest real turn);
        shorter = i.shorter;
        own = (
          same_marks log after rest u.caller u.made e (turn_other c u.caller own rest its_real not_named.0 turn) i.own.0,
          met_more log after rest u.met e (λ k d h. turn_other c (get_or u.met k d).caller own rest (i.met_real k d h) (not_named.1 k d h) turn) i.own.1,
        );
        own_seen = i.own_seen;
        numbered = i.numbered;
        met_real = i.met_real;
      }

module _ {T F : Type 0} (marks : T → List Mark) (fixed : T → F) (n : ℕ) (p : F) where
  abbrev R : State (Option T) (View F) → Type 0
  R = Line marks fixed n p

  counts_bare : (slots id : ℕ) (v : View F) (x : T) (k own : ℕ) (rest : List Mark) → v.stage ≡ Ready → marks x ≡ v.seen ++ rest → IsTurn v.caller own rest → own ≡ length (entries_in v.made)
      → k + length v.seen ≡ length (marks x) → length (marks x) ≤ 9223372036854775808
      → Allows R slots id (v, (0, Some x) ∷ []) 48 (λ y. (y + k) % 2 ^ 64) (counts marks fixed (step slots 48 k 0 none) (v, (0, Some x) ∷ []))
  counts_bare slots id v x k own rest has_turn is turn next_own sum short s l wide at _ =
      let next : ℕ = get_or s.words 16 0 in let served : ℕ = get_or s.words 32 0 in let count : ℕ = get_or s.words 48 0 in
      let its = l.each id v at in let r = its.ready has_turn in let real = r.2 in let i = its.informed real in
      let after : List Mark = marks x in
      let more : after ≡ l.log ++ rest = is ∙ ap (λ (m : List Mark). m ++ rest) r.1 in
      let w : View F = counted v after in
      let counted_was : count ≡ length l.log = l.journal.counted in
      let long : length l.log ≡ length v.seen = ap length (sym r.1) in
      let wrap : (count + k) % 2 ^ 64 ≡ length after = omega arith in
      let y : ℕ = (count + k) % 2 ^ 64 in let sized = l.sized in
      let real_one : 0 < v.caller = omega arith in
      let named : only v.caller v.caller ≡ 1 = only_same v.caller v.caller refl in
      let room : total (places_of v.caller) s.views ≤ 1 = place_le n l.log s.views v.caller l.places real_one in
      let mine = term_le (places_of v.caller) s.views id v at in
      let owned = owned_turn v.seen after rest v.caller own v.made v.met is real turn i.met_real (unmet v.caller v.met (omega arith)) i.own_seen in
      let numbered = numbered_turn v.caller own v.made v.seen after rest is turn next_own i.numbered.0 in
      let has : has_ticket served v ≡ 1 = subst (λ (t : ℕ). has_ticket t v ≡ 1) r.0 (ready_ticket v has_turn) in
      let same_places = places_same n l.log s.views id v w l.places at refl (λ c. refl) (λ c. refl) in
      let starts : Begins v.seen after = (rest, is, turn_starts v.caller own rest real turn) in
      let in_turn : is_ready v ≡ 1 = ap ready_at has_turn in (
        w,
        keeps,
        tt,
        lined marks fixed n p (set s.words 48 y) s.homes (set s.views id w) after next served (length after)
            l.few_callers (length-set s.words 48 y ∙ l.sized) (get_or-set_other s.words 48 16 y 0 (λ e. omega arith)) (get_or-set_other s.words 48 32 y 0 (λ e. omega arith))
            (get_or-set_same s.words 48 y 0 (omega arith) ∙ wrap)
            (queue_same next served s.views l.queue id v w at refl (λ t. refl))
            record {
              one_slot = l.slot.one_slot;
              home = λ e. let moved = total-set is_ready s.views id v w at in let part = term_le is_ready s.views id v at in absurd (omega arith);
              out = λ h. l.slot.out (let part = term_le is_ready s.views id v at in omega arith);
            }
            record { counted = refl; short_log = short; turns_start = subst StartsTurn (sym more) (starts_append l.log rest l.journal.turns_start (turn_starts v.caller own rest real turn)) }
            record {
              whole = same_places.whole;
              placed = same_places.placed;
              beyond = same_places.beyond;
              silent = λ c a e. let before : total (names_of c) s.views ≡ 0 = omega (arith, total-set (names_of c) s.views id v w at) in
                  let part = term_le (names_of c) s.views id v at in
                  let apart : c ≢ v.caller = λ q. let one = only_same c v.caller (sym q) in omega arith in
                  same_marks l.log after rest c [] more (turn_other v.caller c own rest (λ z. omega arith) apart turn) (l.places.silent c a before);
            }
            (λ j u there. ⊎_elim
            (λ q. subst (Knows n served after p) q.1
            record {
              noted = λ e. absurd (differ Ready Noted (λ z. omega arith) (sym has_turn ∙ e));
              ready = λ _. (r.0, refl, real);
              few = its.few;
              few_met = its.few_met;
              informed = λ _. record {
                fixed_is = i.fixed_is;
                callers_is = i.callers_is;
                begins = begins_refl after;
                shorter = begins_trans v.short v.seen after i.shorter starts;
                own = owned;
                own_seen = owned;
                numbered = (numbered, i.numbered.1);
                met_real = i.met_real;
              };
            })
            (λ q. let o = l.each j u q.1 in let both = terms_le (places_of v.caller) s.views id j v u q.0 at q.1 in
            record {
              noted = o.noted;
              ready = λ e. absurd (nobody_else_ready marks fixed n p s id v l at has j u q.0 q.1 e);
              few = o.few;
              few_met = o.few_met;
              informed = λ its_real. informed_more n l.log after rest p v.caller own u more real turn its_real (omega arith) (o.informed its_real);
            })
            (at_set s.views id j w u there)),
        (refl, owned),
      )

  pub counts_added : (slots id : ℕ) (me : Sat T F) (v : View F) (x : T) (k own : ℕ) (rest : List Mark) → me ≡ (v, (0, Some x) ∷ []) → v.stage ≡ Ready → marks x ≡ v.seen ++ rest → IsTurn v.caller own rest → own ≡ length (entries_in v.made)
      → k ≡ length rest → length (marks x) ≤ 9223372036854775808
      → Allows R slots id me 48 (λ y. (y + k) % 2 ^ 64) (counts marks fixed (step slots 48 k 0 none) me)
  counts_added slots id me v x k own rest e has_turn is turn next_own sum short =
      let long : length (marks x) ≡ length v.seen + length rest = ap length is ∙ length-append v.seen rest in
      subst (λ (m : Sat T F). Allows R slots id m 48 (λ y. (y + k) % 2 ^ 64) (counts marks fixed (step slots 48 k 0 none) m)) (sym e)
      (counts_bare slots id v x k own rest has_turn is turn next_own (omega arith) short)
