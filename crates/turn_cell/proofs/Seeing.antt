-- What a pass keeps in numbers of what it has seen and made.
use Rattle.std.proofs.Common.{get_or, ◌≡◌, ℕ, suc, ◌+◌, ◌<◌, ◌≤◌, ◌≢◌, List, [], ◌∷◌, ◌++◌, map, length, cond, sym, refl, ap, ◌∙◌, subst, arith, length-append, append-nil}
use Rattle.std.specs.Prelude.{Option, Some, None, nat_lt, is_some}
use Rattle.std.proofs.lemmas.Bool.Decides.{nat_tests}
use Rattle.std.proofs.lemmas.List.{length-map, get_or_push, get_or_append_left}
use mathlib.Core.Logic.{dite}
use native.Mathlib.Decide.{dec_le}
use mir.Val.{bool_byte}
use Rattle.mkt_base.specs.declared.event.Entry.{Entry}
use Rattle.mkt_base.specs.declared.journal.Halt.{Halt}
use Rattle.atomic_table.specs.Table.{rest as slots_left}
use Rattle.turn_cell.specs.Marks.{Numbered, end_of, marks_in, entries_in, IsTurn, own_mark, added_to, Owned}
use Rattle.turn_cell.specs.Views.{counted, rested}
use Rattle.turn_cell.specs.Steps.{Sat}
use Rattle.turn_cell.specs.Kept.{numbers_of, with_own, sight_of, Rests, Acts}
use Rattle.turn_cell.specs.declared.view.View.{View}
use Rattle.turn_cell.specs.declared.pass.Numbers.{Numbers}
use Rattle.turn_cell.specs.declared.value.Mark.{Mark}
use Rattle.turn_cell.specs.declared.value.Mark.TheVariants.{Made, Ended}
use Rattle.turn_cell.specs.declared.pass.Sight.{Sight}
use Rattle.turn_cell.proofs.Marks.{entries_in-made, halt_in-made, added_is}

abbrev sight : ℕ → ℕ → Option Halt → Sight
sight marks entries halt = record { marks = marks; entries = entries; halt = halt }

one_halt : (h : Option Halt) → bool_byte (is_some h) ≡ length (end_of h)
one_halt None = refl
one_halt (Some h) = refl

pub sight_made : (es : List Entry) (h : Option Halt) (count one : ℕ) → count ≡ length es → one ≡ bool_byte (is_some h)
    → sight (count + one) count h ≡ sight_of (marks_in es h)
sight_made es h count one a b =
    let long : length (marks_in es h) ≡ length (map Made es) + length (end_of h) = length-append (map Made es) (end_of h) in
    let marks_are : count + one ≡ length (marks_in es h) = omega (arith, length-map es Made, one_halt h) in
    let entries_are : count ≡ length (entries_in (marks_in es h)) = a ∙ ap length (sym (entries_in-made es h)) in
    λ k. sight (marks_are k) (entries_are k) (sym (halt_in-made es h) k)

pub entries_in-append : (a b : List Mark) → entries_in (a ++ b) ≡ entries_in a ++ entries_in b
entries_in-append [] b = refl
entries_in-append (Made e ∷ a) b = ap (λ (l : List Entry). e ∷ l) (entries_in-append a b)
entries_in-append (Ended h ∷ a) b = entries_in-append a b

numbered_push : (es : List Entry) (e : Entry) → ((k : ℕ) (d : Entry) → k < length es → (get_or es k d).own ≡ k) → e.own ≡ length es
    → (k : ℕ) (d : Entry) → k < length (es ++ e ∷ []) → (get_or (es ++ e ∷ []) k d).own ≡ k
numbered_push es e all own k d h =
    dite (dec_le (length es) k)
    (λ last. let at_end : length es ≡ k = omega (arith, length-append es (e ∷ [])) in ap (λ (x : Entry). x.own) (get_or_push es e d k at_end) ∙ (own ∙ at_end))
    (λ before. let within : k < length es = omega arith in ap (λ (x : Entry). x.own) (get_or_append_left es (e ∷ []) d k within) ∙ all k d within)

-- the own numbers of what a caller made go on after its turn
pub numbered_turn : (c own : ℕ) (made seen marks rest : List Mark) → marks ≡ seen ++ rest → IsTurn c own rest → own ≡ length (entries_in made) → Numbered made
    → Numbered (made ++ own_mark (added_to seen marks))
numbered_turn c own made seen marks rest e turn next all =
    subst (λ (r : List Mark). Numbered (made ++ own_mark r)) (sym (added_is seen rest marks e)) (by_rest rest turn)
  where
    same : (l : List Mark) → entries_in l ≡ entries_in made → Numbered l
    same l q = subst (λ (es : List Entry). (k : ℕ) (d : Entry) → k < length es → (get_or es k d).own ≡ k) (sym q) all

    by_rest : (r : List Mark) → IsTurn c own r → Numbered (made ++ own_mark r)
    by_rest [] t = same (made ++ []) (ap entries_in (append-nil made))
    by_rest (Made x ∷ ms) t =
        subst (λ (es : List Entry). (k : ℕ) (d : Entry) → k < length es → (get_or es k d).own ≡ k) (sym (entries_in-append made (Made x ∷ [])))
        (numbered_push (entries_in made) x all (t.1 ∙ next))
    by_rest (Ended x ∷ ms) t = same (made ++ Ended x ∷ []) (entries_in-append made (Ended x ∷ []) ∙ append-nil (entries_in made))

-- the caller's next own number after a turn: one more where the turn added an entry
pub own_next : (made seen marks rest : List Mark) (c own : ℕ) → marks ≡ seen ++ rest → IsTurn c own rest
    → length (entries_in (made ++ own_mark (added_to seen marks))) ≡ length (entries_in made) + cond (nat_lt (length (entries_in seen)) (length (entries_in marks))) 1 0
own_next made seen marks rest c own e turn =
    ap (λ (r : List Mark). length (entries_in (made ++ own_mark r))) (added_is seen rest marks e)
    ∙ (by_rest rest turn ∙ ap (λ (l : List Mark). length (entries_in made) + cond (nat_lt (length (entries_in seen)) (length (entries_in l))) 1 0) (sym e))
  where
    by_rest : (r : List Mark) → IsTurn c own r → length (entries_in (made ++ own_mark r)) ≡ length (entries_in made) + cond (nat_lt (length (entries_in seen)) (length (entries_in (seen ++ r)))) 1 0
    by_rest [] t =
        let a : length (entries_in (made ++ [])) ≡ length (entries_in made) = ap (λ (l : List Mark). length (entries_in l)) (append-nil made) in
        let b : length (entries_in (seen ++ [])) ≡ length (entries_in seen) = ap (λ (l : List Mark). length (entries_in l)) (append-nil seen) in
        grind (arith, nat_tests)
    by_rest (Made x ∷ ms) t =
        let a : length (entries_in (made ++ Made x ∷ [])) ≡ length (entries_in made) + 1 = ap length (entries_in-append made (Made x ∷ [])) ∙ length-append (entries_in made) (x ∷ []) in
        let b : length (entries_in (seen ++ Made x ∷ ms)) ≡ length (entries_in seen) + suc (length (entries_in ms)) = ap length (entries_in-append seen (Made x ∷ ms)) ∙ length-append (entries_in seen) (x ∷ entries_in ms) in
        grind (arith, nat_tests)
    by_rest (Ended x ∷ ms) t =
        let a : length (entries_in (made ++ Ended x ∷ [])) ≡ length (entries_in made) + 0 = ap length (entries_in-append made (Ended x ∷ [])) ∙ length-append (entries_in made) [] in
        let nil : entries_in (Ended x ∷ ms) ≡ [] = ap entries_in t.2 in
        let b : length (entries_in (seen ++ Ended x ∷ ms)) ≡ length (entries_in seen) + 0 = ap length (entries_in-append seen (Ended x ∷ ms) ∙ ap (λ (l : List Entry). entries_in seen ++ l) nil) ∙ length-append (entries_in seen) [] in
        grind (arith, nat_tests)

module _ {T F : Type 0} where
  -- a pass after its turn
  pub rests_after : (v : View F) (held : List (ℕ × Option T)) (me : Sat T F) (marks rest : List Mark) (own : ℕ) (numbers after : Numbers) (start end : Sight)
      → Acts {T = T} (v, held) numbers start → me ≡ (rested (counted v marks), []) → Owned me.0.seen me.0.caller me.0.made me.0.met
      → marks ≡ v.seen ++ rest → IsTurn v.caller own rest
      → after ≡ with_own numbers (numbers.own + cond (nat_lt start.entries end.entries) 1 0) → end ≡ sight_of marks → Rests me after end
  rests_after v held me marks rest own numbers after start end i e owned is turn numbers_are sight_is =
      let next = own_next v.made v.seen marks rest v.caller own is turn in
      let bit : cond (nat_lt (length (entries_in v.seen)) (length (entries_in marks))) 1 0 ≤ 1 = grind (arith, nat_tests) in
      let few = i.entries in
      let its_own : numbers.own ≡ length (entries_in v.made) = ap (λ (x : Numbers). x.own) i.numbers_are in
      let before : start.entries ≡ length (entries_in v.seen) = ap (λ (x : Sight). x.entries) i.start_is in
      let behind : end.entries ≡ length (entries_in marks) = ap (λ (x : Sight). x.entries) sight_is in
      let own_is : numbers.own + cond (nat_lt start.entries end.entries) 1 0 ≡ length (entries_in (v.made ++ own_mark (added_to v.seen marks))) =
      (λ k. its_own k + cond (nat_lt (before k) (behind k)) 1 0) ∙ sym next in
      record {
        empty = ap (λ (m : Sat T F). m.1) e;
        idle = ap (λ (m : Sat T F). m.0.stage) e;
        real = subst (λ (m : Sat T F). m.0.caller ≢ 0) (sym e) i.real;
        block = subst (λ (m : Sat T F). m.0.block < m.0.callers) (sym e) i.block;
        entries = subst (λ (m : Sat T F). length (entries_in m.0.made) ≤ m.0.turns) (sym e) (omega arith);
        own = owned;
        numbers_are = numbers_are ∙ ((λ k. with_own (i.numbers_are k) (own_is k)) ∙ ap (λ (m : Sat T F). numbers_of m.0) (sym e));
        sight_is = sight_is ∙ ap (λ (m : Sat T F). sight_of m.0.seen) (sym e);
      }

  -- what a seat holds first
  pub held_first : (me : Sat T F) (v : View F) (y : Option T) → me ≡ (v, (0, y) ∷ []) → me.1 ≡ (0, y) ∷ slots_left me.1
  held_first me v y e = let held : me.1 ≡ (0, y) ∷ [] = ap (λ (m : Sat T F). m.1) e in held ∙ ap (λ (h : List (ℕ × Option T)). (0, y) ∷ slots_left h) (sym held)
