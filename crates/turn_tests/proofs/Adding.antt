-- What a journal's marks are after an event, and that it is a turn's.
use Rattle.std.proofs.Common.{◌≡◌, ℕ, List, [], ◌∷◌, ◌++◌, map, refl, sym, ap, ◌∙◌, append-nil, arith}
use Rattle.std.specs.Prelude.{Option, Some, None, Bool, true, false, cond, is_some}
use Rattle.std.proofs.lemmas.List.{map_push}
use Rattle.mkt_base.specs.declared.event.Entry.{Entry}
use Rattle.mkt_base.specs.declared.journal.Halt.{Halt}
use Rattle.turn_cell.specs.Marks.{marks_in, IsTurn}
use Rattle.turn_cell.specs.declared.value.Mark.{Mark}
use Rattle.turn_cell.specs.declared.value.Mark.TheVariants.{Made, Ended}

-- what one turn of a caller has added
abbrev pub Adds : ℕ → ℕ → List Mark → List Mark → Type 0
Adds caller own before after = (added : List Mark) × (after ≡ before ++ added) × IsTurn caller own added

pub adds_nothing : (caller own : ℕ) (before after : List Mark) → after ≡ before → Adds caller own before after
adds_nothing caller own before after same = ([], same ∙ sym (append-nil before), tt)

pub adds_entry : (caller own : ℕ) (es : List Entry) (e : Entry) → e.caller.0 ≡ caller → e.own ≡ own → Adds caller own (marks_in es None) (marks_in (es ++ e ∷ []) None)
adds_entry caller own es e who which = (
  Made e ∷ [],
  append-nil (map Made (es ++ e ∷ [])) ∙ (map_push Made es e ∙ ap (λ (l : List Mark). l ++ Made e ∷ []) (sym (append-nil (map Made es)))),
  (who, which, λ k d h. absurd (omega arith)),
)

pub adds_halt : (caller own : ℕ) (es : List Entry) (h : Halt) → h.caller.0 ≡ caller → h.own ≡ own → Adds caller own (marks_in es None) (marks_in es (Some h))
adds_halt caller own es h who which = (
  Ended h ∷ [],
  ap (λ (l : List Mark). l ++ Ended h ∷ []) (sym (append-nil (map Made es))),
  (who, which, refl),
)

-- a push that may have failed, in a journal that has not ended
pub adds_pushed : (caller own : ℕ) (es after : List Entry) (e : Entry) (h : Option Halt) (ok : Bool) → is_some h ≡ false → after ≡ cond ok (es ++ e ∷ []) es → e.caller.0 ≡ caller → e.own ≡ own
    → Adds caller own (marks_in es h) (marks_in after h)
adds_pushed caller own es after e (Some h) ok open_yet is who which = absurd (let n : ◌≡◌ {A = ℕ} 1 0 = ap (λ b. cond b 1 0) open_yet in omega arith)
adds_pushed caller own es after e None true open_yet is who which =
    let a = adds_entry caller own es e who which in (a.0, ap (λ (l : List Entry). marks_in l None) is ∙ a.1, a.2)
adds_pushed caller own es after e None false open_yet is who which = adds_nothing caller own (marks_in es None) (marks_in after None) (ap (λ (l : List Entry). marks_in l None) is)

pub adds_stop : (caller own : ℕ) (es : List Entry) (before : Option Halt) (h : Halt) → is_some before ≡ false → h.caller.0 ≡ caller → h.own ≡ own → Adds caller own (marks_in es before) (marks_in es (Some h))
adds_stop caller own es (Some x) h open_yet who which = absurd (let n : ◌≡◌ {A = ℕ} 1 0 = ap (λ b. cond b 1 0) open_yet in omega arith)
adds_stop caller own es None h open_yet who which = adds_halt caller own es h who which
