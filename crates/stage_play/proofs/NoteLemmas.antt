-- Notes that are added up, and what stands on a board.
use Rattle.std.proofs.Common.{◌≡◌, ℕ, zero, suc, ◌<◌, ◌≤◌, ◌+◌, ◌==◌, ◌||◌, Bool, true, false, List, [], ◌∷◌, length, drop, slice_index_or, slice_set, refl, sym, ap, subst, ◌∙◌, arith}
use Rattle.std.proofs.lemmas.Bool.{eqb-false, eqb-true, ltb-false, ltb-true}
use Rattle.std.proofs.lemmas.Bool.Decides.{nat_tests}
use Rattle.std.proofs.lemmas.Grind.{get_or-set_at}
use Rattle.std.proofs.lemmas.List.{get_or-set_other, length-set, set_past}
use Rattle.std.proofs.Math.Seq.{drop-cons}
use Rattle.std.proofs.Common.{nat_lt}
use Rattle.stage_play.specs.Blocks.{noted, nothing}
use Rattle.stage_play.specs.Seen.{joined}
use Rattle.stage_play.specs.declared.notes.Note.{Note}
use Rattle.stage_play.specs.declared.seen.Sight.{Sight}

-- all of one sight is in the other
pub record InSight (s t : Sight) : Type 0 where
  pub seen : s.seen ≤ t.seen
  pub halted : s.halted ≡ true → t.halted ≡ true

in-itself : (s : Sight) → InSight s s
in-itself s = record { seen = omega arith; halted = λ is. is }

in-both : (a b c : Sight) → InSight a b → InSight b c → InSight a c
in-both a b c first second = record { seen = (let p = first.seen in let q = second.seen in omega (arith, p, q)); halted = λ is. second.halted (first.halted is) }

in-left : (a b : Sight) → InSight a (joined a b)
in-left a b = record { seen = grind (arith, nat_tests); halted = λ is. ap (λ (x : Bool). x || b.halted) is }

in-right : (a b : Sight) → InSight b (joined a b)
in-right a b = record { seen = grind (arith, nat_tests); halted = λ is. or-right a.halted b.halted is }
  where
    or-right : (x y : Bool) → y ≡ true → (x || y) ≡ true
    or-right true y is = refl
    or-right false y is = is

-- one note added
abbrev pub with_note : List Sight → Note → List Sight
with_note sights n = slice_set sights n.issue (joined (slice_index_or sights n.issue nothing) n.sight)

-- what was known is still known with a note more
grows-one : (sights : List Sight) (n : Note) (i : ℕ) → InSight (slice_index_or sights i nothing) (slice_index_or (with_note sights n) i nothing)
grows-one sights n i = by (i == n.issue) (nat_lt n.issue (length sights)) refl refl
  where
    by : (b c : Bool) → (i == n.issue) ≡ b → nat_lt n.issue (length sights) ≡ c → InSight (slice_index_or sights i nothing) (slice_index_or (with_note sights n) i nothing)
    by true true e f =
        let is = eqb-true i n.issue e in
        subst (λ (t : Sight). InSight (slice_index_or sights i nothing) t) (sym (get_or-set_at sights n.issue i (joined (slice_index_or sights n.issue nothing) n.sight) nothing is (ltb-true n.issue (length sights) f)))
        (subst (λ (k : ℕ). InSight (slice_index_or sights i nothing) (joined (slice_index_or sights k nothing) n.sight)) is (in-left (slice_index_or sights i nothing) n.sight))
    by true false e f =
        subst (λ (ts : List Sight). InSight (slice_index_or sights i nothing) (slice_index_or ts i nothing)) (sym (set_past sights n.issue (joined (slice_index_or sights n.issue nothing) n.sight) (ltb-false n.issue (length sights) f)))
        (in-itself (slice_index_or sights i nothing))
    by false c e f =
        subst (λ (t : Sight). InSight (slice_index_or sights i nothing) t) (sym (get_or-set_other sights n.issue i (joined (slice_index_or sights n.issue nothing) n.sight) nothing (eqb-false i n.issue e)))
        (in-itself (slice_index_or sights i nothing))

grows : (ns : List Note) (sights : List Sight) (i : ℕ) → InSight (slice_index_or sights i nothing) (slice_index_or (noted sights ns) i nothing)
grows [] sights i = in-itself (slice_index_or sights i nothing)
grows (n ∷ ns) sights i =
    in-both (slice_index_or sights i nothing) (slice_index_or (with_note sights n) i nothing) (slice_index_or (noted (with_note sights n) ns) i nothing) (grows-one sights n i) (grows ns (with_note sights n) i)

-- what is noted is known
pub note-within : (ns : List Note) (sights : List Sight) (j : ℕ) (d : Note) → j < length ns → (slice_index_or ns j d).issue < length sights
    → InSight (slice_index_or ns j d).sight (slice_index_or (noted sights ns) (slice_index_or ns j d).issue nothing)
note-within [] sights j d within there = absurd (omega (arith, within))
note-within (n ∷ ns) sights zero d within there =
    in-both n.sight (slice_index_or (with_note sights n) n.issue nothing) (slice_index_or (noted (with_note sights n) ns) n.issue nothing)
    (subst (λ (t : Sight). InSight n.sight t) (sym (get_or-set_at sights n.issue n.issue (joined (slice_index_or sights n.issue nothing) n.sight) nothing refl there)) (in-right (slice_index_or sights n.issue nothing) n.sight))
    (grows ns (with_note sights n) n.issue)
note-within (n ∷ ns) sights (suc j) d within there =
    note-within ns (with_note sights n) j d (omega (arith, within)) (subst (λ (m : ℕ). (slice_index_or ns j d).issue < m) (sym (length-set sights n.issue (joined (slice_index_or sights n.issue nothing) n.sight))) there)

-- a note more of those on the board
pub noted-more : (board : List Note) (i : ℕ) (n : Note) (sights now all : List Sight) → i < length board → n ≡ slice_index_or board i n → now ≡ with_note sights n → noted sights (drop i board) ≡ all → noted now (drop (i + 1) board) ≡ all
noted-more board i n sights now all within is with-it before =
    ap (λ (ss : List Sight). noted ss (drop (i + 1) board)) with-it
    ∙ ap (λ (m : Note). noted (with_note sights m) (drop (i + 1) board)) is ∙ ap (λ (k : ℕ). noted (with_note sights (slice_index_or board i n)) (drop k board)) one-more
    ∙ ap (λ (ns : List Note). noted sights ns) (sym (drop-cons board i n within)) ∙ before
  where
    one-more : i + 1 ≡ suc i
    one-more = omega arith
