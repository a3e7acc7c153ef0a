-- Names by number.
use Rattle.std.proofs.Common.{◌≡◌, ℕ, zero, suc, ◌<◌, Bool, true, false, ◌||◌, ltb, List, [], ◌∷◌, ◌++◌, length, take, Some, position, inl, inr, refl, sym, length-append, arith}
use Rattle.std.specs.List.{list_any, position_or_len}
use Rattle.std.specs.Str.{bytes_eq}
use Rattle.std.proofs.Math.Seq.{get_or-append_seam, take-append_seam}
use Rattle.std.proofs.lemmas.Bool.{cases_lt}
use Rattle.std.proofs.lemmas.Bool.Decides.{nat_tests}
use Rattle.std.proofs.lemmas.List.{get_or_append_left, take-append-le}
use Rattle.std.proofs.lemmas.Slice.Eq.{bytes_eq-Decides}
use Rattle.rules_file.specs.Keys.{AreDistinct, AreKept, name_at, stands_earlier}

first-fails : (a b : Bool) → (a || b) ≡ false → a ≡ false
first-fails true b h = h
first-fails false b h = refl

rest-fails : (a b : Bool) → (a || b) ≡ false → b ≡ false
rest-fails true b h = absurd (cc)
rest-fails false b h = h

-- the first name that passes a test, where none before it does
first-place : (p : List ℕ → Bool) (names : List (List ℕ)) (i : ℕ) → list_any p (take i names) ≡ false → i < length names → p (name_at names i) ≡ true → position_or_len p names ≡ i
first-place p [] i none within passes = absurd (omega (arith, within))
first-place p (name ∷ names) zero none within passes = rw passes refl
first-place p (name ∷ names) (suc i) none within passes =
    let fails = first-fails (p name) (list_any p (take i names)) none in
    let rest = first-place p names i (rest-fails (p name) (list_any p (take i names)) none) (omega (arith, within)) passes in
    rw fails (omega (arith, rest))

-- the number of a name, where it stands
pub position-at : (names : List (List ℕ)) (word : List ℕ) (i : ℕ) → AreDistinct names → i < length names → name_at names i ≡ word → position (bytes_eq word) names ≡ Some i
unfolding stands_earlier
position-at names word i distinct within is =
    let none : list_any (bytes_eq word) (take i names) ≡ false = rw is at (distinct i within) in
    let place = first-place (bytes_eq word) names i none within ((bytes_eq-Decides word (name_at names i)).1 (sym is)) in
    let found : ltb i (length names) ≡ true = grind (arith, nat_tests) in
    rw (place, found) refl

-- a new name more
pub AreKept-push : (names : List (List ℕ)) (name : List ℕ) → AreKept names → length names < 64 → list_any (bytes_eq name) names ≡ false → AreKept (names ++ name ∷ [])
unfolding stands_earlier
AreKept-push names name kept few fresh = record {
  few = omega (arith, length-append names (name ∷ []), few);
  distinct = λ k within. elim (cases_lt k (length names)) [ inl before ↦ old k before | inr behind ↦ new k (omega (arith, within, behind, length-append names (name ∷ []))) ];
}
  where
    old : (k : ℕ) → k < length names → list_any (bytes_eq (name_at (names ++ name ∷ []) k)) (take k (names ++ name ∷ [])) ≡ false
    old k before = rw (get_or_append_left names (name ∷ []) [] k before, take-append-le k names (name ∷ []) (omega (arith, before))) (kept.distinct k before)

    new : (k : ℕ) → k ≡ length names → list_any (bytes_eq (name_at (names ++ name ∷ []) k)) (take k (names ++ name ∷ [])) ≡ false
    new k last = rw (last, get_or-append_seam names name [] [], take-append_seam names (name ∷ [])) fresh
