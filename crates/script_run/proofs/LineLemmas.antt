-- What is at a place of a list.
use Rattle.std.proofs.Common.{◌≡◌, ℕ, zero, suc, ◌<◌, ◌≤◌, List, [], ◌∷◌, ◌++◌, length, get_or, take, drop, Option, Some, refl, sym, ap, ◌∙◌, arith, append-nil}
use Rattle.std.proofs.lemmas.List.{take_all}
use Rattle.std.specs.List.{slice_get}
use Rattle.std.proofs.lemmas.Option.{slice_get-get_or}

pub at-place : {X : Type 0} (xs : List X) (j i : ℕ) (d : X) → j ≡ i → i < length xs → slice_get xs i ≡ Some (get_or xs j d)
at-place xs j i d same within = slice_get-get_or xs i d within ∙ ap (λ (k : ℕ). Some (get_or xs k d)) (sym same)

-- one place has one item
pub one-there : {X : Type 0} (o : Option X) (x y : X) → o ≡ Some x → o ≡ Some y → x ≡ y
one-there o x y first second = same x y (sym first ∙ second)
  where
    same : {Y : Type 0} (a b : Y) → Some a ≡ Some b → a ≡ b
    same a b is = cc

-- a list that was written as a slice and is as long as it was
pub written-back : {X : Type 0} (n : ℕ) (old new : List X) → length new ≡ n → length new ≡ length old → take n (new ++ drop (length new) old) ≡ new
written-back {X} n old new long same =
    ap (λ (xs : List X). take n (new ++ xs)) (nothing (length new) old (omega (arith, same))) ∙ ap (take n) (append-nil new) ∙ take_all n new (omega (arith, long))
  where
    nothing : (k : ℕ) (xs : List X) → length xs ≤ k → drop k xs ≡ []
    nothing zero [] past = refl
    nothing zero (x ∷ xs) past = absurd (omega (arith, past))
    nothing (suc k) [] past = refl
    nothing (suc k) (x ∷ xs) past = nothing k xs (omega (arith, past))

-- where nothing is left, the front is the whole
pub nothing-left : {X : Type 0} (front rest whole : List X) → length rest ≡ 0 → front ++ rest ≡ whole → front ≡ whole
nothing-left front [] whole none is = sym (append-nil front) ∙ is
nothing-left front (x ∷ rest) whole none is = absurd (omega (arith, none))
