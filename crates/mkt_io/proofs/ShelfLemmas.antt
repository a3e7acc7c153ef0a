-- A file of a shelf that is read to its end.
use Rattle.std.proofs.Common.{◌≡◌, ℕ, ◌≤◌, List, [], ◌++◌, Option, Some, None, IfSome, IsSomeAnd, length, take, sym, ap, subst, ◌∙◌, append-nil}
use Rattle.std.proofs.lemmas.List.{take_all}
use Rattle.mkt_io.specs.Shelf.{ReadSoFar}

all-read : (known left : Option (List ℕ)) (bytes : List ℕ) (n room : ℕ) → IsSomeAnd known (λ all. (rest : List ℕ) × (left ≡ Some rest) × (all ≡ bytes ++ rest)) → IfSome left (λ rest. n ≡ 0 → rest ≡ []) → n ≡ 0 → length bytes ≤ room
    → IsSomeAnd known (λ all. bytes ≡ take room all)
all-read None left bytes n room so end none within = absurd so
all-read (Some all) left bytes n room so end none within =
    let P : Option (List ℕ) → Type 0 = λ l. IfSome l (λ rest. n ≡ 0 → rest ≡ []) in
    let empty : so.0 ≡ [] = subst P so.1 end none in
    let same : all ≡ bytes = so.2 ∙ ap (λ z. bytes ++ z) empty ∙ append-nil bytes in
    sym (ap (take room) same ∙ take_all room bytes within)

-- where a read gave nothing, what was read is the whole file
pub read-at-end : (files : Option (List ℕ → Option (List ℕ))) (name : List ℕ) (left : Option (List ℕ)) (bytes : List ℕ) (n room : ℕ) → ReadSoFar files name left bytes → IfSome left (λ rest. n ≡ 0 → rest ≡ []) → n ≡ 0 → length bytes ≤ room
    → IfSome files (λ file. IsSomeAnd (file name) (λ all. bytes ≡ take room all))
read-at-end None name left bytes n room so end none within = tt
read-at-end (Some file) name left bytes n room so end none within = all-read (file name) left bytes n room so end none within
