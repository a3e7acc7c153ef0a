-- Each element in a relation to all behind it, by recursion.
use Rattle.std.proofs.Common.{suc, List, [], ◌∷◌, ◌++◌, arith}
use Rattle.std.specs.List.{All, AllPairs, AllByRecursion}
use Rattle.std.proofs.lemmas.List.Elements.{recursion_from_All}

-- each element in a relation to all behind it
abbrev pub Pairs : {X : Type 0} → (X → X → Type 0) → List X → Type 0
Pairs R [] = Unit {0}
Pairs R (x ∷ xs) = AllByRecursion (R x) xs × Pairs R xs

-- the same of a list by its places
pub pairs-from_AllPairs : {X : Type 0} (R : X → X → Type 0) (xs : List X) → AllPairs R xs → Pairs R xs
pairs-from_AllPairs R [] f = tt
pairs-from_AllPairs R (x ∷ xs) f =
    let first : All (R x) xs = λ k d h. f 0 (suc k) d (omega arith) (omega arith) in
    let rest : AllPairs R xs = λ i j d h k. f (suc i) (suc j) d (omega arith) (omega arith) in
    (recursion_from_All (R x) xs first, pairs-from_AllPairs R xs rest)

pub all-append : {X : Type 0} (P : X → Type 0) (xs ys : List X) → AllByRecursion P xs → AllByRecursion P ys → AllByRecursion P (xs ++ ys)
all-append P [] ys f g = g
all-append P (x ∷ xs) ys f g = (f.0, all-append P xs ys f.1 g)

-- pairs within two lists, and across them
pub pairs-append : {X : Type 0} (R : X → X → Type 0) (xs ys : List X) → Pairs R xs → Pairs R ys → AllByRecursion (λ x. AllByRecursion (R x) ys) xs → Pairs R (xs ++ ys)
pairs-append R [] ys f g across = g
pairs-append R (x ∷ xs) ys f g across = (all-append (R x) xs ys f.0 across.0, pairs-append R xs ys f.1 g across.1)

-- what follows for each element follows for all
pub weaken : {X : Type 0} (P Q : X → Type 0) → ((x : X) → P x → Q x) → (xs : List X) → AllByRecursion P xs → AllByRecursion Q xs
weaken P Q f [] all = tt
weaken P Q f (x ∷ xs) all = (f x all.0, weaken P Q f xs all.1)

-- each of them in a relation, of those for which something holds
pub with-first : {X : Type 0} (P : X → Type 0) (R : X → X → Type 0) (xs : List X) → AllByRecursion P xs → Pairs R xs → Pairs (λ a b. P a × R a b) xs
with-first P R [] all pairs = tt
with-first P R (x ∷ xs) all pairs = (weaken (R x) (λ y. P x × R x y) (λ y r. (all.0, r)) xs pairs.0, with-first P R xs all.1 pairs.1)
