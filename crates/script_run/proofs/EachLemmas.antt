-- What holds of each issue of a list, by its number.
use Rattle.std.proofs.Common.{◌≡◌, ℕ, zero, suc, ◌+◌, ◌<◌, List, [], ◌∷◌, ◌++◌, length, Some, refl, ap, subst, arith}
use Rattle.std.specs.List.{AllByRecursion, AllZip, slice_get, slice_set}
use Rattle.issue_journal.specs.Issue.{IssueNow}
use Rattle.script_run.specs.Running.{EachFrom}

same-some : {X : Type 0} (x y : X) → Some x ≡ Some y → x ≡ y
same-some x y is = cc

pub each-get : (P : ℕ → IssueNow → Type 0) (n i k : ℕ) (xs : List IssueNow) (x : IssueNow) → EachFrom P n xs → slice_get xs i ≡ Some x → k ≡ n + i → P k x
each-get P n i k [] x all is at = absurd (cc)
each-get P n zero k (y ∷ xs) x all is at =
    let here : n ≡ k = omega (arith, at) in
    subst (P k) (same-some y x is) (subst (λ (m : ℕ). P m y) here all.0)
each-get P n (suc i) k (y ∷ xs) x all is at = each-get P (n + 1) i k xs x all.1 is (omega (arith, at))

pub each-map : (P Q : ℕ → IssueNow → Type 0) (n : ℕ) (xs : List IssueNow) → ((i k : ℕ) (x : IssueNow) → k ≡ n + i → slice_get xs i ≡ Some x → P k x → Q k x) → EachFrom P n xs → EachFrom Q n xs
each-map P Q n [] f all = tt
each-map P Q n (x ∷ xs) f all = (f 0 n x (omega arith) refl all.0, each-map P Q (n + 1) xs (λ i k y at is p. f (suc i) k y (omega (arith, at)) is p) all.1)

pub each-set : (P Q : ℕ → IssueNow → Type 0) (n at a : ℕ) (xs : List IssueNow) (x : IssueNow) → a ≡ n + at
    → ((i k : ℕ) (y : IssueNow) → k ≡ n + i → (i ≡ at → ⊥) → slice_get xs i ≡ Some y → P k y → Q k y) → Q a x → EachFrom P n xs → EachFrom Q n (slice_set xs at x)
each-set P Q n at a [] x place others here all = tt
each-set P Q n zero a (y ∷ xs) x place others here all =
    let same : a ≡ n = omega (arith, place) in (
      subst (λ (m : ℕ). Q m x) same here,
      each-map P Q (n + 1) xs (λ i k z at is p. others (suc i) k z (omega (arith, at)) (λ (e : suc i ≡ 0). absurd (omega (arith, e))) is p) all.1,
    )
each-set P Q n (suc at) a (y ∷ xs) x place others here all = (
  others 0 n y (omega arith) (λ (e : 0 ≡ suc at). absurd (omega (arith, e))) refl all.0,
  each-set P Q (n + 1) at a xs x (omega (arith, place)) (λ i k z there apart is p. others (suc i) k z (omega (arith, there)) (λ (e : suc i ≡ suc at). apart (omega (arith, e))) is p) here all.1,
)

pub each-push : (P : ℕ → IssueNow → Type 0) (n k : ℕ) (xs : List IssueNow) (x : IssueNow) → k ≡ n + length xs → EachFrom P n xs → P k x → EachFrom P n (xs ++ x ∷ [])
each-push P n k [] x at all here =
    let same : k ≡ n = omega (arith, at) in
    (subst (λ (m : ℕ). P m x) same here, tt)
each-push P n k (y ∷ xs) x at all here = (all.0, each-push P (n + 1) k xs x (omega (arith, at)) all.1 here)

-- what is found after a write
module _ {X : Type 0} where
  pub get-written : (xs : List X) (i : ℕ) (x y : X) → slice_get (slice_set xs i x) i ≡ Some y → y ≡ x
  get-written [] i x y is = absurd (cc)
  get-written (z ∷ xs) zero x y is = cc
  get-written (z ∷ xs) (suc i) x y is = get-written xs i x y is

  pub get-other : (xs : List X) (i j : ℕ) (x : X) → (j ≡ i → ⊥) → slice_get (slice_set xs i x) j ≡ slice_get xs j
  get-other [] i j x apart = refl
  get-other (z ∷ xs) zero zero x apart = absurd (apart refl)
  get-other (z ∷ xs) zero (suc j) x apart = refl
  get-other (z ∷ xs) (suc i) zero x apart = refl
  get-other (z ∷ xs) (suc i) (suc j) x apart = get-other xs i j x (λ (same : j ≡ i). apart (ap suc same))

  pub length-written : (xs : List X) (i : ℕ) (x : X) → length (slice_set xs i x) ≡ length xs
  length-written [] i x = refl
  length-written (z ∷ xs) zero x = refl
  length-written (z ∷ xs) (suc i) x = ap suc (length-written xs i x)

  pub get-there : (xs : List X) (i : ℕ) → i < length xs → (x : X) × (slice_get xs i ≡ Some x)
  get-there [] i within = absurd (omega (arith, within))
  get-there (z ∷ xs) zero within = (z, refl)
  get-there (z ∷ xs) (suc i) within = get-there xs i (omega (arith, within))

-- two lists item by item
module _ {A B : Type 0} (R Q : A → B → Type 0) where
  pub zip-map : (xs : List A) (ys : List B) (P : A → Type 0) → ((x : A) (y : B) → P x → R x y → Q x y) → AllByRecursion P xs → AllZip R xs ys → AllZip Q xs ys
  zip-map [] [] P f ps all = tt
  zip-map [] (y ∷ ys) P f ps all = absurd all
  zip-map (x ∷ xs) [] P f ps all = absurd all
  zip-map (x ∷ xs) (y ∷ ys) P f ps all = (f x y ps.0 all.0, zip-map xs ys P f ps.1 all.1)

pub zip-push : {A B : Type 0} (R : A → B → Type 0) (xs : List A) (ys : List B) (x : A) (y : B) → AllZip R xs ys → R x y → AllZip R (xs ++ x ∷ []) (ys ++ y ∷ [])
zip-push R [] [] x y all here = (here, tt)
zip-push R [] (z ∷ ys) x y all here = absurd all
zip-push R (z ∷ xs) [] x y all here = absurd all
zip-push R (z ∷ xs) (w ∷ ys) x y all here = (all.0, zip-push R xs ys x y all.1 here)

pub zip-length : {A B : Type 0} (R : A → B → Type 0) (xs : List A) (ys : List B) → AllZip R xs ys → length xs ≡ length ys
zip-length R [] [] all = refl
zip-length R [] (y ∷ ys) all = absurd all
zip-length R (x ∷ xs) [] all = absurd all
zip-length R (x ∷ xs) (y ∷ ys) all = ap suc (zip-length R xs ys all.1)
