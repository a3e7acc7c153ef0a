-- Numbers that do not fall, and those of them that are below a number: they are the first ones.
use Rattle.std.proofs.Common.{◌≡◌, ℕ, zero, suc, ◌+◌, ◌<◌, ◌≤◌, Bool, true, false, cond, ltb, leb, List, [], ◌∷◌, ◌++◌, length, map, drop, take, Some, refl, sym, ap, subst, ◌∙◌, arith, le-ltb, ltb-true, ltb-false}
use Rattle.std.proofs.lemmas.Bool.Decides.{nat_tests}
use Rattle.std.specs.List.{AllByRecursion, count_by, slice_get}
use Rattle.std.proofs.lemmas.List.Sums.{sum_by-cons}
use Rattle.std.proofs.lemmas.Option.{none-some, same_Some}
use Rattle.book_law.proofs.Pairs.{Pairs, weaken}
use Rattle.run_law.proofs.Stages.{Rise, count-none}

-- how many are below a number
abbrev pub below : ℕ → List ℕ → ℕ
below s ns = count_by (λ (n : ℕ). ltb n s) ns

below-cons : (s n : ℕ) (ns : List ℕ) → below s (n ∷ ns) ≡ cond (ltb n s) 1 0 + below s ns
below-cons s n ns = sum_by-cons (λ (k : ℕ). cond (ltb k s) 1 0) n ns

below-yes : (s n : ℕ) (ns : List ℕ) → ltb n s ≡ true → below s (n ∷ ns) ≡ 1 + below s ns
below-yes s n ns is = below-cons s n ns ∙ ap (λ (b : Bool). cond {A = ℕ} b 1 0 + below s ns) is

pub below-none : (s : ℕ) (ns : List ℕ) → AllByRecursion (λ (n : ℕ). s ≤ n) ns → below s ns ≡ 0
below-none s ns all = count-none (λ (n : ℕ). ltb n s) ns (weaken (λ (n : ℕ). s ≤ n) (λ (n : ℕ). ltb n s ≡ false) (λ n h. le-ltb n s h) ns all)

pub at-each : {X : Type 0} (P : X → Type 0) (xs : List X) (k : ℕ) (x : X) → AllByRecursion P xs → slice_get xs k ≡ Some x → P x
at-each P [] k x all at = absurd (none-some x at)
at-each P (y ∷ xs) zero x all at = subst P (same_Some y x at) all.0
at-each P (y ∷ xs) (suc k) x all at = at-each P xs k x all.1 at

-- one of the first ones is below the number
pub nth-below : (s : ℕ) (ns : List ℕ) (k n : ℕ) → Rise ns → k < below s ns → slice_get ns k ≡ Some n → n < s
nth-below s [] k n rise few at = absurd (none-some n at)
nth-below s (m ∷ ns) k n rise few at = by (λ j less here. nth-below s ns j n rise.1 less here) (ltb m s) refl k few at
  where
    by : ((j : ℕ) → j < below s ns → slice_get ns j ≡ Some n → n < s) → (b : Bool) → ltb m s ≡ b → (j : ℕ) → j < below s (m ∷ ns) → slice_get (m ∷ ns) j ≡ Some n → n < s
    by next true is zero less here = subst (λ (i : ℕ). i < s) (same_Some m n here) (ltb-true m s is)
    by next true is (suc j) less here =
        let count = below-yes s m ns is in
        next j (omega (arith, less, count)) here
    by next false is j less here =
        let from : s ≤ m = ltb-false m s is in
        let none : below s (m ∷ ns) ≡ 0 = below-none s (m ∷ ns) (from, weaken (λ (i : ℕ). m ≤ i) (λ (i : ℕ). s ≤ i) (λ i h. omega (arith, h, from)) ns rise.0) in
        absurd (omega (arith, none, less))

-- one behind them is not
pub nth-from : (s : ℕ) (ns : List ℕ) (k n : ℕ) → Rise ns → below s ns ≤ k → slice_get ns k ≡ Some n → s ≤ n
nth-from s [] k n rise many at = absurd (none-some n at)
nth-from s (m ∷ ns) k n rise many at = by (λ j more here. nth-from s ns j n rise.1 more here) (ltb m s) refl k many at
  where
    by : ((j : ℕ) → below s ns ≤ j → slice_get ns j ≡ Some n → s ≤ n) → (b : Bool) → ltb m s ≡ b → (j : ℕ) → below s (m ∷ ns) ≤ j → slice_get (m ∷ ns) j ≡ Some n → s ≤ n
    by next true is zero less here =
        let count = below-yes s m ns is in
        absurd (omega (arith, count, less))
    by next true is (suc j) less here =
        let count = below-yes s m ns is in
        next j (omega (arith, less, count)) here
    by next false is j less here =
        let from : s ≤ m = ltb-false m s is in
        at-each (λ (i : ℕ). s ≤ i) (m ∷ ns) j n (from, weaken (λ (i : ℕ). m ≤ i) (λ (i : ℕ). s ≤ i) (λ i h. omega (arith, h, from)) ns rise.0) here

-- below the next number are those that are at most this one
pub below-next : (s : ℕ) (ns : List ℕ) → below (suc s) ns ≡ count_by (λ (n : ℕ). leb n s) ns
below-next s [] = refl
below-next s (n ∷ ns) =
    let rest = below-next s ns in
    let first : ltb n (suc s) ≡ leb n s = same s n in
    below-cons (suc s) n ns ∙ ap (λ (b : Bool). cond {A = ℕ} b 1 0 + below (suc s) ns) first ∙ ap (λ (k : ℕ). cond {A = ℕ} (leb n s) 1 0 + k) rest ∙ sym (sum_by-cons (λ (k : ℕ). cond (leb k s) 1 0) n ns)
  where
    same : (a b : ℕ) → ltb b (suc a) ≡ leb b a
    same a b = grind (arith, nat_tests)

pub below-map : {X : Type 0} (f : X → ℕ) (s : ℕ) (xs : List X) → count_by (λ (x : X). ltb (f x) s) xs ≡ below s (map f xs)
below-map f s [] = refl
below-map {X} f s (x ∷ xs) =
    sum_by-cons (λ (y : X). cond (ltb (f y) s) 1 0) x xs ∙ ap (λ (k : ℕ). cond {A = ℕ} (ltb (f x) s) 1 0 + k) (below-map f s xs) ∙ sym (below-cons s (f x) (map f xs))

-- ---- places in lists

-- an item of a front part, of a whole, and of what stands behind a front part
pub get-front : {X : Type 0} (xs ys : List X) (k : ℕ) (x : X) → k < length xs → slice_get (xs ++ ys) k ≡ Some x → slice_get xs k ≡ Some x
get-front [] ys k x less at = absurd (omega (arith, less))
get-front (y ∷ xs) ys zero x less at = at
get-front (y ∷ xs) ys (suc k) x less at = get-front xs ys k x (omega (arith, less)) at

pub get-taken : {X : Type 0} (n k : ℕ) (xs : List X) (x : X) → slice_get (take n xs) k ≡ Some x → (slice_get xs k ≡ Some x) × (k < n)
get-taken zero k xs x at = absurd (none-some x at)
get-taken (suc n) k [] x at = absurd (none-some x at)
get-taken (suc n) zero (y ∷ xs) x at = (at, omega arith)
get-taken (suc n) (suc k) (y ∷ xs) x at =
    let rest = get-taken n k xs x at in
    let less : k < n = rest.1 in
    (rest.0, omega (arith, less))

pub get-dropped : {X : Type 0} (n k m : ℕ) (xs : List X) (x : X) → m ≡ n + k → slice_get (drop n xs) k ≡ Some x → slice_get xs m ≡ Some x
get-dropped zero k m xs x is at = subst (λ (i : ℕ). slice_get xs i ≡ Some x) (omega (arith, is)) at
get-dropped (suc n) k m [] x is at = absurd (none-some x at)
get-dropped (suc n) k zero (y ∷ xs) x is at = absurd (omega (arith, is))
get-dropped (suc n) k (suc m) (y ∷ xs) x is at = get-dropped n k m xs x (omega (arith, is)) at

-- numbers of one list by those of another
pub pairs-map : {X : Type 0} (f : X → ℕ) (xs : List X) → Pairs (λ (a b : X). f a ≤ f b) xs → Rise (map f xs)
pairs-map f [] pairs = tt
pairs-map {X} f (x ∷ xs) pairs = (first xs pairs.0, pairs-map f xs pairs.1)
  where
    first : (ys : List X) → AllByRecursion (λ (b : X). f x ≤ f b) ys → AllByRecursion (λ (n : ℕ). f x ≤ n) (map f ys)
    first [] all = tt
    first (y ∷ ys) all = (all.0, first ys all.1)
