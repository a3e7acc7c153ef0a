-- Lists that are picked from lists.
use Rattle.std.proofs.Common.{◌≡◌, ℕ, zero, suc, Bool, true, false, cond, List, [], ◌∷◌, ◌++◌, length, map, take, drop, Option, Some, None, refl, ap, ◌∙◌}
use Rattle.std.specs.List.{AllByRecursion, cons_option, filter, filter_map, slice_get}

-- what one gives where another gives something
abbrev pub bound : {X Y : Type 0} → Option X → (X → Option Y) → Option Y
bound None h = None
bound (Some x) h = h x

module _ {X Y : Type 0} where
  pub filter_map-agree : (f h : X → Option Y) → ((x : X) → f x ≡ h x) → (xs : List X) → filter_map f xs ≡ filter_map h xs
  filter_map-agree f h same [] = refl
  filter_map-agree f h same (x ∷ xs) =
      ap (λ (o : Option Y). cons_option o (filter_map f xs)) (same x) ∙ ap (λ (ys : List Y). cons_option (h x) ys) (filter_map-agree f h same xs)

  -- picked from what passes a test
  pub filter_map-filter : (f : X → Option Y) (p : X → Bool) (xs : List X) → filter_map f (filter p xs) ≡ filter_map (λ x. cond (p x) (f x) None) xs
  filter_map-filter f p [] = refl
  filter_map-filter f p (x ∷ xs) = by (p x) (filter_map-filter f p xs)
    where
      by : (b : Bool) → filter_map f (filter p xs) ≡ filter_map (λ x. cond (p x) (f x) None) xs → filter_map f (cond b (x ∷ filter p xs) (filter p xs)) ≡ cons_option (cond b (f x) None) (filter_map (λ x. cond (p x) (f x) None) xs)
      by true rest = ap (λ (ys : List Y). cons_option (f x) ys) rest
      by false rest = rest

-- picked from what was picked
pub filter_map-twice : {X Y Z : Type 0} (f : X → Option Y) (h : Y → Option Z) (xs : List X) → filter_map h (filter_map f xs) ≡ filter_map (λ x. bound (f x) h) xs
filter_map-twice f h [] = refl
filter_map-twice {X} {Y} {Z} f h (x ∷ xs) = by (f x) (filter_map-twice f h xs)
  where
    by : (o : Option Y) → filter_map h (filter_map f xs) ≡ filter_map (λ x. bound (f x) h) xs → filter_map h (cons_option o (filter_map f xs)) ≡ cons_option (bound o h) (filter_map (λ x. bound (f x) h) xs)
    by None rest = rest
    by (Some y) rest = ap (λ (zs : List Z). cons_option (h y) zs) rest

-- a map of what passes a test
pub map-filter : {X Y : Type 0} (f : X → Y) (p : X → Bool) (xs : List X) → map f (filter p xs) ≡ filter_map (λ x. cond (p x) (Some (f x)) None) xs
map-filter f p [] = refl
map-filter {X} {Y} f p (x ∷ xs) = by (p x) (map-filter f p xs)
  where
    by : (b : Bool) → map f (filter p xs) ≡ filter_map (λ x. cond (p x) (Some (f x)) None) xs → map f (cond b (x ∷ filter p xs) (filter p xs)) ≡ cons_option (cond b (Some (f x)) None) (filter_map (λ x. cond (p x) (Some (f x)) None) xs)
    by true rest = ap (λ (ys : List Y). f x ∷ ys) rest
    by false rest = rest

-- picked, and then mapped
pub map-filter_map : {X Y Z : Type 0} (g : Y → Z) (f : X → Option Y) (h : X → Option Z) → ((x : X) → bound (f x) (λ y. Some (g y)) ≡ h x) → (xs : List X) → map g (filter_map f xs) ≡ filter_map h xs
map-filter_map g f h same [] = refl
map-filter_map {X} {Y} {Z} g f h same (x ∷ xs) =
    by (f x) ∙ ap (λ (o : Option Z). cons_option o (map g (filter_map f xs))) (same x) ∙ ap (λ (zs : List Z). cons_option (h x) zs) (map-filter_map g f h same xs)
  where
    by : (o : Option Y) → map g (cons_option o (filter_map f xs)) ≡ cons_option (bound o (λ y. Some (g y))) (map g (filter_map f xs))
    by None = refl
    by (Some y) = refl

-- the item behind a front part
pub get-behind : {X : Type 0} (xs ys : List X) (x : X) (n : ℕ) → n ≡ length xs → slice_get (xs ++ x ∷ ys) n ≡ Some x
get-behind {X} xs ys x n at = ap (λ (k : ℕ). slice_get (xs ++ x ∷ ys) k) at ∙ here xs
  where
    here : (zs : List X) → slice_get (zs ++ x ∷ ys) (length zs) ≡ Some x
    here [] = refl
    here (z ∷ zs) = here zs

pub take-front : {X : Type 0} (xs ys : List X) (n : ℕ) → n ≡ length xs → take n (xs ++ ys) ≡ xs
take-front {X} xs ys n at = ap (λ (k : ℕ). take k (xs ++ ys)) at ∙ here xs
  where
    here : (zs : List X) → take (length zs) (zs ++ ys) ≡ zs
    here [] = refl
    here (z ∷ zs) = ap (λ ws. z ∷ ws) (here zs)

pub drop-front : {X : Type 0} (xs ys : List X) (n : ℕ) → n ≡ length xs → drop n (xs ++ ys) ≡ ys
drop-front {X} xs ys n at = ap (λ (k : ℕ). drop k (xs ++ ys)) at ∙ here xs
  where
    here : (zs : List X) → drop (length zs) (zs ++ ys) ≡ ys
    here [] = refl
    here (z ∷ zs) = here zs

-- what holds of both parts holds of the whole, and the other way
module _ {X : Type 0} (P : X → Type 0) where
  pub each-append : (xs ys : List X) → AllByRecursion P xs → AllByRecursion P ys → AllByRecursion P (xs ++ ys)
  each-append [] ys f g = g
  each-append (x ∷ xs) ys f g = (f.0, each-append xs ys f.1 g)

  pub each-front : (xs ys : List X) → AllByRecursion P (xs ++ ys) → AllByRecursion P xs
  each-front [] ys f = tt
  each-front (x ∷ xs) ys f = (f.0, each-front xs ys f.1)

  pub each-back : (xs ys : List X) → AllByRecursion P (xs ++ ys) → AllByRecursion P ys
  each-back [] ys f = f
  each-back (x ∷ xs) ys f = each-back xs ys f.1

  pub each-take : (n : ℕ) (xs : List X) → AllByRecursion P xs → AllByRecursion P (take n xs)
  each-take zero xs f = tt
  each-take (suc n) [] f = tt
  each-take (suc n) (x ∷ xs) f = (f.0, each-take n xs f.1)

  pub each-drop : (n : ℕ) (xs : List X) → AllByRecursion P xs → AllByRecursion P (drop n xs)
  each-drop zero xs f = f
  each-drop (suc n) [] f = tt
  each-drop (suc n) (x ∷ xs) f = each-drop n xs f.1
