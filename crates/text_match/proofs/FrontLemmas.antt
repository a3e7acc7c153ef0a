-- Fronts of lists.
use Rattle.std.proofs.Common.{◌≡◌, ℕ, zero, suc, ◌≤◌, List, [], ◌∷◌, ◌++◌, length, take, drop, refl, ap, arith}

-- of two fronts of a list the shorter one is a front of the longer one
pub shorter_front : {A : Type 0} (c x f y : List A) → c ++ x ≡ f ++ y → length f ≤ length c → (z : List A) × (c ≡ f ++ z)
shorter_front c x [] y e h = (c, refl)
shorter_front [] x (b ∷ f) y e h = absurd (omega (arith, h))
shorter_front (a ∷ c) x (b ∷ f) y e h =
    let heads : a ≡ b = cc in
    let tails : c ++ x ≡ f ++ y = cc in
    let more = shorter_front c x f y tails (omega (arith, h)) in
    (more.0, cc)

-- a list is its first elements and the others
pub take_drop : {A : Type 0} (n : ℕ) (xs : List A) → take n xs ++ drop n xs ≡ xs
take_drop zero xs = refl
take_drop (suc n) [] = refl
take_drop (suc n) (x ∷ xs) = ap (λ ys. x ∷ ys) (take_drop n xs)

-- as many elements as a front has
pub take_front : {A : Type 0} (xs ys : List A) → take (length xs) (xs ++ ys) ≡ xs
take_front [] ys = refl
take_front (x ∷ xs) ys = ap (λ zs. x ∷ zs) (take_front xs ys)
