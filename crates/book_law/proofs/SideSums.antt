-- A sum over a side in its priority is the sum over the book's orders of that side.
use Rattle.std.proofs.Common.{◌≡◌, ℕ, zero, suc, ◌+◌, Bool, true, false, cond, eqb, ltb, leb, ◌&&◌, List, [], ◌∷◌, map, refl, sym, ap, ◌∙◌, arith}
use Rattle.std.specs.List.{All, AllByRecursion, flat_map, range_with_len, sum_by}
use Rattle.std.proofs.lemmas.Bool.Decides.{nat_tests}
use Rattle.std.proofs.lemmas.List.Elements.{recursion_from_All}
use Rattle.std.proofs.lemmas.List.Sums.{sum_by-append, sum_by-cons}
use Rattle.mkt_base.specs.Priority.{falling, in_priority, is_on_level, is_same_side, is_same_spot, level_of, spots}
use Rattle.mkt_base.specs.declared.order.Side.{Side}
use Rattle.mkt_base.specs.declared.order.Side.TheVariants.{Buy, Sell}
use Rattle.mkt_base.specs.declared.order.Spot.{Spot}
use Rattle.mkt_base.specs.declared.order.Spot.TheVariants.{Market, At}
use Rattle.mkt_base.specs.declared.order.Order.{Order}
use Rattle.book_law.specs.BookView.{IsSpotBelow}

-- a sum of noughts
sum-nothing : {X : Type 0} (g : X → ℕ) → ((x : X) → g x ≡ 0) → (xs : List X) → sum_by g xs ≡ 0
sum-nothing g none [] = refl
sum-nothing g none (x ∷ xs) = omega (arith, sum_by-cons g x xs, none x, sum-nothing g none xs)

-- Of the spots of a side each of the grid stands there once.
module _ (v : ℕ) where
  here : Spot → Spot → ℕ
  here t s = cond (is_same_spot s t) v 0

  no-market : (ps : List ℕ) → sum_by (here Market) (map (λ i. At i) ps) ≡ 0
  unfolding here
  no-market [] = refl
  no-market (p ∷ ps) = sum_by-cons (here Market) (At p) (map (λ i. At i) ps) ∙ ap (λ m. 0 + m) (no-market ps)

  falling-step : (j n : ℕ) → cond (eqb n j) v 0 + cond (ltb j n) v 0 ≡ cond (ltb j (suc n)) v 0
  falling-step j n = grind (arith, nat_tests)

  falling-end : (j : ℕ) → 0 ≡ cond (ltb j 0) v 0
  falling-end j = grind (arith, nat_tests)

  once-falling : (j n : ℕ) → sum_by (here (At j)) (map (λ i. At i) (falling n)) ≡ cond (ltb j n) v 0
  unfolding here
  once-falling j zero = falling-end j
  once-falling j (suc n) =
      sum_by-cons (here (At j)) (At n) (map (λ i. At i) (falling n)) ∙ ap (λ m. cond (eqb n j) v 0 + m) (once-falling j n) ∙ falling-step j n

  rising-step : (j a n : ℕ) → cond (eqb a j) v 0 + cond (leb (a + 1) j && ltb j ((a + 1) + n)) v 0 ≡ cond (leb a j && ltb j (a + suc n)) v 0
  rising-step j a n = grind (arith, nat_tests)

  rising-end : (j a : ℕ) → 0 ≡ cond (leb a j && ltb j (a + 0)) v 0
  rising-end j a = grind (arith, nat_tests)

  once-rising : (j a n : ℕ) → sum_by (here (At j)) (map (λ i. At i) (range_with_len a n)) ≡ cond (leb a j && ltb j (a + n)) v 0
  unfolding here
  once-rising j a zero = rising-end j a
  once-rising j a (suc n) =
      sum_by-cons (here (At j)) (At a) (map (λ i. At i) (range_with_len (a + 1) n)) ∙ ap (λ m. cond (eqb a j) v 0 + m) (once-rising j (a + 1) n) ∙ rising-step j a n

  once : (n : ℕ) (side : Side) (t : Spot) → IsSpotBelow n t → sum_by (here t) (spots n side) ≡ v
  unfolding here
  once n Buy Market h = let rest = no-market (falling n) in omega (arith, sum_by-cons (here Market) Market (map (λ i. At i) (falling n)), rest)
  once n Sell Market h = let rest = no-market (range_with_len 0 n) in omega (arith, sum_by-cons (here Market) Market (map (λ i. At i) (range_with_len 0 n)), rest)
  once n Buy (At j) h =
      let within : ltb j n ≡ true = grind (arith, nat_tests, h) in
      let rest = once-falling j n ∙ ap (λ b. cond b v 0) within in
      omega (arith, sum_by-cons (here (At j)) Market (map (λ i. At i) (falling n)), rest)
  once n Sell (At j) h =
      let within : (leb 0 j && ltb j (0 + n)) ≡ true = grind (arith, nat_tests, h) in
      let rest = once-rising j 0 n ∙ ap (λ b. cond b v 0) within in
      omega (arith, sum_by-cons (here (At j)) Market (map (λ i. At i) (range_with_len 0 n)), rest)

-- One order gives to a side's levels what it gives to the side.
module _ (f : Order → ℕ) (side : Side) where
  over : Order → List Spot → ℕ
  over o ss = sum_by (λ s. cond (is_on_level side s o) (f o) 0) ss

  on-level : (b : Bool) (o : Order) (xs : List Order) → sum_by f (cond b (o ∷ xs) xs) ≡ cond b (f o) 0 + sum_by f xs
  on-level true o xs = sum_by-cons f o xs
  on-level false o xs = omega arith

  one-more : (o : Order) (os : List Order) (ss : List Spot) → sum_by f (flat_map (λ s. level_of side s (o ∷ os)) ss) ≡ over o ss + sum_by f (flat_map (λ s. level_of side s os) ss)
  unfolding over
  one-more o os [] = refl
  one-more o os (s ∷ ss) =
      let rest = one-more o os ss in
      let own = on-level (is_on_level side s o) o (level_of side s os) in
      omega (
        arith,
        rest,
        own,
        sum_by-append f (level_of side s (o ∷ os)) (flat_map (λ t. level_of side t (o ∷ os)) ss),
        sum_by-append f (level_of side s os) (flat_map (λ t. level_of side t os) ss),
        sum_by-cons (λ t. cond (is_on_level side t o) (f o) 0) s ss,
      )

  of-side : (n : ℕ) (b : Bool) (o : Order) → is_same_side side o.side ≡ b → IsSpotBelow n o.spot → over o (spots n side) ≡ cond b (f o) 0
  unfolding over here
  of-side n true o e below = rw e (once (f o) n side o.spot below)
  of-side n false o e below = rw e (sum-nothing {X = Spot} (λ s. 0) (λ s. refl) (spots n side))

  no-levels : (ss : List Spot) → flat_map (λ s. level_of side s []) ss ≡ []
  no-levels [] = refl
  no-levels (s ∷ ss) = no-levels ss

  side-sum : (n : ℕ) (os : List Order) → AllByRecursion (λ o. IsSpotBelow n o.spot) os → sum_by f (in_priority n side os) ≡ sum_by (λ o. cond (is_same_side side o.side) (f o) 0) os
  unfolding in_priority over
  side-sum n [] below = ap (sum_by f) (no-levels (spots n side))
  side-sum n (o ∷ os) below =
      let rest = side-sum n os below.1 in
      let own = of-side n (is_same_side side o.side) o refl below.0 in
      one-more o os (spots n side) ∙ ap (λ m. m + sum_by f (flat_map (λ s. level_of side s os) (spots n side))) own
      ∙ ap (λ m. cond (is_same_side side o.side) (f o) 0 + m) rest
      ∙ sym (sum_by-cons (λ x. cond (is_same_side side x.side) (f x) 0) o os)

-- a side's sum is a sum over the book's orders
pub sum-priority : (f : Order → ℕ) (n : ℕ) (side : Side) (os : List Order) → All (λ o. IsSpotBelow n o.spot) os
    → sum_by f (in_priority n side os) ≡ sum_by (λ o. cond (is_same_side side o.side) (f o) 0) os
sum-priority f n side os below = side-sum f side n os (recursion_from_All (λ o. IsSpotBelow n o.spot) os below)
