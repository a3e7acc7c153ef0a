-- Which orders stand on a side in its priority.
use Rattle.std.proofs.Common.{◌≡◌, ℕ, zero, suc, ◌<◌, Bool, true, false, cond, ◌&&◌, List, [], ◌∷◌, map, filter, refl, ◌∙◌, ap, inl, inr, arith}
use Rattle.std.specs.List.{All, Contains, flat_map, range_with_len}
use Rattle.std.proofs.lemmas.Bool.{cases_lt, eq-eqb}
use Rattle.std.proofs.lemmas.List.{get_or-map, length-map}
use Rattle.std.proofs.lemmas.List.Elements.{All-append, All-filter, All-weaker, Contains-append_left, Contains-append_right, filter_passes}
use Rattle.std.proofs.lemmas.List.FromFn.{get_or-range_with_len, length-range_with_len}
use Rattle.mkt_base.specs.Priority.{falling, in_priority, is_on_level, is_same_side, is_same_spot, level_of, spots}
use Rattle.mkt_base.specs.declared.order.Side.{Side}
use Rattle.mkt_base.specs.declared.order.Side.TheVariants.{Buy, Sell}
use Rattle.mkt_base.specs.declared.order.Spot.{Spot}
use Rattle.mkt_base.specs.declared.order.Spot.TheVariants.{Market, At}
use Rattle.mkt_base.specs.declared.order.Order.{Order}
use Rattle.book_law.specs.BookView.{IsSpotBelow}

-- two tests that pass
pub both : (a b : Bool) → a ≡ true → b ≡ true → (a && b) ≡ true
both true true e f = refl
both true false e f = f
both false b e f = e

-- of two tests that pass together the first passes
pub and-first : (a b : Bool) → (a && b) ≡ true → a ≡ true
and-first true b e = refl
and-first false b e = e

-- and the second
pub and-second : (a b : Bool) → (a && b) ≡ true → b ≡ true
and-second true b e = e
and-second false b e = absurd (cc)

-- an element that passes is kept
in-cond : {X : Type 0} (b : Bool) (y x : X) (zs : List X) → Contains zs x → Contains (cond b (y ∷ zs) zs) x
in-cond true y x zs c = Contains-append_right (y ∷ []) zs x c
in-cond false y x zs c = c

-- a filter keeps an element that passes
kept : {X : Type 0} (p : X → Bool) (xs : List X) (x : X) → Contains xs x → p x ≡ true → Contains (filter p xs) x
kept p [] x (k, h, e) so = absurd (omega (arith, h))
kept p (y ∷ ys) x (zero, h, e) so = rw (ap p e ∙ so) (0, omega arith, e)
kept p (y ∷ ys) x (suc k, h, e) so = in-cond (p y) y x (filter p ys) (kept p ys x (k, omega (arith, h), e) so)

-- each spot is the same as itself
spot-itself : (spot : Spot) → is_same_spot spot spot ≡ true
spot-itself Market = refl
spot-itself (At i) = eq-eqb i i refl

-- a limit's position is among those of the grid
falling-has : (n i : ℕ) → i < n → Contains (falling n) i
falling-has zero i h = absurd (omega (arith, h))
falling-has (suc n) i h =
    elim (cases_lt i n) [
      | inl less ↦ Contains-append_right (n ∷ []) (falling n) i (falling-has n i less)
      | inr last ↦ let same : n ≡ i = omega (arith, last, h) in (0, omega arith, same)
    ]

-- an element behind a map
mapped : {X Y : Type 0} (f : X → Y) (xs : List X) (x : X) → Contains xs x → Contains (map f xs) (f x)
mapped f xs x (k, h, e) = (k, omega (arith, h, length-map xs f), get_or-map f xs k x (f x) h ∙ ap f e)

-- each spot of the grid is among those of a side
spots-have : (n : ℕ) (side : Side) (spot : Spot) → IsSpotBelow n spot → Contains (spots n side) spot
spots-have n Buy Market below = (0, omega arith, refl)
spots-have n Sell Market below = (0, omega arith, refl)
spots-have n Buy (At i) below = Contains-append_right (Market ∷ []) (map (λ j. At j) (falling n)) (At i) (mapped (λ j. At j) (falling n) i (falling-has n i below))
spots-have n Sell (At i) below =
    Contains-append_right (Market ∷ []) (map (λ j. At j) (range_with_len 0 n)) (At i)
    (mapped (λ j. At j) (range_with_len 0 n) i (i, omega (arith, length-range_with_len 0 n, below), get_or-range_with_len 0 n i i below ∙ omega arith))

module _ (side : Side) (os : List Order) where
  -- the level at a spot
  level : Spot → List Order
  level spot = level_of side spot os

  -- what holds of the orders holds of the levels
  levels-hold : (P : Order → Type 0) (ss : List Spot) → All P os → All P (flat_map level ss)
  unfolding level
  levels-hold P [] all = λ k d h. absurd (omega (arith, h))
  levels-hold P (s ∷ ss) all = All-append P (level s) (flat_map level ss) (All-filter (is_on_level side s) P os all) (levels-hold P ss all)

  -- the levels have only orders of the side
  levels-side : (ss : List Spot) → All (λ o. is_same_side side o.side ≡ true) (flat_map level ss)
  unfolding level
  levels-side [] = λ k d h. absurd (omega (arith, h))
  levels-side (s ∷ ss) =
      let of_side : Order → Type 0 = λ o. is_same_side side o.side ≡ true in
      let passes : Order → Type 0 = λ o. is_on_level side s o ≡ true in
      All-append of_side (level s) (flat_map level ss)
      (All-weaker passes of_side (λ o e. and-first (is_same_side side o.side) (is_same_spot s o.spot) e) (level s) (filter_passes (is_on_level side s) os)) (levels-side ss)

  -- the levels have each order of the side whose spot is among theirs
  levels-have : (ss : List Spot) (o : Order) → Contains os o → is_same_side side o.side ≡ true → Contains ss o.spot → Contains (flat_map level ss) o
  unfolding level
  levels-have [] o has so (k, h, e) = absurd (omega (arith, h))
  levels-have (s ∷ ss) o has so (zero, h, e) =
      let spot : is_same_spot s o.spot ≡ true = ap (λ t. is_same_spot t o.spot) e ∙ spot-itself o.spot in
      Contains-append_left (level s) (flat_map level ss) o (kept (is_on_level side s) os o has (both (is_same_side side o.side) (is_same_spot s o.spot) so spot))
  levels-have (s ∷ ss) o has so (suc k, h, e) = Contains-append_right (level s) (flat_map level ss) o (levels-have ss o has so (k, omega (arith, h), e))

  -- what holds of the orders holds of the side
  pub side-holds : (n : ℕ) (P : Order → Type 0) → All P os → All P (in_priority n side os)
  unfolding in_priority level
  side-holds n P all = levels-hold P (spots n side) all

  -- the side has only its own orders
  pub side-own : (n : ℕ) → All (λ o. is_same_side side o.side ≡ true) (in_priority n side os)
  unfolding in_priority level
  side-own n = levels-side (spots n side)

  -- and each of them
  pub side-has : (n : ℕ) (o : Order) → Contains os o → is_same_side side o.side ≡ true → IsSpotBelow n o.spot → Contains (in_priority n side os) o
  unfolding in_priority level
  side-has n o has so below = levels-have (spots n side) o has so (spots-have n side o.spot below)
