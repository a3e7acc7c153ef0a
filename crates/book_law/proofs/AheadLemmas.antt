-- Over a rising grid the tests of the four sums respect a side's priority: whoever stands before one that passes, passes.
use Rattle.std.proofs.Common.{◌≡◌, ℕ, ◌<◌, ◌≤◌, Bool, true, false, cond, leb, ltb, not, ◌&&◌, ◌||◌, IsTrue, List, [], ◌∷◌, length, refl, arith}
use Rattle.std.specs.List.{AllByRecursion, AllPairs, flat_map}
use Rattle.std.proofs.lemmas.Bool.{and_from}
use Rattle.std.proofs.lemmas.Bool.Decides.{nat_tests}
use Rattle.mkt_base.specs.Book.{IsRising, has_priority, is_better, is_buy, is_buy_above, is_buy_at, is_market_or, is_sell_at, is_sell_below, limit_of, price_at}
use Rattle.mkt_base.specs.Priority.{in_priority, is_on_level, is_same_side, is_same_spot, level_of, spots}
use Rattle.mkt_base.specs.declared.units.Price.{Price}
use Rattle.mkt_base.specs.declared.order.Side.{Side}
use Rattle.mkt_base.specs.declared.order.Side.TheVariants.{Buy, Sell}
use Rattle.mkt_base.specs.declared.order.Spot.{Spot}
use Rattle.mkt_base.specs.declared.order.Spot.TheVariants.{Market, At}
use Rattle.mkt_base.specs.declared.order.Order.{Order}
use Rattle.mkt_base.proofs.PriorityLemmas.{in_priority-ranked}
use Rattle.book_law.proofs.Pairs.{Pairs, all-append, pairs-from_AllPairs, with-first}

-- both of two tests that pass together
pub and-left : (a b : Bool) → (a && b) ≡ true → a ≡ true
and-left true b e = refl
and-left false b e = absurd (cc)

and-right : (a b : Bool) → (a && b) ≡ true → b ≡ true
and-right true b e = e
and-right false b e = absurd (cc)

-- the first order is of the side and has priority
abbrev pub Ahead : List Price → Side → Order → Order → Type 0
Ahead grid side a b = (is_same_side side a.side ≡ true) × IsTrue (has_priority grid side a b)

-- all orders of a side in its priority are of this side
module _ (side : Side) (os : List Order) where
  of-step : (s : Spot) (b : Bool) (o : Order) (xs : List Order) → is_on_level side s o ≡ b → AllByRecursion (λ x. is_same_side side x.side ≡ true) xs
      → AllByRecursion (λ x. is_same_side side x.side ≡ true) (cond b (o ∷ xs) xs)
  of-step s true o xs e rest = (and-left (is_same_side side o.side) (is_same_spot s o.spot) e, rest)
  of-step s false o xs e rest = rest

  of-level : (s : Spot) (xs : List Order) → AllByRecursion (λ x. is_same_side side x.side ≡ true) (level_of side s xs)
  of-level s [] = tt
  of-level s (o ∷ xs) = of-step s (is_on_level side s o) o (level_of side s xs) refl (of-level s xs)

  of-levels : (ss : List Spot) → AllByRecursion (λ x. is_same_side side x.side ≡ true) (flat_map (λ s. level_of side s os) ss)
  of-levels [] = tt
  of-levels (s ∷ ss) = all-append (λ x. is_same_side side x.side ≡ true) (level_of side s os) (flat_map (λ t. level_of side t os) ss) (of-level s os) (of-levels ss)

  pub in_priority-side : (n : ℕ) → AllByRecursion (λ x. is_same_side side x.side ≡ true) (in_priority n side os)
  unfolding in_priority
  in_priority-side n = of-levels (spots n side)

-- a side of a book over a rising grid
pub side-ahead : (grid : List Price) (side : Side) (os : List Order) → IsRising grid → AllPairs (λ a b. a.place < b.place) os → Pairs (Ahead grid side) (in_priority (length grid) side os)
side-ahead grid side os rising places =
    let xs = in_priority (length grid) side os in
    with-first (λ a. is_same_side side a.side ≡ true) (λ a b. IsTrue (has_priority grid side a b)) xs (in_priority-side side os (length grid))
    (pairs-from_AllPairs (λ a b. IsTrue (has_priority grid side a b)) xs (in_priority-ranked grid side os rising places))

module _ (grid : List Price) where
  -- of two orders the first of which has priority the second is not better
  spots-apart : (side : Side) (s t : Spot) → is_better grid side s t ≡ true → is_better grid side t s ≡ false
  spots-apart side Market Market e = absurd (cc)
  spots-apart side Market (At j) e = refl
  spots-apart side (At i) Market e = absurd (cc)
  spots-apart Buy (At i) (At j) e = grind (arith, nat_tests, e)
  spots-apart Sell (At i) (At j) e = grind (arith, nat_tests, e)

  not-better : (x y : Bool) (later : Bool) → (x ≡ true → y ≡ false) → (x || (not y && later)) ≡ true → y ≡ false
  not-better true y later apart e = apart refl
  not-better false true later apart e = absurd (cc)
  not-better false false later apart e = refl

  pub never-better : (side : Side) (a b : Order) → Ahead grid side a b → is_better grid side b.spot a.spot ≡ false
  never-better side a b ahead =
      not-better (is_better grid side a.spot b.spot) (is_better grid side b.spot a.spot) (ltb a.place b.place) (spots-apart side a.spot b.spot) ahead.1

  -- a limit that passes where the other's does, for a buy no lower and for a sell no higher
  buy-passes : (test : ℕ → Bool) → ((i j : ℕ) → price_at grid j ≤ price_at grid i → test (price_at grid j) ≡ true → test (price_at grid i) ≡ true)
      → (s t : Spot) → is_better grid Buy t s ≡ false → is_market_or test (limit_of grid t) ≡ true → is_market_or test (limit_of grid s) ≡ true
  buy-passes test more Market t e passes = refl
  buy-passes test more (At i) Market e passes = absurd (cc)
  buy-passes test more (At i) (At j) e passes = more i j (grind (arith, nat_tests, e)) passes

  sell-passes : (test : ℕ → Bool) → ((i j : ℕ) → price_at grid i ≤ price_at grid j → test (price_at grid j) ≡ true → test (price_at grid i) ≡ true)
      → (s t : Spot) → is_better grid Sell t s ≡ false → is_market_or test (limit_of grid t) ≡ true → is_market_or test (limit_of grid s) ≡ true
  sell-passes test more Market t e passes = refl
  sell-passes test more (At i) Market e passes = absurd (cc)
  sell-passes test more (At i) (At j) e passes = more i j (grind (arith, nat_tests, e)) passes

  module _ (p : ℕ) (a b : Order) where
    pub buy_at-respects : Ahead grid Buy a b → is_buy_at grid p b ≡ true → is_buy_at grid p a ≡ true
    buy_at-respects ahead e =
        and_from (is_buy a.side) (is_market_or (λ limit. leb p limit) (limit_of grid a.spot)) ahead.0
        (buy-passes (λ limit. leb p limit) (λ i j h f. grind (arith, nat_tests, h, f)) a.spot b.spot (never-better Buy a b ahead)
        (and-right (is_buy b.side) (is_market_or (λ limit. leb p limit) (limit_of grid b.spot)) e))

    pub buy_above-respects : Ahead grid Buy a b → is_buy_above grid p b ≡ true → is_buy_above grid p a ≡ true
    buy_above-respects ahead e =
        and_from (is_buy a.side) (is_market_or (λ limit. ltb p limit) (limit_of grid a.spot)) ahead.0
        (buy-passes (λ limit. ltb p limit) (λ i j h f. grind (arith, nat_tests, h, f)) a.spot b.spot (never-better Buy a b ahead)
        (and-right (is_buy b.side) (is_market_or (λ limit. ltb p limit) (limit_of grid b.spot)) e))

    pub sell_at-respects : Ahead grid Sell a b → is_sell_at grid p b ≡ true → is_sell_at grid p a ≡ true
    sell_at-respects ahead e =
        and_from (not (is_buy a.side)) (is_market_or (λ limit. leb limit p) (limit_of grid a.spot)) ahead.0
        (sell-passes (λ limit. leb limit p) (λ i j h f. grind (arith, nat_tests, h, f)) a.spot b.spot (never-better Sell a b ahead)
        (and-right (not (is_buy b.side)) (is_market_or (λ limit. leb limit p) (limit_of grid b.spot)) e))

    pub sell_below-respects : Ahead grid Sell a b → is_sell_below grid p b ≡ true → is_sell_below grid p a ≡ true
    sell_below-respects ahead e =
        and_from (not (is_buy a.side)) (is_market_or (λ limit. ltb limit p) (limit_of grid a.spot)) ahead.0
        (sell-passes (λ limit. ltb limit p) (λ i j h f. grind (arith, nat_tests, h, f)) a.spot b.spot (never-better Sell a b ahead)
        (and-right (not (is_buy b.side)) (is_market_or (λ limit. ltb limit p) (limit_of grid b.spot)) e))
