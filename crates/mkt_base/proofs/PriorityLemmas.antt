-- The levels of a side stand in its priority order.
use Rattle.std.proofs.Common.{◌≡◌, ℕ, zero, suc, ◌+◌, ◌<◌, ◌≤◌, Bool, true, false, ltb, ◌&&◌, IsTrue, List, [], ◌∷◌, ◌++◌, length, map, get_or, refl, sym, ap, arith}
use Rattle.std.specs.List.{All, AllByRecursion, AllPairs, flat_map, range_with_len}
use Rattle.std.proofs.lemmas.Bool.Decides.{nat_tests}
use Rattle.std.proofs.lemmas.Bool.{eqb-true}
use Rattle.std.proofs.lemmas.List.Elements.{All-append, filter_passes}
use Rattle.std.proofs.lemmas.List.Kept.{AllPairs-cons, AllPairs-filter}
use Rattle.mkt_base.specs.Book.{IsInPriority, IsRising, has_priority, is_better, price_at}
use Rattle.mkt_base.specs.Priority.{falling, in_priority, is_on_level, is_same_side, is_same_spot, level_of, spots}
use Rattle.mkt_base.specs.declared.units.Price.{Price}
use Rattle.mkt_base.specs.declared.order.Side.{Side}
use Rattle.mkt_base.specs.declared.order.Side.TheVariants.{Buy, Sell}
use Rattle.mkt_base.specs.declared.order.Spot.{Spot}
use Rattle.mkt_base.specs.declared.order.Spot.TheVariants.{Market, At}
use Rattle.mkt_base.specs.declared.order.Order.{Order}

-- pairs within two lists, and across them
AllPairs-append : {X : Type 0} (R : X → X → Type 0) (xs ys : List X) → AllPairs R xs → AllPairs R ys → All (λ x. All (R x) ys) xs → AllPairs R (xs ++ ys)
AllPairs-append R [] ys f g across = g
AllPairs-append R (x ∷ xs) ys f g across =
    let own : All (R x) xs = λ k d h. f 0 (suc k) d (omega arith) (omega arith) in
    let rest : AllPairs R xs = λ i j d h k. f (suc i) (suc j) d (omega arith) (omega arith) in
    let others : All (λ z. All (R z) ys) xs = λ k d h. across (suc k) d (omega arith) in
    AllPairs-cons R x (xs ++ ys) (All-append (R x) xs ys own (across 0 x (omega arith))) (AllPairs-append R xs ys rest g others)

first-passes : (a b : Bool) → (a && b) ≡ true → b ≡ true
first-passes true b e = e
first-passes false b e = absurd (cc)

at-spot : (s t : Spot) → is_same_spot s t ≡ true → t ≡ s
at-spot Market Market e = refl
at-spot Market (At j) e = absurd (cc)
at-spot (At i) Market e = absurd (cc)
at-spot (At i) (At j) e = ap (λ n. At n) (sym (eqb-true i j e))

module _ (grid : List Price) (side : Side) (orders : List Order) where
  -- the first order has priority
  Ahead : Order → Order → Type 0
  Ahead a b = IsTrue (has_priority grid side a b)

  -- each order of a level stands at its spot
  on-level : (spot : Spot) → All (λ o. o.spot ≡ spot) (level_of side spot orders)
  on-level spot k d h =
      let o = get_or (level_of side spot orders) k d in
      at-spot spot o.spot (first-passes (is_same_side side o.side) (is_same_spot spot o.spot) (filter_passes (is_on_level side spot) orders k d h))

  not-better : (spot : Spot) → is_better grid side spot spot ≡ false
  not-better = by side
    where
      by : (s : Side) (spot : Spot) → is_better grid s spot spot ≡ false
      by Buy Market = refl
      by Sell Market = refl
      by Buy (At i) = grind (arith, nat_tests)
      by Sell (At i) = grind (arith, nat_tests)

  -- at one spot the earlier place is ahead
  ahead-by_place : (spot : Spot) (a b : Order) → a.spot ≡ spot → b.spot ≡ spot → a.place < b.place → Ahead a b
  unfolding Ahead
  ahead-by_place spot a b e f h =
      let equal = not-better spot in
      let early : ltb a.place b.place ≡ true = grind (arith, nat_tests) in
      rw (e, f, equal, early)

  ahead-by_spot : (s t : Spot) (a b : Order) → a.spot ≡ s → b.spot ≡ t → is_better grid side s t ≡ true → Ahead a b
  unfolding Ahead
  ahead-by_spot s t a b e f better = rw (e, f, better)

  -- each spot is better than those behind it
  Ranked : List Spot → Type 0
  Ranked [] = Unit {0}
  Ranked (s ∷ ss) = AllByRecursion (λ t. is_better grid side s t ≡ true) ss × Ranked ss

  level : Spot → List Order
  level spot = level_of side spot orders

  -- an order is ahead of all on levels with worse spots
  ahead-of_levels : (s : Spot) (a : Order) (ss : List Spot) → a.spot ≡ s → AllByRecursion (λ t. is_better grid side s t ≡ true) ss → All (Ahead a) (flat_map level ss)
  unfolding level Ahead
  ahead-of_levels s a [] e better = λ k d h. absurd (omega (arith, h))
  ahead-of_levels s a (t ∷ ts) e better =
      All-append (Ahead a) (level t) (flat_map level ts) (λ k d h. ahead-by_spot s t a (get_or (level t) k d) e (on-level t k d h) better.0) (ahead-of_levels s a ts e better.1)

  -- ranked levels of a book stand in priority
  levels-ahead : (ss : List Spot) → AllPairs (λ a b. a.place < b.place) orders → Ranked ss → AllPairs Ahead (flat_map level ss)
  unfolding level Ahead Ranked
  levels-ahead [] places ranked = λ i j d h k. absurd (omega (arith, k))
  levels-ahead (s ∷ ss) places ranked =
      let kept = AllPairs-filter (λ a b. a.place < b.place) (is_on_level side s) orders places in
      let own : AllPairs Ahead (level s) = λ i j d h k. ahead-by_place s (get_or (level s) i d) (get_or (level s) j d) (on-level s i d (omega arith)) (on-level s j d k) (kept i j d h k) in
      AllPairs-append Ahead (level s) (flat_map level ss) own (levels-ahead ss places ranked.1)
      (λ k d h. ahead-of_levels s (get_or (level s) k d) ss (on-level s k d h) ranked.0)

market-first : (grid : List Price) (side : Side) (ps : List ℕ) → AllByRecursion (λ t. is_better grid side Market t ≡ true) (map (λ i. At i) ps)
market-first grid Buy [] = tt
market-first grid Sell [] = tt
market-first grid Buy (p ∷ ps) = (refl, market-first grid Buy ps)
market-first grid Sell (p ∷ ps) = (refl, market-first grid Sell ps)

module _ (grid : List Price) (rising : IsRising grid) (orders : List Order) where
  higher : (i n : ℕ) → n ≤ i → i < length grid → AllByRecursion (λ t. is_better grid Buy (At i) t ≡ true) (map (λ j. At j) (falling n))
  higher i zero h k = tt
  higher i (suc n) h k =
      let above : price_at grid n < price_at grid i = rising n i (omega arith) k in
      let better : ltb (price_at grid n) (price_at grid i) ≡ true = grind (arith, nat_tests, above) in
      (better, higher i n (omega arith) k)

  buys-ranked : (n : ℕ) → n ≤ length grid → Ranked grid Buy orders (map (λ i. At i) (falling n))
  unfolding Ranked
  buys-ranked zero h = tt
  buys-ranked (suc n) h = (higher n n (omega arith) (omega arith), buys-ranked n (omega arith))

  lower : (i a n : ℕ) → i < a → a + n ≤ length grid → AllByRecursion (λ t. is_better grid Sell (At i) t ≡ true) (map (λ j. At j) (range_with_len a n))
  lower i a zero h k = tt
  lower i a (suc n) h k =
      let below : price_at grid i < price_at grid a = rising i a h (omega arith) in
      let better : ltb (price_at grid i) (price_at grid a) ≡ true = grind (arith, nat_tests, below) in
      (better, lower i (a + 1) n (omega arith) (omega arith))

  sells-ranked : (a n : ℕ) → a + n ≤ length grid → Ranked grid Sell orders (map (λ i. At i) (range_with_len a n))
  unfolding Ranked
  sells-ranked a zero h = tt
  sells-ranked a (suc n) h = (lower a (a + 1) n (omega arith) (omega arith), sells-ranked (a + 1) n (omega arith))

  spots-ranked : (side : Side) → Ranked grid side orders (spots (length grid) side)
  unfolding Ranked
  spots-ranked Buy = (market-first grid Buy (falling (length grid)), buys-ranked (length grid) (omega arith))
  spots-ranked Sell = (market-first grid Sell (range_with_len 0 (length grid)), sells-ranked 0 (length grid) (omega arith))

-- the levels of a side, the best first, are in priority
pub in_priority-ranked : (grid : List Price) (side : Side) (orders : List Order) → IsRising grid → AllPairs (λ a b. a.place < b.place) orders → IsInPriority grid side (in_priority (length grid) side orders)
unfolding in_priority Ahead level
in_priority-ranked grid side orders rising places = levels-ahead grid side orders (spots (length grid) side) places (spots-ranked grid rising orders side)
