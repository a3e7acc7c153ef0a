-- The sums at a price from those at its neighbour on the grid.
use Rattle.std.proofs.Common.{◌≡◌, ℕ, ◌+◌, ◌<◌, ◌≤◌, ◌^◌, Bool, cond, not, ltb, leb, eqb, ◌&&◌, List, [], ◌∷◌, length, get_or, All, sum_by, inl, inr, refl, ap, arith, eq-or-lt_of_le}
use Rattle.std.proofs.lemmas.Bool.Decides.{nat_tests}
use Rattle.std.proofs.lemmas.List.Elements.{All-head, All-tail, All-map}
use Rattle.std.proofs.lemmas.List.Sums.{sum_by-cons}
use Rattle.mkt_base.specs.declared.units.Price.{Price}
use Rattle.mkt_base.specs.declared.order.Order.{Order}
use Rattle.mkt_base.specs.declared.order.Side.{Side}
use Rattle.mkt_base.specs.declared.order.Side.TheVariants.{Buy, Sell}
use Rattle.mkt_base.specs.declared.order.Spot.{Spot}
use Rattle.mkt_base.specs.declared.order.Spot.TheVariants.{Market, At}
use Rattle.mkt_base.specs.Book.{FitsSums, IsRising, IsOnGrid, price_at, limit_of, is_buy, is_market_or, is_buy_at, is_buy_above, is_sell_at, is_sell_below, total_left, buys, above, sells, below}
use Rattle.mkt_base.specs.Priority.{is_on_level, is_same_side, is_same_spot}
use Rattle.auction_law.proofs.NearnessLemmas.{lt_or_le}
use Rattle.book_law.specs.BookView.{BookView, IsBookView, IsSpotBelow, orders}
use Rattle.auction_law.proofs.SumsLemmas.{above-le-next, below-le-previous, total_left-mono, limit-weaker, and-weaker, and-first}

-- what passes one test passes just one of two others
total_left-parts : (p q r : Order → Bool) (orders : List Order) → All (λ o. cond (p o) o.left 0 ≡ cond (q o) o.left 0 + cond (r o) o.left 0) orders
    → total_left p orders ≡ total_left q orders + total_left r orders
unfolding total_left
total_left-parts p q r [] h = refl
total_left-parts p q r (o ∷ os) h =
    let first : cond (p o) o.left 0 ≡ cond (q o) o.left 0 + cond (r o) o.left 0 = All-head (λ o. cond (p o) o.left 0 ≡ cond (q o) o.left 0 + cond (r o) o.left 0) o os h in
    let rest : sum_by (λ o. cond (p o) o.left 0) os ≡ sum_by (λ o. cond (q o) o.left 0) os + sum_by (λ o. cond (r o) o.left 0) os = total_left-parts p q r os (All-tail (λ o. cond (p o) o.left 0 ≡ cond (q o) o.left 0 + cond (r o) o.left 0) o os h) in
    simp sum_by-cons (omega arith)

-- two tests that agree on the orders
total_left-alike : (p q : Order → Bool) (orders : List Order) → All (λ o. p o ≡ q o) orders → total_left p orders ≡ total_left q orders
unfolding total_left
total_left-alike p q [] h = refl
total_left-alike p q (o ∷ os) h =
    let first : cond (p o) o.left 0 ≡ cond (q o) o.left 0 = ap (λ b. cond b o.left 0) (All-head (λ o. p o ≡ q o) o os h) in
    let rest : sum_by (λ o. cond (p o) o.left 0) os ≡ sum_by (λ o. cond (q o) o.left 0) os = total_left-alike p q os (All-tail (λ o. p o ≡ q o) o os h) in
    simp sum_by-cons (omega arith)

module _ (grid : List Price) (rising : IsRising grid) (i : ℕ) (inside : i < length grid) where
  -- at or above the price of a position is above it or at just this position; at or below it likewise
  up-or_there : (j left : ℕ) → j < length grid → cond (leb (price_at grid i) (price_at grid j)) left 0 ≡ cond (ltb (price_at grid i) (price_at grid j)) left 0 + cond (eqb i j) left 0
  up-or_there j left h = elim (lt_or_le i j) [
    | inl m ↦ let e : price_at grid i < price_at grid j = rising i j m h in grind (arith, nat_tests)
    | inr m ↦ elim (eq-or-lt_of_le m) [
      | inl e ↦ let f : price_at grid j ≡ price_at grid i = ap (price_at grid) e in grind (arith, nat_tests)
      | inr k ↦ let f : price_at grid j < price_at grid i = rising j i k inside in grind (arith, nat_tests)
    ]
  ]

  -- and so downward
  down-or_there : (j left : ℕ) → j < length grid → cond (leb (price_at grid j) (price_at grid i)) left 0 ≡ cond (ltb (price_at grid j) (price_at grid i)) left 0 + cond (eqb i j) left 0
  down-or_there j left h = elim (lt_or_le i j) [
    | inl m ↦ let e : price_at grid i < price_at grid j = rising i j m h in grind (arith, nat_tests)
    | inr m ↦ elim (eq-or-lt_of_le m) [
      | inl e ↦ let f : price_at grid j ≡ price_at grid i = ap (price_at grid) e in grind (arith, nat_tests)
      | inr k ↦ let f : price_at grid j < price_at grid i = rising j i k inside in grind (arith, nat_tests)
    ]
  ]

  -- a buy at or above the price of a position is above it, or stands there
  buy-parts : (side : Side) (spot : Spot) (left : ℕ) → IsOnGrid grid spot
      → cond (is_buy side && is_market_or (λ x. leb (price_at grid i) x) (limit_of grid spot)) left 0
      ≡ cond (is_buy side && is_market_or (λ x. ltb (price_at grid i) x) (limit_of grid spot)) left 0 + cond (is_same_side Buy side && is_same_spot (At i) spot) left 0
  buy-parts Buy Market left on = omega arith
  buy-parts Buy (At j) left on = up-or_there j left on
  buy-parts Sell spot left on = refl

  -- and so for a sell
  sell-parts : (side : Side) (spot : Spot) (left : ℕ) → IsOnGrid grid spot
      → cond (not (is_buy side) && is_market_or (λ x. leb x (price_at grid i)) (limit_of grid spot)) left 0
      ≡ cond (not (is_buy side) && is_market_or (λ x. ltb x (price_at grid i)) (limit_of grid spot)) left 0 + cond (is_same_side Sell side && is_same_spot (At i) spot) left 0
  sell-parts Buy spot left on = refl
  sell-parts Sell Market left on = omega arith
  sell-parts Sell (At j) left on = down-or_there j left on

  -- at a price is bought what is bought above it and what its own level has; sold likewise
  pub buys-level : (orders : List Order) → All (λ o. IsOnGrid grid o.spot) orders
      → buys grid orders (price_at grid i) ≡ above grid orders (price_at grid i) + total_left (is_on_level Buy (At i)) orders
  buys-level orders on = total_left-parts (is_buy_at grid (price_at grid i)) (is_buy_above grid (price_at grid i)) (is_on_level Buy (At i)) orders
      (λ k d l. let o = get_or orders k d in buy-parts o.side o.spot o.left (on k d l))

  -- and so for the sells
  pub sells-level : (orders : List Order) → All (λ o. IsOnGrid grid o.spot) orders
      → sells grid orders (price_at grid i) ≡ below grid orders (price_at grid i) + total_left (is_on_level Sell (At i)) orders
  sells-level orders on = total_left-parts (is_sell_at grid (price_at grid i)) (is_sell_below grid (price_at grid i)) (is_on_level Sell (At i)) orders
      (λ k d l. let o = get_or orders k d in sell-parts o.side o.spot o.left (on k d l))

  -- since limits stand on the grid, what is bought above a price is what is bought at the next, and likewise sold below one
  pub above-next : (orders : List Order) → All (λ o. IsOnGrid grid o.spot) orders → i + 1 < length grid → above grid orders (price_at grid i) ≡ buys grid orders (price_at grid (i + 1))
  above-next orders on h =
      let up : price_at grid i < price_at grid (i + 1) = rising i (i + 1) (omega arith) h in
      let wide : buys grid orders (price_at grid (i + 1)) ≤ above grid orders (price_at grid i) = total_left-mono (is_buy_at grid (price_at grid (i + 1))) (is_buy_above grid (price_at grid i)) orders
      (λ k d l. and-weaker _ _ _ (limit-weaker (λ x. leb (price_at grid (i + 1)) x) (λ x. ltb (price_at grid i) x) (limit_of grid (get_or orders k d).spot) (λ x e t. grind (arith, nat_tests)))) in
      omega (arith, wide, above-le-next grid orders i (i + 1) refl rising on h)

  -- and so for the sells
  pub sells-next : (orders : List Order) → All (λ o. IsOnGrid grid o.spot) orders → i + 1 < length grid → below grid orders (price_at grid (i + 1)) ≡ sells grid orders (price_at grid i)
  sells-next orders on h =
      let up : price_at grid i < price_at grid (i + 1) = rising i (i + 1) (omega arith) h in
      let wide : sells grid orders (price_at grid i) ≤ below grid orders (price_at grid (i + 1)) = total_left-mono (is_sell_at grid (price_at grid i)) (is_sell_below grid (price_at grid (i + 1))) orders
      (λ k d l. and-weaker _ _ _ (limit-weaker (λ x. leb x (price_at grid i)) (λ x. ltb x (price_at grid (i + 1))) (limit_of grid (get_or orders k d).spot) (λ x e t. grind (arith, nat_tests)))) in
      omega (arith, wide, below-le-previous grid orders i (i + 1) refl rising on h)

-- no sum is above 64 bits where no side's total is
pub buys-fit : (grid : List Price) (orders : List Order) (p : ℕ) → FitsSums orders → buys grid orders p < 2 ^ 64
buys-fit grid orders p fits = omega (arith, total_left-mono (is_buy_at grid p) (λ o. is_buy o.side) orders (λ k d l. and-first _ _), fits.bought)

-- and so for the sells
pub sells-fit : (grid : List Price) (orders : List Order) (p : ℕ) → FitsSums orders → sells grid orders p < 2 ^ 64
sells-fit grid orders p fits = omega (arith, total_left-mono (is_sell_at grid p) (λ o. not (is_buy o.side)) orders (λ k d l. and-first _ _), fits.sold)

-- the orders of a book stand on a grid of its size
spot-on_grid : (grid : List Price) (n : ℕ) (spot : Spot) → length grid ≡ n → IsSpotBelow n spot → IsOnGrid grid spot
spot-on_grid grid n Market e h = tt
spot-on_grid grid n (At i) e h = omega (arith, e, h)

-- so do all of them
pub orders-on_grid : (b : BookView) (grid : List Price) → IsBookView b → length grid ≡ b.prices → All (λ o. IsOnGrid grid o.spot) (orders b)
orders-on_grid b grid is size = All-map (λ o. IsOnGrid grid o.spot) (λ s. s.order) b.slots (λ k d l. spot-on_grid grid b.prices (get_or b.slots k d).order.spot size (is.spots k d l))
