-- The sums of a part of the book are those of prices on any rising grid.
use Rattle.std.proofs.Common.{◌≡◌, ℕ, suc, ◌<◌, Bool, not, ◌&&◌, ltb, leb, List, [], ◌∷◌, length, get_or, refl, sym, ◌∙◌, ap, cond, arith}
use Rattle.std.specs.List.{All, sum_by}
use Rattle.std.proofs.lemmas.Bool.Decides.{nat_tests}
use Rattle.std.proofs.lemmas.List.Sums.{sum_by-cons}
use Rattle.mkt_base.specs.Book.{IsRising, is_buy, is_buy_above, is_buy_at, is_sell_at, is_market_or, is_sell_below, limit_of, price_at, total_left}
use Rattle.mkt_base.specs.declared.units.Price.{Price}
use Rattle.mkt_base.specs.declared.order.Order.{Order}
use Rattle.mkt_base.specs.declared.order.Spot.{Spot}
use Rattle.mkt_base.specs.declared.order.Spot.TheVariants.{Market, At}
use Rattle.book_law.specs.BookView.{IsSpotBelow}
use Rattle.order_book.specs.Plain.{is_market_or_at, is_part}
use Rattle.order_book.specs.Levels.{with_price}
use Rattle.order_book.specs.declared.levels.Levels.{Levels}
use Rattle.order_book.specs.declared.total.Part.TheVariants.{BuysFrom, BuysAbove, SellsTo, SellsBelow}

-- tests that agree on the orders add up the same
pub total-same : (p q : Order → Bool) (os : List Order) → All (λ o. p o ≡ q o) os → total_left p os ≡ total_left q os
unfolding total_left
total-same p q [] same = refl
total-same p q (o ∷ os) same =
    let f : Order → ℕ = λ x. cond (p x) x.left 0 in
    let g : Order → ℕ = λ x. cond (q x) x.left 0 in
    let rest : sum_by f os ≡ sum_by g os = total-same p q os (λ k d h. same (suc k) d (omega arith)) in
    let here : f o ≡ g o = ap (λ b. cond b o.left 0) (same 0 o (omega arith)) in
    sum_by-cons f o os ∙ (omega (arith, here, rest)) ∙ sym (sum_by-cons g o os)

-- numbers that stand to each other as two others
module _ (a b i j : ℕ) (less : i < j → a < b) (more : j < i → b < a) (same : i ≡ j → a ≡ b) where
  -- one at most another, as the two others
  leb-same : leb a b ≡ leb i j
  leb-same = grind (arith, nat_tests)

  -- one below another, as the two others
  ltb-same : ltb a b ≡ ltb i j
  ltb-same = grind (arith, nat_tests)

module _ (grid : List Price) (rising : IsRising grid) (i : ℕ) (within : i < length grid) where
  -- the price at the position
  p : ℕ
  p = price_at grid i

  -- prices are to each other as their positions
  at-least : (j : ℕ) → j < length grid → leb p (price_at grid j) ≡ leb i j
  unfolding p
  at-least j h = leb-same (price_at grid i) (price_at grid j) i j (λ l. rising i j l h) (λ l. rising j i l within) (λ e. ap (price_at grid) e)

  -- higher, as the position
  above : (j : ℕ) → j < length grid → ltb p (price_at grid j) ≡ ltb i j
  unfolding p
  above j h = ltb-same (price_at grid i) (price_at grid j) i j (λ l. rising i j l h) (λ l. rising j i l within) (λ e. ap (price_at grid) e)

  -- at most as high, as the position
  at-most : (j : ℕ) → j < length grid → leb (price_at grid j) p ≡ leb j i
  unfolding p
  at-most j h = leb-same (price_at grid j) (price_at grid i) j i (λ l. rising j i l within) (λ l. rising i j l h) (λ e. ap (price_at grid) e)

  -- lower, as the position
  below : (j : ℕ) → j < length grid → ltb (price_at grid j) p ≡ ltb j i
  unfolding p
  below j h = ltb-same (price_at grid j) (price_at grid i) j i (λ l. rising j i l within) (λ l. rising i j l h) (λ e. ap (price_at grid) e)

  -- a spot passes by its price as by its position
  spot-same : (f g : ℕ → Bool) → ((j : ℕ) → j < length grid → f (price_at grid j) ≡ g j) → (spot : Spot) → IsSpotBelow (length grid) spot → is_market_or_at g spot ≡ is_market_or f (limit_of grid spot)
  spot-same f g same Market below' = refl
  spot-same f g same (At j) below' = sym (same j below')

  -- the four sums
  module _ (os : List Order) (on-grid : All (λ o. IsSpotBelow (length grid) o.spot) os) where
    -- buys at or above the price
    pub buys-from : total_left (is_part (BuysFrom i)) os ≡ total_left (is_buy_at grid (price_at grid i)) os
    unfolding p
    buys-from = total-same (is_part (BuysFrom i)) (is_buy_at grid (price_at grid i)) os
        (λ k d h. let o = get_or os k d in ap (λ t. is_buy o.side && t) (spot-same (leb (price_at grid i)) (leb i) at-least o.spot (on-grid k d h)))

    -- buys above the price
    pub buys-above : total_left (is_part (BuysAbove i)) os ≡ total_left (is_buy_above grid (price_at grid i)) os
    unfolding p
    buys-above = total-same (is_part (BuysAbove i)) (is_buy_above grid (price_at grid i)) os
        (λ k d h. let o = get_or os k d in ap (λ t. is_buy o.side && t) (spot-same (ltb (price_at grid i)) (ltb i) above o.spot (on-grid k d h)))

    -- sells at or below the price
    pub sells-to : total_left (is_part (SellsTo i)) os ≡ total_left (is_sell_at grid (price_at grid i)) os
    unfolding p
    sells-to = total-same (is_part (SellsTo i)) (is_sell_at grid (price_at grid i)) os
        (λ k d h. let o = get_or os k d in ap (λ t. not (is_buy o.side) && t) (spot-same (λ q. leb q (price_at grid i)) (λ j. leb j i) at-most o.spot (on-grid k d h)))

    -- sells below the price
    pub sells-below : total_left (is_part (SellsBelow i)) os ≡ total_left (is_sell_below grid (price_at grid i)) os
    unfolding p
    sells-below = total-same (is_part (SellsBelow i)) (is_sell_below grid (price_at grid i)) os
        (λ k d h. let o = get_or os k d in ap (λ t. not (is_buy o.side) && t) (spot-same (λ q. ltb q (price_at grid i)) (λ j. ltb j i) below o.spot (on-grid k d h)))

-- four sums that are equal, with one price
pub sums-same : (p : ℕ) (l m : Levels) → l.buys ≡ m.buys → l.above ≡ m.above → l.sells ≡ m.sells → l.below ≡ m.below → with_price p l ≡ with_price p m
sums-same p l m buys above sells below = rw (buys, above, sells, below)
