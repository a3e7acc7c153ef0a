-- What the four sums are after a volume was traded from both fronts.
use Rattle.std.proofs.Common.{◌≡◌, ℕ, ◌+◌, ◌-◌, ◌<◌, ◌≤◌, min, Bool, true, false, cond, leb, ltb, not, List, [], ◌∷◌, length, map, filter, refl, sym, ap, ◌∙◌, arith, inl, inr, ◌⊎◌}
use Rattle.std.specs.List.{All, AllByRecursion}
use Rattle.std.proofs.lemmas.Bool.Decides.{nat_tests}
use Rattle.std.proofs.lemmas.List.Elements.{All-filter, All-from_recursion, All-map}
use Rattle.std.proofs.lemmas.List.Sums.{sum_by-cons, sum_by-le-sum_by}
use Rattle.mkt_base.specs.Book.{IsRising, above, below, buys, is_buy, is_buy_above, is_buy_at, is_market_or, is_sell_at, is_sell_below, limit_of, sells, total_left}
use Rattle.mkt_base.specs.Fills.{after_trades, less_traded}
use Rattle.mkt_base.specs.Priority.{in_priority, is_same_side}
use Rattle.mkt_base.specs.declared.auction.Trade.{Trade}
use Rattle.mkt_base.specs.declared.units.Price.{Price}
use Rattle.mkt_base.specs.declared.order.Side.{Side}
use Rattle.mkt_base.specs.declared.order.Side.TheVariants.{Buy, Sell}
use Rattle.mkt_base.specs.declared.order.Order.{Order}
use Rattle.book_law.specs.BookView.{IsSpotBelow, less}
use Rattle.book_law.specs.Laws.{IsBookOn, NoneBetterLeft}
use Rattle.book_law.specs.Paired.{after_fronts, left_front, paired}
use Rattle.book_law.specs.Sides.{total}
use Rattle.book_law.proofs.AheadLemmas.{Ahead, and-left, buy_above-respects, buy_at-respects, sell_at-respects, sell_below-respects, side-ahead}
use Rattle.book_law.proofs.DrainLemmas.{drained}
use Rattle.book_law.proofs.Pairs.{Pairs}
use Rattle.book_law.proofs.TakenLemmas.{total-filter, total-passing, total-sum}
use Rattle.book_law.proofs.TimeLemmas.{none-behind, total-none}

-- A test that ranked orders respect, and that does not look at what they have left.
module _ (t : Order → Bool) where
  left-cons : (o : Order) (os : List Order) → total_left t (o ∷ os) ≡ cond (t o) o.left 0 + total_left t os
  unfolding total_left
  left-cons o os = sum_by-cons (λ x. cond (t x) x.left 0) o os

  left-none : (os : List Order) → filter t os ≡ [] → total_left t os ≡ 0
  left-none os e = sym (total-filter t os) ∙ ap total e ∙ total-none

  left-le : (os : List Order) → total_left t os ≤ total os
  unfolding total_left
  left-le os = let most = sum_by-le-sum_by (λ o. cond (t o) o.left 0) (λ o. o.left) os (λ o. by (t o) o.left) in omega (arith, most, total-sum os)
    where
      by : (b : Bool) (n : ℕ) → cond b n 0 ≤ n
      by true n = omega arith
      by false n = omega arith

  module _ (R : Order → Order → Type 0) (respects : (a b : Order) → R a b → t b ≡ true → t a ≡ true) (stays : (n : ℕ) (o : Order) → t (less n o) ≡ t o) where
    -- of those that pass the front is what falls away first
    front-step : (b c : Bool) (v : ℕ) (o : Order) (os : List Order) → ltb 0 (o.left - v) ≡ b → t o ≡ c → AllByRecursion (R o) os
        → total_left t (left_front (v - o.left) os) ≡ total_left t os - (v - o.left)
        → total_left t (cond b (less v o ∷ os) (left_front (v - o.left) os)) ≡ total_left t (o ∷ os) - v
    front-step true true v o os e f ranked rest =
        let here : cond (t (less v o)) (o.left - v) 0 ≡ o.left - v = ap (λ c. cond c (o.left - v) 0) (stays v o ∙ f) in
        let whole : cond (t o) o.left 0 ≡ o.left = ap (λ c. cond c o.left 0) f in
        let some : v < o.left = grind (arith, nat_tests, e) in
        omega (arith, left-cons (less v o) os, left-cons o os, here, whole, some)
    front-step true false v o os e f ranked rest =
        let here : cond (t (less v o)) (o.left - v) 0 ≡ 0 = ap (λ c. cond c (o.left - v) 0) (stays v o ∙ f) in
        let whole : cond (t o) o.left 0 ≡ 0 = ap (λ c. cond c o.left 0) f in
        omega (arith, left-cons (less v o) os, left-cons o os, here, whole, left-none os (none-behind R t respects o os ranked f))
    front-step false true v o os e f ranked rest =
        let whole : cond (t o) o.left 0 ≡ o.left = ap (λ c. cond c o.left 0) f in
        let all : o.left ≤ v = grind (arith, nat_tests, e) in
        omega (arith, left-cons o os, whole, rest, all)
    front-step false false v o os e f ranked rest =
        let whole : cond (t o) o.left 0 ≡ 0 = ap (λ c. cond c o.left 0) f in
        omega (arith, left-cons o os, whole, rest, left-none os (none-behind R t respects o os ranked f))

    pub left-sum : (v : ℕ) (os : List Order) → Pairs R os → total_left t (left_front v os) ≡ total_left t os - v
    unfolding left_front total_left
    left-sum v [] ranked = nothing v
      where
        nothing : (m : ℕ) → 0 ≡ 0 - m
        nothing m = omega arith
    left-sum v (o ∷ os) ranked = front-step (ltb 0 (o.left - v)) (t o) v o os refl refl ranked.0 (left-sum (v - o.left) os ranked.1)

  -- where those that pass have nothing left, none passes
  none-step : (o : Order) (os : List Order) → 0 < o.left → total_left t (o ∷ os) ≡ 0 → (t o ≡ false) × (total_left t os ≡ 0)
  none-step o os some e = (by (t o) refl, omega (arith, left-cons o os, e))
    where
      by : (b : Bool) → t o ≡ b → t o ≡ false
      by true f = let whole : cond (t o) o.left 0 ≡ o.left = ap (λ c. cond c o.left 0) f in absurd (omega (arith, left-cons o os, e, whole, some))
      by false f = f

  none-left : (os : List Order) → AllByRecursion (λ o. 0 < o.left) os → total_left t os ≡ 0 → AllByRecursion (λ o. t o ≡ false) os
  none-left [] some e = tt
  none-left (o ∷ os) some e = let parts = none-step o os some.0 e in (parts.0, none-left os some.1 parts.1)

-- the orders after trades stand where they stood, and have something left
after-below : (n : ℕ) (ts : List Trade) (os : List Order) → All (λ o. IsSpotBelow n o.spot) os → All (λ o. IsSpotBelow n o.spot) (after_trades ts os)
unfolding after_trades
after-below n ts os below =
    All-filter (λ o. ltb 0 o.left) (λ o. IsSpotBelow n o.spot) (map (less_traded ts) os) (All-map (λ o. IsSpotBelow n o.spot) (less_traded ts) os below)

kept-left : (os : List Order) → AllByRecursion (λ o. 0 < o.left) (filter (λ o. ltb 0 o.left) os)
kept-left [] = tt
kept-left (o ∷ os) = step (ltb 0 o.left) refl (kept-left os)
  where
    step : (b : Bool) → ltb 0 o.left ≡ b → AllByRecursion (λ x. 0 < x.left) (filter (λ x. ltb 0 x.left) os)
        → AllByRecursion (λ x. 0 < x.left) (cond b (o ∷ filter (λ x. ltb 0 x.left) os) (filter (λ x. ltb 0 x.left) os))
    step true e rest = (grind (arith, nat_tests, e), rest)
    step false e rest = rest

after-left : (ts : List Trade) (os : List Order) → AllByRecursion (λ o. 0 < o.left) (after_trades ts os)
unfolding after_trades
after-left ts os = kept-left (map (less_traded ts) os)

-- A book on a rising grid, after v shares were traded from both fronts.
module _ (grid : List Price) (rising : IsRising grid) (os : List Order) (stands : IsBookOn (length grid) os) (p v : ℕ)
    (bought : v ≤ total (in_priority (length grid) Buy os)) (sold : v ≤ total (in_priority (length grid) Sell os)) where
  abbrev after : List Order
  after = after_fronts (length grid) p v os

  side-drained : (side : Side) → in_priority (length grid) side after ≡ left_front v (in_priority (length grid) side os)
  side-drained Buy = (drained (length grid) os stands.book.by_place stands.spots stands.book.left p v bought sold).0
  side-drained Sell = (drained (length grid) os stands.book.by_place stands.spots stands.book.left p v bought sold).1

  -- the sum of what passes a test that respects the side's priority falls by v, or to nothing
  sum-after : (side : Side) (t : Order → Bool) → ((o : Order) → t o ≡ true → is_same_side side o.side ≡ true) → ((a b : Order) → Ahead grid side a b → t b ≡ true → t a ≡ true)
      → ((n : ℕ) (o : Order) → t (less n o) ≡ t o) → total_left t after ≡ total_left t os - v
  sum-after side t own respects stays =
      sym (total-passing t (length grid) side after (after-below (length grid) (paired p v (in_priority (length grid) Buy os) (in_priority (length grid) Sell os)) os stands.spots) own)
      ∙ ap (total_left t) (side-drained side)
      ∙ left-sum t (Ahead grid side) respects stays v (in_priority (length grid) side os) (side-ahead grid side os rising stands.book.by_place)
      ∙ ap (λ n. n - v) (total-passing t (length grid) side os stands.spots own)

  pub buys-after : (q : ℕ) → buys grid after q ≡ buys grid os q - v
  buys-after q =
      sum-after Buy (is_buy_at grid q) (λ o e. and-left (is_buy o.side) (is_market_or (λ limit. leb q limit) (limit_of grid o.spot)) e) (λ a b r e. buy_at-respects grid q a b r e) (λ n o. refl)

  pub above-after : (q : ℕ) → above grid after q ≡ above grid os q - v
  above-after q =
      sum-after Buy (is_buy_above grid q) (λ o e. and-left (is_buy o.side) (is_market_or (λ limit. ltb q limit) (limit_of grid o.spot)) e) (λ a b r e. buy_above-respects grid q a b r e) (λ n o. refl)

  pub sells-after : (q : ℕ) → sells grid after q ≡ sells grid os q - v
  sells-after q =
      sum-after Sell (is_sell_at grid q) (λ o e. and-left (not (is_buy o.side)) (is_market_or (λ limit. leb limit q) (limit_of grid o.spot)) e) (λ a b r e. sell_at-respects grid q a b r e) (λ n o. refl)

  pub below-after : (q : ℕ) → below grid after q ≡ below grid os q - v
  below-after q =
      sum-after Sell (is_sell_below grid q) (λ o e. and-left (not (is_buy o.side)) (is_market_or (λ limit. ltb limit q) (limit_of grid o.spot)) e) (λ a b r e. sell_below-respects grid q a b r e) (λ n o. refl)

  none-passes : (t : Order → Bool) → total_left t after ≡ 0 → All (λ o. t o ≡ false) after
  none-passes t e = All-from_recursion (λ o. t o ≡ false) after (none-left t after (after-left (paired p v (in_priority (length grid) Buy os) (in_priority (length grid) Sell os)) os) e)

  none-at : (b c : Bool) → leb (buys grid os p) v ≡ b → leb (sells grid os p) v ≡ c → v ≡ min (buys grid os p) (sells grid os p)
      → All (λ o. is_buy_at grid p o ≡ false) after ⊎ All (λ o. is_sell_at grid p o ≡ false) after
  none-at true c e f volume = inl (none-passes (is_buy_at grid p) (buys-after p ∙ grind (arith, nat_tests, e)))
  none-at false true e f volume = inr (none-passes (is_sell_at grid p) (sells-after p ∙ grind (arith, nat_tests, f)))
  none-at false false e f volume = absurd (grind (arith, nat_tests, e, f, volume))

-- the sum of what passes on a side is no more than the side has
passing-le : (n : ℕ) (side : Side) (t : Order → Bool) (os : List Order) → All (λ o. IsSpotBelow n o.spot) os → ((o : Order) → t o ≡ true → is_same_side side o.side ≡ true)
    → total_left t os ≤ total (in_priority n side os)
passing-le n side t os spots own = omega (arith, left-le t (in_priority n side os), total-passing t n side os spots own)

-- after an auction at a price nothing better is left, and on one side nothing at the price
pub none-better_left : NoneBetterLeft
none-better_left grid p v os rising stands volume over under =
    let bought = passing-le (length grid) Buy (is_buy_at grid p) os stands.spots (λ o e. and-left (is_buy o.side) (is_market_or (λ limit. leb p limit) (limit_of grid o.spot)) e) in
    let sold = passing-le (length grid) Sell (is_sell_at grid p) os stands.spots (λ o e. and-left (not (is_buy o.side)) (is_market_or (λ limit. leb limit p) (limit_of grid o.spot)) e) in
    let of-buys : v ≤ total (in_priority (length grid) Buy os) = grind (arith, nat_tests, volume, bought) in
    let of-sells : v ≤ total (in_priority (length grid) Sell os) = grind (arith, nat_tests, volume, sold) in (
      none-passes grid rising os stands p v of-buys of-sells (is_buy_above grid p) (above-after grid rising os stands p v of-buys of-sells p ∙ omega (arith, over)),
      none-passes grid rising os stands p v of-buys of-sells (is_sell_below grid p) (below-after grid rising os stands p v of-buys of-sells p ∙ omega (arith, under)),
      none-at grid rising os stands p v of-buys of-sells (leb (buys grid os p) v) (leb (sells grid os p) v) refl refl volume,
    )
