-- The laws of an auction's fills by time.
use Rattle.std.proofs.Common.{◌≡◌, ℕ, ◌+◌, ◌-◌, ◌<◌, ◌≤◌, min, Bool, true, false, cond, not, nat_le, ltb, leb, eqb, ◌&&◌, ◌||◌, ◌⊎◌, inl, inr, List, [], ◌∷◌, length, All, is_some, sum_by, refl, sym, ap, subst, ◌∙◌, arith, leb-false, leb-true, ltb-false}
use Rattle.std.specs.List.{AllByRecursion, list_any}
use Rattle.std.proofs.lemmas.Bool.Decides.{nat_tests}
use Rattle.std.proofs.lemmas.List.Sums.{sum_by-cons}
use Rattle.mkt_base.specs.Book.{is_buy, is_buy_above, is_buy_at, is_market_or, is_sell_at, is_sell_below, limit_of}
use Rattle.mkt_base.specs.Fills.{Fill, after_trades, all_of, bought_at, filled, filled_at, from_front, quantity, sold_at, traded_at, whole}
use Rattle.mkt_base.specs.Priority.{in_priority}
use Rattle.mkt_base.specs.declared.auction.Trade.{Trade}
use Rattle.mkt_base.specs.declared.order.Order.{Order}
use Rattle.mkt_base.specs.declared.order.Side.TheVariants.{Buy, Sell}
use Rattle.mkt_base.specs.declared.units.Price.{Price}
use Rattle.mkt_base.proofs.FillLemmas.{bought-front, from_front-quantity, pair-quantity, sold-front}
use Rattle.auction_law.specs.Attempt.{all_limited, is_calm, limits, volume_at}
use Rattle.auction_law.proofs.CalmBookLemmas.{limits-from, list_any-true}
use Rattle.auction_law.proofs.MeetsLemmas.{meets-tells}
use Rattle.auction_law.proofs.NearnessLemmas.{Contains-from_IsIn, IsIn}
use Rattle.auction_law.proofs.SumsLemmas.{above-le-buys, below-le-sells}
use Rattle.book_law.specs.Paired.{after_fronts, paired}
use Rattle.book_law.specs.Sides.{total}
use Rattle.book_law.proofs.LeftLemmas.{none-better_left}
use Rattle.book_law.proofs.Pairs.{Pairs}
use Rattle.itayose.specs.Fills.{side_filling}
use Rattle.itayose.specs.Laws.{CalmAfterwards, IsSettling, VolumeIsTraded, trades_by_time}
use Rattle.itayose.specs.declared.margin.Margin.TheVariants.{Time}
use Rattle.itayose.proofs.BestLemmas.{all-limited, fails, is-some, limit-fails, not-of}
use Rattle.itayose.proofs.TradingLemmas.{buys-by_time, fills-by_time, sells-by_time, within-sides}

-- ---- the volume

-- one fill more
quantity-step : (b : Bool) (f : Fill) (fs : List Fill) → ltb 0 f.qty ≡ b → quantity (filled fs) ≡ quantity fs → quantity (cond b (f ∷ filled fs) (filled fs)) ≡ quantity (f ∷ fs)
unfolding quantity
quantity-step true f fs e rest = omega (arith, rest, sum_by-cons (λ x. x.qty) f (filled fs), sum_by-cons (λ x. x.qty) f fs)
quantity-step false f fs e rest =
    let none : f.qty ≡ 0 = grind (arith, nat_tests, e) in
    omega (arith, rest, none, sum_by-cons (λ x. x.qty) f fs)

-- fills without shares count for nothing
quantity-filled : (fs : List Fill) → quantity (filled fs) ≡ quantity fs
quantity-filled [] = refl
quantity-filled (f ∷ fs) = quantity-step (ltb 0 f.qty) f fs refl (quantity-filled fs)

module _ (grid : List Price) (os : List Order) (p : ℕ) (s : IsSettling grid os p) where
  abbrev v : ℕ
  v = volume_at grid os p

  -- the volume is within both sides
  within : (v ≤ total (in_priority (length grid) Buy os)) × (v ≤ total (in_priority (length grid) Sell os))
  within = within-sides grid os p s.rising s.book.book.by_place s.book.spots s.met

  -- the trades are those of both fronts
  trades-are : trades_by_time grid os p ≡ paired p v (in_priority (length grid) Buy os) (in_priority (length grid) Sell os)
  trades-are = fills-by_time grid os p s.rising s.book.book.by_place s.book.spots s.met [] 1

  -- what the buys fill
  bought-volume : quantity (side_filling grid os p Time [] 1 Buy).fills ≡ v
  bought-volume =
      let m = meets-tells grid os p s.met in
      ap quantity (buys-by_time grid os p v s.rising s.book.book.by_place s.book.spots (omega (arith, m.2, above-le-buys grid os p)) (omega arith))
      ∙ quantity-filled (from_front v (whole (in_priority (length grid) Buy os)))
      ∙ from_front-quantity v (whole (in_priority (length grid) Buy os))
      ∙ omega (arith, within.0)

  -- what the sells fill
  sold-volume : quantity (side_filling grid os p Time [] 1 Sell).fills ≡ v
  sold-volume =
      let m = meets-tells grid os p s.met in
      ap quantity (sells-by_time grid os p v s.rising s.book.book.by_place s.book.spots (omega (arith, m.3, below-le-sells grid os p)) (omega arith))
      ∙ quantity-filled (from_front v (whole (in_priority (length grid) Sell os)))
      ∙ from_front-quantity v (whole (in_priority (length grid) Sell os))
      ∙ omega (arith, within.1)

-- and so what is traded
pub volume_is_traded : VolumeIsTraded
volume_is_traded grid os p s =
    let bought = bought-volume grid os p s in
    let sold = sold-volume grid os p s in
    (bought, sold, pair-quantity p (side_filling grid os p Time [] 1 Buy).fills (side_filling grid os p Time [] 1 Sell).fills ∙ omega (arith, bought, sold))

-- ---- what an order trades

-- what some orders have at a place
abbrev pub left_at : ℕ → List Order → ℕ
left_at place os = sum_by (λ o. cond (eqb place o.place) o.left 0) os

-- the front of some fills has no more at a place than they have
pub shorter-at : (place n : ℕ) (fs : List Fill) → filled_at place (from_front n fs) ≤ filled_at place fs
unfolding filled_at from_front
shorter-at place n [] = omega arith
shorter-at place n (f ∷ fs) =
    let rest = shorter-at place (n - f.qty) fs in
    let here = least (eqb place f.place) in
    omega (arith, rest, here, sum_by-cons (λ x. cond (eqb place x.place) x.qty 0) (record { place = f.place; qty = min n f.qty }) (from_front (n - f.qty) fs), sum_by-cons (λ x. cond (eqb place x.place) x.qty 0) f fs)
  where
    least : (b : Bool) → cond b (min n f.qty) 0 ≤ cond b f.qty 0
    least true = omega arith
    least false = omega arith

-- all that some orders have, at a place
pub whole-at : (place : ℕ) (os : List Order) → filled_at place (whole os) ≡ left_at place os
unfolding filled_at
whole-at place [] = refl
whole-at place (o ∷ os) = omega (arith, whole-at place os, sum_by-cons (λ f. cond (eqb place f.place) f.qty 0) (all_of o) (whole os), sum_by-cons (λ x. cond (eqb place x.place) x.left 0) o os)

-- a front of it
front-at : (place n : ℕ) (os : List Order) → filled_at place (from_front n (whole os)) ≤ left_at place os
front-at place n os = omega (arith, shorter-at place n (whole os), whole-at place os)

-- what is traded at a place is bought there or sold there
pub traded-sides : (place : ℕ) (ts : List Trade) → traded_at ts place ≤ bought_at place ts + sold_at place ts
unfolding traded_at bought_at sold_at
traded-sides place [] = omega arith
traded-sides place (t ∷ ts) =
    let rest = traded-sides place ts in
    let here = either (eqb place t.buy) (eqb place t.sell) in
    omega (arith, rest, here, sum_by-cons (λ x. cond (eqb place x.buy || eqb place x.sell) x.qty 0) t ts, sum_by-cons (λ x. cond (eqb place x.buy) x.qty 0) t ts, sum_by-cons (λ x. cond (eqb place x.sell) x.qty 0) t ts)
  where
    either : (b c : Bool) → cond (b || c) t.qty 0 ≤ cond b t.qty 0 + cond c t.qty 0
    either true c = omega arith
    either false c = omega arith

-- what is traded at a place is no more than both sides have there
paired-at : (p v place : ℕ) (bs ss : List Order) → traded_at (paired p v bs ss) place ≤ left_at place bs + left_at place ss
paired-at p v place bs ss =
    let fs = from_front v (whole bs) in
    let gs = from_front v (whole ss) in
    let bought : bought_at place (paired p v bs ss) ≤ left_at place bs = omega (arith, bought-front p place fs gs, shorter-at place (quantity gs) fs, front-at place v bs) in
    let sold : sold_at place (paired p v bs ss) ≤ left_at place ss = omega (arith, sold-front p place fs gs, shorter-at place (quantity fs) gs, front-at place v ss) in
    omega (arith, traded-sides place (paired p v bs ss), bought, sold)

-- orders behind one at an earlier place have nothing at it
pub none-at : (place : ℕ) (os : List Order) → AllByRecursion (λ o. place < o.place) os → left_at place os ≡ 0
none-at place [] later = refl
none-at place (o ∷ os) later =
    let rest = none-at place os later.1 in
    let other : eqb place o.place ≡ false = grind (arith, nat_tests, later.0) in
    let here : cond (eqb place o.place) o.left 0 ≡ 0 = ap (λ b. cond b o.left 0) other in
    omega (arith, rest, here, sum_by-cons (λ x. cond (eqb place x.place) x.left 0) o os)

-- at an order's place its book has what it has left
pub own-left : (os : List Order) → Pairs (λ a b. a.place < b.place) os → AllByRecursion (λ o. left_at o.place os ≤ o.left) os
own-left [] places = tt
own-left (x ∷ xs) places = (first, others xs places.0 (own-left xs places.1))
  where
    first : left_at x.place (x ∷ xs) ≤ x.left
    first = omega (arith, none-at x.place xs places.0, some (eqb x.place x.place), sum_by-cons (λ o. cond (eqb x.place o.place) o.left 0) x xs)
      where
        some : (b : Bool) → cond b x.left 0 ≤ x.left
        some true = omega arith
        some false = omega arith

    others : (ys : List Order) → AllByRecursion (λ o. x.place < o.place) ys → AllByRecursion (λ o. left_at o.place xs ≤ o.left) ys → AllByRecursion (λ o. left_at o.place (x ∷ xs) ≤ o.left) ys
    others [] later own = tt
    others (y ∷ ys) later own =
        let other : eqb y.place x.place ≡ false = grind (arith, nat_tests, later.0) in
        let here : cond (eqb y.place x.place) x.left 0 ≡ 0 = ap (λ b. cond b x.left 0) other in
        (omega (arith, own.0, here, sum_by-cons (λ o. cond (eqb y.place o.place) o.left 0) x xs), others ys later.1 own.1)

-- ---- the book afterwards

-- what holds of all orders holds of one of them
at-in : (P : Order → Type 0) (os : List Order) → All P os → (o : Order) → IsIn o os → P o
at-in P os all o i = let w = Contains-from_IsIn o os i in subst P w.2 (all w.0 o w.1)

-- where no buy is above a price, no sell below it, and on one side none at it, a book is calm
module _ (grid : List Price) (os : List Order) (p : ℕ) (no_above : All (λ o. is_buy_above grid p o ≡ false) os) (no_below : All (λ o. is_sell_below grid p o ≡ false) os) where
  -- each order has a limit
  limited : (o : Order) → IsIn o os → is_some (limit_of grid o.spot) ≡ true
  limited o i = by (is_buy o.side) refl
    where
      by : (b : Bool) → is_buy o.side ≡ b → is_some (limit_of grid o.spot) ≡ true
      by true e = let w = limit-fails (λ limit. ltb p limit) (is_buy o.side) (limit_of grid o.spot) e (at-in (λ x. is_buy_above grid p x ≡ false) os no_above o i) in is-some (limit_of grid o.spot) w.0 w.1
      by false e = let w = limit-fails (λ limit. ltb limit p) (not (is_buy o.side)) (limit_of grid o.spot) (not-of (is_buy o.side) e) (at-in (λ x. is_sell_below grid p x ≡ false) os no_below o i) in is-some (limit_of grid o.spot) w.0 w.1

  -- a buy's limit passes no test that its order fails; nor a sell's
  bid-fails : (f : ℕ → Bool) → All (λ o. (is_buy o.side && is_market_or f (limit_of grid o.spot)) ≡ false) os → (q : ℕ) → IsIn q (limits grid true os) → f q ≡ false
  bid-fails f none q i =
      let o = limits-from grid true os q i in
      let w = limit-fails f (is_buy o.0.side) (limit_of grid o.0.spot) o.2 (at-in (λ x. (is_buy x.side && is_market_or f (limit_of grid x.spot)) ≡ false) os none o.0 o.1) in
      let same : w.0 ≡ q = (let u = w.1 in let t = o.3 in cc) in
      subst (λ n. f n ≡ false) same w.2

  -- and so for the sells
  ask-fails : (f : ℕ → Bool) → All (λ o. (not (is_buy o.side) && is_market_or f (limit_of grid o.spot)) ≡ false) os → (q : ℕ) → IsIn q (limits grid false os) → f q ≡ false
  ask-fails f none q i =
      let o = limits-from grid false os q i in
      let w = limit-fails f (not (is_buy o.0.side)) (limit_of grid o.0.spot) (not-of (is_buy o.0.side) o.2) (at-in (λ x. (not (is_buy x.side) && is_market_or f (limit_of grid x.spot)) ≡ false) os none o.0 o.1) in
      let same : w.0 ≡ q = (let u = w.1 in let t = o.3 in cc) in
      subst (λ n. f n ≡ false) same w.2

  abbrev crossing : Bool
  crossing = list_any (λ bid. list_any (λ ask. nat_le ask bid) (limits grid false os)) (limits grid true os)

  -- so no limit buy is at or above a limit sell
  apart : All (λ o. is_buy_at grid p o ≡ false) os ⊎ All (λ o. is_sell_at grid p o ≡ false) os → crossing ≡ false
  apart one = fails crossing (λ e.
      let bid = list_any-true (λ bid. list_any (λ ask. nat_le ask bid) (limits grid false os)) (limits grid true os) e in
      let ask = list_any-true (λ ask. nat_le ask bid.0) (limits grid false os) bid.2 in
      let order : ask.0 ≤ bid.0 = leb-true _ _ ask.2 in
      let low : bid.0 ≤ p = ltb-false _ _ (bid-fails (λ limit. ltb p limit) no_above bid.0 bid.1) in
      let high : p ≤ ask.0 = ltb-false _ _ (ask-fails (λ limit. ltb limit p) no_below ask.0 ask.1) in
      elim one [
        | inl none ↦ omega (arith, order, high, leb-false _ _ (bid-fails (λ limit. leb p limit) none bid.0 bid.1))
        | inr none ↦ omega (arith, order, low, leb-false _ _ (ask-fails (λ limit. leb limit p) none ask.0 ask.1))
      ])

  -- which is calm
  calm-from : All (λ o. is_buy_at grid p o ≡ false) os ⊎ All (λ o. is_sell_at grid p o ≡ false) os → is_calm grid os ≡ true
  unfolding is_calm
  calm-from one = ap (λ b. all_limited grid os && not b) (apart one) ∙ ap (λ b. b && true) (sym (all-limited grid os limited))

-- as after the fills of an auction
pub calm_afterwards : CalmAfterwards
calm_afterwards grid os p s =
    let m = meets-tells grid os p s.met in
    let left = none-better_left grid p (volume_at grid os p) os s.rising s.book refl (omega (arith, m.2, above-le-buys grid os p)) (omega (arith, m.3, below-le-sells grid os p)) in
    ap (λ ts. is_calm grid (after_trades ts os)) (trades-are grid os p s)
    ∙ calm-from grid (after_fronts (length grid) p (volume_at grid os p) os) p left.0 left.1 left.2
