-- The pairing of two sides: one trade of the fronts, and then the pairing of what is left.
use Rattle.std.proofs.Common.{◌≡◌, ℕ, ◌+◌, ◌-◌, ◌<◌, ◌≤◌, min, Bool, true, false, cond, eqb, ltb, ◌||◌, List, [], ◌∷◌, filter, refl, sym, ap, ◌∙◌, arith}
use Rattle.std.specs.List.{AllByRecursion}
use Rattle.std.proofs.lemmas.Bool.Decides.{nat_tests}
use Rattle.mkt_base.specs.Fills.{Fill, after_trades, from_front, less_traded, pair, traded_at, whole}
use Rattle.mkt_base.specs.declared.auction.Trade.{Trade}
use Rattle.mkt_base.specs.declared.order.Order.{Order}
use Rattle.book_law.specs.BookView.{less}
use Rattle.book_law.specs.Paired.{paired, trade_of}
use Rattle.book_law.specs.Sides.{has_place}
use Rattle.book_law.proofs.Views.{less-none}
use Rattle.book_law.proofs.PairLemmas.{buy-skipped, both-less, fill, none-front, nothing-bought, sell-skipped}

-- an empty filter fails at the head and is empty behind it
module _ {X : Type 0} (t : X → Bool) (x : X) (xs : List X) where
  empty-head : (b : Bool) → t x ≡ b → cond b (x ∷ filter t xs) (filter t xs) ≡ [] → (t x ≡ false) × (filter t xs ≡ [])
  empty-head true e none = absurd (cc)
  empty-head false e none = (e, none)

  pub empty-parts : filter t (x ∷ xs) ≡ [] → (t x ≡ false) × (filter t xs ≡ [])
  empty-parts none = empty-head (t x) refl none

-- One trade: what it takes from an order, and that it leaves the others as they are.
module _ (t : Trade) where
  taken-by : (b : Bool) (q : ℕ) → 0 + cond b q 0 ≡ cond b q 0
  taken-by b q = omega arith

  own-less : (b : Bool) (o : Order) → (eqb o.place t.buy || eqb o.place t.sell) ≡ b → less_traded (t ∷ []) o ≡ less (cond b t.qty 0) o
  unfolding traded_at
  own-less b o e = ap (λ n. record o { left = o.left - n }) (taken-by (eqb o.place t.buy || eqb o.place t.sell) t.qty ∙ ap (λ c. cond c t.qty 0) e)

  other-order : (o : Order) → eqb t.buy o.place ≡ false → eqb t.sell o.place ≡ false → less_traded (t ∷ []) o ≡ o
  other-order o e f =
      let apart : (eqb o.place t.buy || eqb o.place t.sell) ≡ false = grind (arith, nat_tests, e, f) in
      own-less false o apart ∙ less-none o

  other-step : (o : Order) (os : List Order) → eqb t.buy o.place ≡ false → eqb t.sell o.place ≡ false → 0 < o.left → after_trades (t ∷ []) (o ∷ os) ≡ o ∷ after_trades (t ∷ []) os
  unfolding after_trades
  other-step o os e f some =
      let stays : ltb 0 o.left ≡ true = grind (arith, nat_tests, some) in
      ap (λ x. cond (ltb 0 x.left) (x ∷ after_trades (t ∷ []) os) (after_trades (t ∷ []) os)) (other-order o e f)
      ∙ ap (λ b. cond b (o ∷ after_trades (t ∷ []) os) (after_trades (t ∷ []) os)) stays

  -- orders at other places stay
  pub others-stay : (os : List Order) → filter (has_place t.buy) os ≡ [] → filter (has_place t.sell) os ≡ [] → AllByRecursion (λ o. 0 < o.left) os → after_trades (t ∷ []) os ≡ os
  unfolding after_trades
  others-stay [] e f some = refl
  others-stay (o ∷ os) e f some =
      let buys = empty-parts (has_place t.buy) o os e in
      let sells = empty-parts (has_place t.sell) o os f in
      other-step o os buys.0 sells.0 some.0 ∙ ap (λ xs. o ∷ xs) (others-stay os buys.1 sells.1 some.1)

  -- the first order has less, or is gone
  pub first-less : (o : Order) (os : List Order) → (eqb o.place t.buy || eqb o.place t.sell) ≡ true → after_trades (t ∷ []) os ≡ os
      → after_trades (t ∷ []) (o ∷ os) ≡ cond (ltb 0 (o.left - t.qty)) (less t.qty o ∷ os) os
  unfolding after_trades
  first-less o os e rest =
      ap (λ x. cond (ltb 0 x.left) (x ∷ after_trades (t ∷ []) os) (after_trades (t ∷ []) os)) (own-less true o e)
      ∙ ap (λ xs. cond (ltb 0 (o.left - t.qty)) (less t.qty o ∷ xs) xs) rest

-- What a front has is the front of the side that is so much shorter.
front-less : (a left n v : ℕ) (fs : List Fill) → n ≤ left → n ≤ v → from_front (v - n) (fill a (left - n) ∷ fs) ≡ fill a (min v left - n) ∷ from_front (v - left) fs
unfolding from_front
front-less a left n v fs h k =
    let first : min (v - n) (left - n) ≡ min v left - n = grind (arith, nat_tests, h, k) in
    let rest : (v - n) - (left - n) ≡ v - left = omega (arith, h, k) in
    rw (first, rest) refl

front-gone : (left n v : ℕ) → n ≤ left → n ≤ v → ltb 0 (left - n) ≡ false → (min v left - n ≡ 0) × (v - left ≡ v - n)
front-gone left n v h k e = (grind (arith, nat_tests, h, k, e), grind (arith, nat_tests, h, k, e))

module _ (p n v : ℕ) (x : Order) (xs : List Order) (within : n ≤ x.left) (most : n ≤ v) where
  -- the buys of a pairing, with the first buy's shares that are left
  buys-step : (b : Bool) (gs : List Fill) → ltb 0 (x.left - n) ≡ b
      → pair p (fill x.place (min v x.left - n) ∷ from_front (v - x.left) (whole xs)) gs ≡ pair p (from_front (v - n) (whole (cond b (less n x ∷ xs) xs))) gs
  buys-step true gs e = ap (λ fs. pair p fs gs) (sym (front-less x.place x.left n v (whole xs) within most))
  buys-step false gs e =
      let gone = front-gone x.left n v within most e in
      ap (λ m. pair p (fill x.place m ∷ from_front (v - x.left) (whole xs)) gs) gone.0
      ∙ buy-skipped p x.place (from_front (v - x.left) (whole xs)) gs
      ∙ ap (λ m. pair p (from_front m (whole xs)) gs) gone.1

  pub buys-less : (gs : List Fill)
      → pair p (fill x.place (min v x.left - n) ∷ from_front (v - x.left) (whole xs)) gs ≡ pair p (from_front (v - n) (whole (cond (ltb 0 (x.left - n)) (less n x ∷ xs) xs))) gs
  buys-less gs = buys-step (ltb 0 (x.left - n)) gs refl

  -- and the sells
  sells-step : (b : Bool) (fs : List Fill) → ltb 0 (x.left - n) ≡ b
      → pair p fs (fill x.place (min v x.left - n) ∷ from_front (v - x.left) (whole xs)) ≡ pair p fs (from_front (v - n) (whole (cond b (less n x ∷ xs) xs)))
  sells-step true fs e = ap (pair p fs) (sym (front-less x.place x.left n v (whole xs) within most))
  sells-step false fs e =
      let gone = front-gone x.left n v within most e in
      ap (λ m. pair p fs (fill x.place m ∷ from_front (v - x.left) (whole xs))) gone.0
      ∙ sell-skipped p x.place fs (from_front (v - x.left) (whole xs))
      ∙ ap (λ m. pair p fs (from_front m (whole xs))) gone.1

  pub sells-less : (fs : List Fill)
      → pair p fs (fill x.place (min v x.left - n) ∷ from_front (v - x.left) (whole xs)) ≡ pair p fs (from_front (v - n) (whole (cond (ltb 0 (x.left - n)) (less n x ∷ xs) xs)))
  sells-less fs = sells-step (ltb 0 (x.left - n)) fs refl

-- the fronts x and y of two sides whose orders stand at places of their own, each with something left
pub record AreFronts (x y : Order) (xs ys : List Order) : Type 0 where
  pub buy_once : filter (has_place x.place) xs ≡ []
  pub buy_alone : filter (has_place x.place) (y ∷ ys) ≡ []
  pub sell_once : filter (has_place y.place) ys ≡ []
  pub sell_alone : filter (has_place y.place) (x ∷ xs) ≡ []
  pub buys_left : AllByRecursion (λ o. 0 < o.left) xs
  pub sells_left : AllByRecursion (λ o. 0 < o.left) ys

module _ (p n : ℕ) (x y : Order) (xs ys : List Order) (fronts : AreFronts x y xs ys) where
  abbrev pub trade : Trade
  trade = trade_of p n x.place y.place

  -- what the trade leaves of each side
  pub bids-left : after_trades (trade ∷ []) (x ∷ xs) ≡ cond (ltb 0 (x.left - n)) (less n x ∷ xs) xs
  bids-left =
      let own : (eqb x.place x.place || eqb x.place y.place) ≡ true = grind (arith, nat_tests) in
      let sells = empty-parts (has_place y.place) x xs fronts.sell_alone in
      first-less trade x xs own (others-stay trade xs fronts.buy_once sells.1 fronts.buys_left)

  pub asks-left : after_trades (trade ∷ []) (y ∷ ys) ≡ cond (ltb 0 (y.left - n)) (less n y ∷ ys) ys
  asks-left =
      let own : (eqb y.place x.place || eqb y.place y.place) ≡ true = grind (arith, nat_tests) in
      let buys = empty-parts (has_place x.place) y ys fronts.buy_alone in
      first-less trade y ys own (others-stay trade ys buys.1 fronts.sell_once fronts.sells_left)

  both-fronts : (v : ℕ) → n ≡ min (min x.left y.left) v → n ≡ min (min v x.left) (min v y.left)
  both-fronts v e = grind (arith, nat_tests, e)

  -- a pairing of some shares is one trade of the fronts, and then the pairing of the other shares over what the trade leaves
  pub paired-more : (v : ℕ) → n ≡ min (min x.left y.left) v → 0 < n
      → paired p v (x ∷ xs) (y ∷ ys) ≡ trade ∷ paired p (v - n) (after_trades (trade ∷ []) (x ∷ xs)) (after_trades (trade ∷ []) (y ∷ ys))
  unfolding from_front
  paired-more v e some =
      let of-buy : n ≤ x.left = grind (arith, nat_tests, e) in
      let of-sell : n ≤ y.left = grind (arith, nat_tests, e) in
      let of-most : n ≤ v = grind (arith, nat_tests, e) in
      both-less p x.place y.place (min v x.left) (min v y.left) n (from_front (v - x.left) (whole xs)) (from_front (v - y.left) (whole ys)) (both-fronts v e) some
      ∙ ap (λ ts. trade ∷ ts)
      (buys-less p n v x xs of-buy of-most (fill y.place (min v y.left - n) ∷ from_front (v - y.left) (whole ys))
      ∙ sells-less p n v y ys of-sell of-most (from_front (v - n) (whole (cond (ltb 0 (x.left - n)) (less n x ∷ xs) xs)))
      ∙ ap (λ os. paired p (v - n) os (cond (ltb 0 (y.left - n)) (less n y ∷ ys) ys)) (sym bids-left)
      ∙ ap (paired p (v - n) (after_trades (trade ∷ []) (x ∷ xs))) (sym asks-left))

-- a pairing of no shares has no trade
pub paired-none : (p : ℕ) (bs ss : List Order) → paired p 0 bs ss ≡ []
paired-none p bs ss = nothing-bought p (from_front 0 (whole bs)) (from_front 0 (whole ss)) (none-front (whole bs))
