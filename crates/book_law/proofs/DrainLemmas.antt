-- What is left of the sides when a volume was traded from their fronts: each side without the front of this volume.
use Rattle.std.proofs.Common.{◌≡◌, ℕ, ◌+◌, ◌-◌, ◌<◌, ◌≤◌, min, Bool, true, false, cond, eqb, ltb, ◌||◌, List, [], ◌∷◌, filter, refl, ap, ◌∙◌, arith}
use Rattle.std.specs.List.{All, AllByRecursion, AllPairs}
use Rattle.std.proofs.lemmas.Bool.Decides.{nat_tests}
use Rattle.std.proofs.lemmas.List.Elements.{recursion_from_All}
use Rattle.std.proofs.lemmas.List.Sums.{sum_by-cons}
use Rattle.mkt_base.specs.Fills.{Fill, after_trades, bought_at, filled_at, from_front, quantity, sold_at, traded_at, whole}
use Rattle.mkt_base.specs.Priority.{in_priority}
use Rattle.mkt_base.specs.declared.auction.Trade.{Trade}
use Rattle.mkt_base.specs.declared.order.Side.TheVariants.{Buy, Sell}
use Rattle.mkt_base.specs.declared.order.Order.{Order}
use Rattle.mkt_base.proofs.FillLemmas.{bought-front, from_front-quantity, sold-front}
use Rattle.book_law.specs.BookView.{IsSpotBelow, less}
use Rattle.book_law.specs.Paired.{left_front, paired}
use Rattle.book_law.specs.Sides.{count_at, has_place, total}
use Rattle.book_law.proofs.FrontLemmas.{in_priority-all}
use Rattle.book_law.proofs.PairLemmas.{fill}
use Rattle.book_law.proofs.Pairing.{empty-parts}
use Rattle.book_law.proofs.Pairs.{weaken}
use Rattle.book_law.proofs.PlaceLemmas.{empty-from_count, once-at, single}
use Rattle.book_law.proofs.Sides.{in_priority-after}

-- the first v shares of the first v shares are these
front-again : (v : ℕ) (fs : List Fill) → from_front v (from_front v fs) ≡ from_front v fs
unfolding from_front
front-again v [] = refl
front-again v (f ∷ fs) =
    let first : min v (min v f.qty) ≡ min v f.qty = grind (arith, nat_tests) in
    let rest : v - min v f.qty ≡ v - f.qty = grind (arith, nat_tests) in
    ap (λ n. record f { qty = n } ∷ from_front (v - min v f.qty) (from_front (v - f.qty) fs)) first
    ∙ ap (λ n. record f { qty = min v f.qty } ∷ from_front n (from_front (v - f.qty) fs)) rest
    ∙ ap (λ gs. record f { qty = min v f.qty } ∷ gs) (front-again (v - f.qty) fs)

-- a place that stands nowhere fills nothing
filled-cons : (place : ℕ) (f : Fill) (fs : List Fill) → filled_at place (f ∷ fs) ≡ cond (eqb place f.place) f.qty 0 + filled_at place fs
unfolding filled_at
filled-cons place f fs = sum_by-cons (λ g. cond (eqb place g.place) g.qty 0) f fs

filled-nowhere : (place v : ℕ) (os : List Order) → filter (has_place place) os ≡ [] → filled_at place (from_front v (whole os)) ≡ 0
unfolding from_front filled_at
filled-nowhere place v [] none = refl
filled-nowhere place v (o ∷ os) none =
    let parts = empty-parts (has_place place) o os none in
    filled-cons place (fill o.place (min v o.left)) (from_front (v - o.left) (whole os))
    ∙ ap (λ b. cond b (min v o.left) 0 + filled_at place (from_front (v - o.left) (whole os))) parts.0
    ∙ ap (λ n. 0 + n) (filled-nowhere place (v - o.left) os parts.1)

-- A place that sells nothing is traded as much as it buys, and one that buys nothing as much as it sells.
only-bought : (a b : Bool) (q : ℕ) → cond b q 0 ≡ 0 → cond (a || b) q 0 ≡ cond a q 0
only-bought true b q none = refl
only-bought false b q none = none

only-sold : (a b : Bool) (q : ℕ) → cond a q 0 ≡ 0 → cond (a || b) q 0 ≡ cond b q 0
only-sold true true q none = refl
only-sold true false q none = none
only-sold false b q none = refl

module _ (place : ℕ) where
  traded-cons : (t : Trade) (ts : List Trade) → traded_at (t ∷ ts) place ≡ cond (eqb place t.buy || eqb place t.sell) t.qty 0 + traded_at ts place
  unfolding traded_at
  traded-cons t ts = sum_by-cons (λ u. cond (eqb place u.buy || eqb place u.sell) u.qty 0) t ts

  bought-cons : (t : Trade) (ts : List Trade) → bought_at place (t ∷ ts) ≡ cond (eqb place t.buy) t.qty 0 + bought_at place ts
  unfolding bought_at
  bought-cons t ts = sum_by-cons (λ u. cond (eqb place u.buy) u.qty 0) t ts

  sold-cons : (t : Trade) (ts : List Trade) → sold_at place (t ∷ ts) ≡ cond (eqb place t.sell) t.qty 0 + sold_at place ts
  unfolding sold_at
  sold-cons t ts = sum_by-cons (λ u. cond (eqb place u.sell) u.qty 0) t ts

  traded-bought : (ts : List Trade) → sold_at place ts ≡ 0 → traded_at ts place ≡ bought_at place ts
  unfolding traded_at bought_at
  traded-bought [] none = refl
  traded-bought (t ∷ ts) none =
      let parts = sold-cons t ts in
      let first = only-bought (eqb place t.buy) (eqb place t.sell) t.qty (omega arith) in
      let rest = traded-bought ts (omega arith) in
      omega (arith, traded-cons t ts, bought-cons t ts, first, rest)

  traded-sold : (ts : List Trade) → bought_at place ts ≡ 0 → traded_at ts place ≡ sold_at place ts
  unfolding traded_at sold_at
  traded-sold [] none = refl
  traded-sold (t ∷ ts) none =
      let parts = bought-cons t ts in
      let first = only-sold (eqb place t.buy) (eqb place t.sell) t.qty (omega arith) in
      let rest = traded-sold ts (omega arith) in
      omega (arith, traded-cons t ts, sold-cons t ts, first, rest)

-- Trades that take from the places of some orders what the front of v shares has there leave what stands behind this front.
module _ (ts : List Trade) where
  same-rest : (os : List Order) → AllByRecursion (λ o. 0 < o.left) os → left_front 0 os ≡ os
  unfolding left_front
  same-rest [] some = refl
  same-rest (o ∷ os) some =
      let here : ltb 0 (o.left - 0) ≡ true = grind (arith, nat_tests, some.0) in
      let same : o.left - 0 ≡ o.left = omega arith in
      ap (λ b. cond b (less 0 o ∷ os) (left_front (0 - o.left) os)) here ∙ ap (λ n. record o { left = n } ∷ os) same

  -- the fills of others, without one of another place
  others-filled : (f : Fill) (fs : List Fill) (os : List Order) → filter (has_place f.place) os ≡ [] → AllByRecursion (λ o. traded_at ts o.place ≡ filled_at o.place (f ∷ fs)) os
      → AllByRecursion (λ o. traded_at ts o.place ≡ filled_at o.place fs) os
  others-filled f fs [] none all = tt
  others-filled f fs (o ∷ os) none all =
      let parts = empty-parts (has_place f.place) o os none in
      let apart : eqb o.place f.place ≡ false = grind (arith, nat_tests, parts.0) in
      (all.0 ∙ filled-cons o.place f fs ∙ ap (λ b. cond b f.qty 0 + filled_at o.place fs) apart ∙ zero-first (filled_at o.place fs), others-filled f fs os parts.1 all.1)
    where
      zero-first : (n : ℕ) → 0 + n ≡ n
      zero-first n = omega arith

  drain-step : (b : Bool) (v : ℕ) (o : Order) (os : List Order) → ltb 0 (o.left - v) ≡ b → traded_at ts o.place ≡ min v o.left → AllByRecursion (λ x. 0 < x.left) os
      → after_trades ts os ≡ left_front (v - o.left) os → after_trades ts (o ∷ os) ≡ cond b (less v o ∷ os) (left_front (v - o.left) os)
  unfolding after_trades
  drain-step b v o os e here some rest =
      let left : o.left - traded_at ts o.place ≡ o.left - v = grind (arith, nat_tests, here) in
      ap (λ n. cond (ltb 0 n) (record o { left = n } ∷ after_trades ts os) (after_trades ts os)) left
      ∙ ap (λ c. cond c (less v o ∷ after_trades ts os) (after_trades ts os)) e
      ∙ by b e
    where
      by : (c : Bool) → ltb 0 (o.left - v) ≡ c → cond c (less v o ∷ after_trades ts os) (after_trades ts os) ≡ cond c (less v o ∷ os) (left_front (v - o.left) os)
      by true f =
          let none : v - o.left ≡ 0 = grind (arith, nat_tests, f) in
          ap (λ xs. less v o ∷ xs) (rest ∙ ap (λ n. left_front n os) none ∙ same-rest os some)
      by false f = rest

  drained-front : (v : ℕ) (os : List Order) → ((place : ℕ) → count_at place os ≤ 1) → AllByRecursion (λ o. 0 < o.left) os
      → AllByRecursion (λ o. traded_at ts o.place ≡ filled_at o.place (from_front v (whole os))) os → after_trades ts os ≡ left_front v os
  unfolding left_front from_front after_trades
  drained-front v [] once some all = refl
  drained-front v (o ∷ os) once some all =
      let parts = λ (place : ℕ). sum_by-cons (once-at place) o os in
      let own : once-at o.place o ≡ 1 = ap (λ b. cond b 1 0) (same-place o.place) in
      let alone : count_at o.place os ≡ 0 = omega (arith, once o.place, parts o.place, own) in
      let empty = empty-from_count o.place os alone in
      let here = all.0 ∙ filled-cons o.place (fill o.place (min v o.left)) (from_front (v - o.left) (whole os))
      ∙ ap (λ b. cond b (min v o.left) 0 + filled_at o.place (from_front (v - o.left) (whole os))) (same-place o.place)
      ∙ ap (λ n. min v o.left + n) (filled-nowhere o.place (v - o.left) os empty) ∙ zero-last (min v o.left) in
      let rest = drained-front (v - o.left) os (λ place. omega (arith, once place, parts place)) some.1
      (others-filled (fill o.place (min v o.left)) (from_front (v - o.left) (whole os)) os empty all.1) in
      drain-step (ltb 0 (o.left - v)) v o os refl here some.1 rest
    where
      same-place : (place : ℕ) → eqb place place ≡ true
      same-place place = grind (arith, nat_tests)

      zero-last : (n : ℕ) → n + 0 ≡ n
      zero-last n = omega arith

-- each order of a list stands there
counted : (os : List Order) → AllByRecursion (λ o. 1 ≤ count_at o.place os) os
counted [] = tt
counted (o ∷ os) =
    let own : eqb o.place o.place ≡ true = grind (arith, nat_tests) in
    let here : once-at o.place o ≡ 1 = ap (λ b. cond b 1 0) own in (
      omega (arith, sum_by-cons (once-at o.place) o os, here),
      weaken (λ x. 1 ≤ count_at x.place os) (λ x. 1 ≤ count_at x.place (o ∷ os)) (λ x h. omega (arith, sum_by-cons (once-at x.place) o os, h)) os (counted os),
    )

-- the front of v shares has v, where there are as many
full-front : (v : ℕ) (os : List Order) → v ≤ total os → quantity (from_front v (whole os)) ≡ v
full-front v os most = let all = from_front-quantity v (whole os) in grind (arith, nat_tests, all, most)

-- A book by place on a grid of n prices, whose orders have something left, after v shares were traded from both fronts.
module _ (n : ℕ) (os : List Order) (rising : AllPairs (λ a b. a.place < b.place) os) (below : All (λ o. IsSpotBelow n o.spot) os) (left : All (λ o. 0 < o.left) os) where
  abbrev pub bs : List Order
  bs = in_priority n Buy os

  abbrev pub ss : List Order
  ss = in_priority n Sell os

  module _ (p v : ℕ) (buys : v ≤ total bs) (sells : v ≤ total ss) where
    abbrev pub trades : List Trade
    trades = paired p v bs ss

    -- what a place buys, and what it sells
    all-bought : (place : ℕ) → bought_at place trades ≡ filled_at place (from_front v (whole bs))
    all-bought place =
        bought-front p place (from_front v (whole bs)) (from_front v (whole ss))
        ∙ ap (λ m. filled_at place (from_front m (from_front v (whole bs)))) (full-front v ss sells) ∙ ap (filled_at place) (front-again v (whole bs))

    all-sold : (place : ℕ) → sold_at place trades ≡ filled_at place (from_front v (whole ss))
    all-sold place =
        sold-front p place (from_front v (whole bs)) (from_front v (whole ss))
        ∙ ap (λ m. filled_at place (from_front m (from_front v (whole ss)))) (full-front v bs buys) ∙ ap (filled_at place) (front-again v (whole ss))

    buy-traded : (o : Order) → 1 ≤ count_at o.place bs → traded_at trades o.place ≡ filled_at o.place (from_front v (whole bs))
    buy-traded o here =
        let alone : count_at o.place ss ≡ 0 = omega (arith, single n os rising below o.place, here) in
        let none = all-sold o.place ∙ filled-nowhere o.place v ss (empty-from_count o.place ss alone) in
        traded-bought o.place trades none ∙ all-bought o.place

    sell-traded : (o : Order) → 1 ≤ count_at o.place ss → traded_at trades o.place ≡ filled_at o.place (from_front v (whole ss))
    sell-traded o here =
        let alone : count_at o.place bs ≡ 0 = omega (arith, single n os rising below o.place, here) in
        let none = all-bought o.place ∙ filled-nowhere o.place v bs (empty-from_count o.place bs alone) in
        traded-sold o.place trades none ∙ all-sold o.place

    -- each side is left without its front
    pub drained : (in_priority n Buy (after_trades trades os) ≡ left_front v bs) × (in_priority n Sell (after_trades trades os) ≡ left_front v ss)
    drained =
        let some = recursion_from_All (λ o. 0 < o.left) os left in (
          in_priority-after n Buy trades os
              ∙ drained-front trades v bs (λ place. omega (arith, single n os rising below place)) (in_priority-all (λ o. 0 < o.left) Buy os some n)
              (weaken (λ o. 1 ≤ count_at o.place bs) (λ o. traded_at trades o.place ≡ filled_at o.place (from_front v (whole bs))) buy-traded bs (counted bs)),
          in_priority-after n Sell trades os
              ∙ drained-front trades v ss (λ place. omega (arith, single n os rising below place)) (in_priority-all (λ o. 0 < o.left) Sell os some n)
              (weaken (λ o. 1 ≤ count_at o.place ss) (λ o. traded_at trades o.place ≡ filled_at o.place (from_front v (whole ss))) sell-traded ss (counted ss)),
        )
