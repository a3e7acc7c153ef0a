-- What an auction trades is what each side loses: for every margin, and for an allotted close.
use Rattle.std.proofs.Common.{◌≡◌, ℕ, ◌+◌, ◌-◌, ◌≤◌, min, Bool, true, false, cond, eqb, ◌||◌, List, [], ◌∷◌, refl, sym, ap, ◌∙◌, arith}
use Rattle.std.specs.List.{AllByRecursion, sum_by}
use Rattle.std.proofs.lemmas.Bool.{eqb-true}
use Rattle.std.proofs.lemmas.Bool.Decides.{nat_tests}
use Rattle.std.proofs.lemmas.List.Sums.{sum_by-cons}
use Rattle.mkt_base.specs.Fills.{Fill, after_trades, bought_at, filled_at, from_front, pair, quantity, sold_at, traded_at}
use Rattle.mkt_base.specs.Priority.{in_priority, is_same_side}
use Rattle.mkt_base.specs.declared.auction.Trade.{Trade}
use Rattle.mkt_base.specs.declared.order.Order.{Order}
use Rattle.mkt_base.specs.declared.order.Side.{Side}
use Rattle.mkt_base.specs.declared.order.Side.TheVariants.{Buy, Sell}
use Rattle.mkt_base.proofs.FillLemmas.{bought-front, from_front-quantity, pair-quantity, sold-front}
use Rattle.book_law.specs.Laws.{IsBookOn}
use Rattle.book_law.specs.Sides.{total}
use Rattle.book_law.proofs.AheadLemmas.{in_priority-side}
use Rattle.book_law.proofs.FrontLemmas.{in_priority-all}
use Rattle.book_law.proofs.Pairs.{weaken}
use Rattle.book_law.proofs.PlaceLemmas.{sums-of_sides}
use Rattle.book_law.proofs.Sides.{in_priority-after}
use Rattle.zaraba.proofs.DoneLemmas.{noughts}
use Rattle.zaraba.proofs.ShareLawLemmas.{each, left_at, side-own, sum-parts, sums-agree, total-after}

-- ---- fills of a side's orders

-- an order of this place stands once among others
abbrev pub StandsOnce : List Order → ℕ → Type 0
StandsOnce rs place = (v : ℕ) → sum_by (λ o. cond (eqb place o.place) v 0) rs ≡ v

-- fills at places of a side, none of which is more than its order has left
pub record AreFillsOf (rs : List Order) (fs : List Fill) : Type 0 where
  pub within : AllByRecursion (λ o. filled_at o.place fs ≤ o.left) rs
  pub once : AllByRecursion (λ f. StandsOnce rs f.place) fs
  pub at : (place : ℕ) → filled_at place fs ≤ left_at place rs

pub filled-cons : (place : ℕ) (f : Fill) (fs : List Fill) → filled_at place (f ∷ fs) ≡ cond (eqb place f.place) f.qty 0 + filled_at place fs
unfolding filled_at
filled-cons place f fs = sum_by-cons (λ g. cond (eqb place g.place) g.qty 0) f fs

pub filled-none : (place : ℕ) → filled_at place [] ≡ 0
unfolding filled_at
filled-none place = refl

quantity-cons : (f : Fill) (fs : List Fill) → quantity (f ∷ fs) ≡ f.qty + quantity fs
unfolding quantity
quantity-cons f fs = sum_by-cons (λ g. g.qty) f fs

quantity-none : quantity [] ≡ 0
unfolding quantity
quantity-none = refl

same-place : (a b q : ℕ) → cond (eqb a b) q 0 ≡ cond (eqb b a) q 0
same-place a b q = grind (arith, nat_tests)

-- what the orders fill is what the fills have
filled-sum : (rs : List Order) (fs : List Fill) → AllByRecursion (λ f. StandsOnce rs f.place) fs → sum_by (λ o. filled_at o.place fs) rs ≡ quantity fs
filled-sum rs [] once = noughts (λ o. filled_at o.place []) rs (each (λ o. filled_at o.place [] ≡ 0) (λ o. filled-none o.place) rs) ∙ sym quantity-none
filled-sum rs (f ∷ fs) once =
    let rest = filled-sum rs fs once.1 in
    let parts = sum-parts (λ o. filled_at o.place (f ∷ fs)) (λ o. cond (eqb o.place f.place) f.qty 0) (λ o. filled_at o.place fs) (λ o. filled-cons o.place f fs) rs in
    let here =
    sums-agree (λ o. cond (eqb o.place f.place) f.qty 0) (λ o. cond (eqb f.place o.place) f.qty 0) rs
    (each (λ o. cond (eqb o.place f.place) f.qty 0 ≡ cond (eqb f.place o.place) f.qty 0) (λ o. same-place o.place f.place f.qty) rs)
    ∙ once.0 f.qty in
    omega (arith, rest, parts, here, quantity-cons f fs)

-- a front of fills is at their places, and has no more at any
front-once : (P : ℕ → Type 0) (n : ℕ) (fs : List Fill) → AllByRecursion (λ f. P f.place) fs → AllByRecursion (λ f. P f.place) (from_front n fs)
unfolding from_front
front-once P n [] all = tt
front-once P n (f ∷ fs) all = (all.0, front-once P (n - f.qty) fs all.1)

pub shorter-at : (place n : ℕ) (fs : List Fill) → filled_at place (from_front n fs) ≤ filled_at place fs
unfolding from_front
shorter-at place n [] = omega arith
shorter-at place n (f ∷ fs) =
    let rest = shorter-at place (n - f.qty) fs in
    let here = least (eqb place f.place) in
    omega (arith, rest, here, filled-cons place (record f { qty = min n f.qty }) (from_front (n - f.qty) fs), filled-cons place f fs)
  where
    least : (b : Bool) → cond b (min n f.qty) 0 ≤ cond b f.qty 0
    least true = omega arith
    least false = omega arith

-- where no order of a place stands, no fill is at it
none-there : (rs : List Order) (place : ℕ) → ((v : ℕ) → sum_by (λ o. cond (eqb place o.place) v 0) rs ≡ 0) → (fs : List Fill) → AllByRecursion (λ f. StandsOnce rs f.place) fs → filled_at place fs ≡ 0
none-there rs place away [] once = filled-none place
none-there rs place away (f ∷ fs) once =
    let rest = none-there rs place away fs once.1 in
    let here = step (eqb place f.place) refl in
    omega (arith, rest, here, filled-cons place f fs)
  where
    step : (b : Bool) → eqb place f.place ≡ b → cond b f.qty 0 ≡ 0
    step true e =
        let same = ap (λ p. sum_by (λ o. cond (eqb p o.place) 1 0) rs) (eqb-true place f.place e) in
        absurd (omega (arith, away 1, once.0 1, same))
    step false e = refl

-- ---- what is traded at a place is bought there or sold there

traded-bounds : (place : ℕ) (ts : List Trade) → (bought_at place ts ≤ traded_at ts place) × (sold_at place ts ≤ traded_at ts place) × (traded_at ts place ≤ bought_at place ts + sold_at place ts)
unfolding traded_at bought_at sold_at
traded-bounds place [] = (omega arith, omega arith, omega arith)
traded-bounds place (t ∷ ts) =
    let rest = traded-bounds place ts in
    let here = either (eqb place t.buy) (eqb place t.sell) in
    let all = sum_by-cons (λ x. cond (eqb place x.buy || eqb place x.sell) x.qty 0) t ts in
    let buy = sum_by-cons (λ x. cond (eqb place x.buy) x.qty 0) t ts in
    let sell = sum_by-cons (λ x. cond (eqb place x.sell) x.qty 0) t ts in
    (omega (arith, rest.0, here.0, all, buy), omega (arith, rest.1, here.1, all, sell), omega (arith, rest.2, here.2, all, buy, sell))
  where
    either : (b c : Bool) → (cond b t.qty 0 ≤ cond (b || c) t.qty 0) × (cond c t.qty 0 ≤ cond (b || c) t.qty 0) × (cond (b || c) t.qty 0 ≤ cond b t.qty 0 + cond c t.qty 0)
    either true true = (omega arith, omega arith, omega arith)
    either true false = (omega arith, omega arith, omega arith)
    either false true = (omega arith, omega arith, omega arith)
    either false false = (omega arith, omega arith, omega arith)

-- a side whose orders trade what some fills have loses these
side-loses : (ts : List Trade) (rs : List Order) (fs : List Fill) → AllByRecursion (λ o. (traded_at ts o.place ≡ filled_at o.place fs) × (filled_at o.place fs ≤ o.left)) rs
    → AllByRecursion (λ f. StandsOnce rs f.place) fs → quantity fs + total (after_trades ts rs) ≡ total rs
side-loses ts rs fs all once =
    let same = sums-agree (λ o. traded_at ts o.place) (λ o. filled_at o.place fs) rs (weaken (λ o. (traded_at ts o.place ≡ filled_at o.place fs) × (filled_at o.place fs ≤ o.left)) (λ o. traded_at ts o.place ≡ filled_at o.place fs) (λ o h. h.0) rs all) in
    let loses = total-after ts rs (weaken (λ o. (traded_at ts o.place ≡ filled_at o.place fs) × (filled_at o.place fs ≤ o.left)) (λ o. traded_at ts o.place ≤ o.left) (λ o h. omega (arith, h.0, h.1)) rs all) in
    omega (arith, same, loses, filled-sum rs fs once)

-- ---- the two sides of a book

module _ (n : ℕ) (os : List Order) (is : IsBookOn n os) where
  abbrev side : Side → List Order
  side s = in_priority n s os

  pub ranked-once : (s : Side) → AllByRecursion (λ x. is_same_side s x.side ≡ true → StandsOnce (side s) x.place) os
  ranked-once s =
      weaken (λ x. (v : ℕ) → sum_by (λ y. cond (eqb x.place y.place) v 0) (side s) ≡ cond (is_same_side s x.side) v 0) (λ x. is_same_side s x.side ≡ true → StandsOnce (side s) x.place)
      (λ x h own v. h v ∙ ap (λ b. cond b v 0) own) os (side-own (λ v y. v) n s os is)

  pub side-once : (s : Side) → AllByRecursion (λ x. StandsOnce (side s) x.place) (side s)
  side-once s = joined (side s) (in_priority-side s os n) (in_priority-all (λ x. is_same_side s x.side ≡ true → StandsOnce (side s) x.place) s os (ranked-once s) n)
    where
      joined : (xs : List Order) → AllByRecursion (λ x. is_same_side s x.side ≡ true) xs → AllByRecursion (λ x. is_same_side s x.side ≡ true → StandsOnce (side s) x.place) xs → AllByRecursion (λ x. StandsOnce (side s) x.place) xs
      joined [] own all = tt
      joined (x ∷ xs) own all = (all.0 own.0, joined xs own.1 all.1)

  -- at an order's place the book has what it has left
  pub book-own : AllByRecursion (λ x. left_at x.place os ≡ x.left) os
  book-own =
      joined os (side-own (λ v y. y.left) n Buy os is) (side-own (λ v y. y.left) n Sell os is)
    where
      parts : (s : Side) (m : ℕ) → cond (is_same_side Buy s) m 0 + cond (is_same_side Sell s) m 0 ≡ m
      parts Buy m = omega arith
      parts Sell m = omega arith

      joined : (xs : List Order) → AllByRecursion (λ x. (v : ℕ) → sum_by (λ y. cond (eqb x.place y.place) y.left 0) (side Buy) ≡ cond (is_same_side Buy x.side) x.left 0) xs
          → AllByRecursion (λ x. (v : ℕ) → sum_by (λ y. cond (eqb x.place y.place) y.left 0) (side Sell) ≡ cond (is_same_side Sell x.side) x.left 0) xs → AllByRecursion (λ x. left_at x.place os ≡ x.left) xs
      joined [] f g = tt
      joined (x ∷ xs) f g =
          (omega (arith, f.0 0, g.0 0, parts x.side x.left, sums-of_sides (λ y. cond (eqb x.place y.place) y.left 0) n os is.spots), joined xs f.1 g.1)

  -- an order of one side stands nowhere on the other
  away : (s other : Side) → ((x : Side) → is_same_side s x ≡ true → is_same_side other x ≡ false) → AllByRecursion (λ x. (v : ℕ) → sum_by (λ y. cond (eqb x.place y.place) v 0) (side other) ≡ 0) (side s)
  away s other apart = joined (side s) (in_priority-side s os n) (in_priority-all (λ x. (v : ℕ) → sum_by (λ y. cond (eqb x.place y.place) v 0) (side other) ≡ cond (is_same_side other x.side) v 0) s os (side-own (λ v y. v) n other os is) n)
    where
      joined : (xs : List Order) → AllByRecursion (λ x. is_same_side s x.side ≡ true) xs → AllByRecursion (λ x. (v : ℕ) → sum_by (λ y. cond (eqb x.place y.place) v 0) (side other) ≡ cond (is_same_side other x.side) v 0) xs
          → AllByRecursion (λ x. (v : ℕ) → sum_by (λ y. cond (eqb x.place y.place) v 0) (side other) ≡ 0) xs
      joined [] own all = tt
      joined (x ∷ xs) own all = (λ v. all.0 v ∙ ap (λ b. cond b v 0) (apart x.side own.0), joined xs own.1 all.1)

  buys-apart : (x : Side) → is_same_side Buy x ≡ true → is_same_side Sell x ≡ false
  buys-apart Buy e = refl
  buys-apart Sell e = absurd (cc)

  sells-apart : (x : Side) → is_same_side Sell x ≡ true → is_same_side Buy x ≡ false
  sells-apart Buy e = absurd (cc)
  sells-apart Sell e = refl

  module _ (p : ℕ) (fs gs : List Fill) (bought : AreFillsOf (side Buy) fs) (sold : AreFillsOf (side Sell) gs) where
    abbrev ts : List Trade
    ts = pair p fs gs

    buy-trades : (xs : List Order) → AllByRecursion (λ x. (v : ℕ) → sum_by (λ y. cond (eqb x.place y.place) v 0) (side Sell) ≡ 0) xs → AllByRecursion (λ x. filled_at x.place fs ≤ x.left) xs
        → AllByRecursion (λ x. (traded_at ts x.place ≡ filled_at x.place (from_front (quantity gs) fs)) × (filled_at x.place (from_front (quantity gs) fs) ≤ x.left)) xs
    buy-trades [] none within = tt
    buy-trades (x ∷ xs) none within =
        let nothing = none-there (side Sell) x.place none.0 gs sold.once in
        let sells = sold-front p x.place fs gs in
        let least = shorter-at x.place (quantity fs) gs in
        let buys = bought-front p x.place fs gs in
        let bounds = traded-bounds x.place ts in
        ((omega (arith, nothing, sells, least, buys, bounds.0, bounds.2), omega (arith, shorter-at x.place (quantity gs) fs, within.0)), buy-trades xs none.1 within.1)

    sell-trades : (xs : List Order) → AllByRecursion (λ x. (v : ℕ) → sum_by (λ y. cond (eqb x.place y.place) v 0) (side Buy) ≡ 0) xs → AllByRecursion (λ x. filled_at x.place gs ≤ x.left) xs
        → AllByRecursion (λ x. (traded_at ts x.place ≡ filled_at x.place (from_front (quantity fs) gs)) × (filled_at x.place (from_front (quantity fs) gs) ≤ x.left)) xs
    sell-trades [] none within = tt
    sell-trades (x ∷ xs) none within =
        let nothing = none-there (side Buy) x.place none.0 fs bought.once in
        let buys = bought-front p x.place fs gs in
        let least = shorter-at x.place (quantity gs) fs in
        let sells = sold-front p x.place fs gs in
        let bounds = traded-bounds x.place ts in
        ((omega (arith, nothing, buys, least, sells, bounds.1, bounds.2), omega (arith, shorter-at x.place (quantity fs) gs, within.0)), sell-trades xs none.1 within.1)

    pub pair-balanced : (s : Side) → sum_by (λ t. t.qty) ts + total (in_priority n s (after_trades ts os)) ≡ total (in_priority n s os)
    pair-balanced Buy =
        let after = ap total (in_priority-after n Buy ts os) in
        let loses = side-loses ts (side Buy) (from_front (quantity gs) fs) (buy-trades (side Buy) (away Buy Sell buys-apart) bought.within) (front-once (StandsOnce (side Buy)) (quantity gs) fs bought.once) in
        omega (arith, after, loses, pair-quantity p fs gs, from_front-quantity (quantity gs) fs)
    pair-balanced Sell =
        let after = ap total (in_priority-after n Sell ts os) in
        let loses = side-loses ts (side Sell) (from_front (quantity fs) gs) (sell-trades (side Sell) (away Sell Buy sells-apart) sold.within) (front-once (StandsOnce (side Sell)) (quantity fs) gs sold.once) in
        omega (arith, after, loses, pair-quantity p fs gs, from_front-quantity (quantity fs) gs)

    -- no place trades more than its order has left
    pub pair-within : (place : ℕ) → traded_at ts place ≤ left_at place os
    pair-within place =
        let bounds = traded-bounds place ts in
        let buys : bought_at place ts ≤ left_at place (side Buy) = omega (arith, bought-front p place fs gs, shorter-at place (quantity gs) fs, bought.at place) in
        let sells : sold_at place ts ≤ left_at place (side Sell) = omega (arith, sold-front p place fs gs, shorter-at place (quantity fs) gs, sold.at place) in
        omega (arith, bounds.2, buys, sells, sums-of_sides (λ y. cond (eqb place y.place) y.left 0) n os is.spots)
