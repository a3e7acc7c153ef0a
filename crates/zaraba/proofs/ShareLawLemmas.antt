-- The laws of the shares that an arrival trades.
use Rattle.std.proofs.Common.{◌≡◌, ◌≢◌, ℕ, ◌+◌, ◌-◌, ◌<◌, ◌≤◌, min, Bool, true, false, cond, eqb, ltb, ◌||◌, List, [], ◌∷◌, length, filter, refl, sym, ap, ◌∙◌, arith}
use Rattle.std.specs.List.{All, AllByRecursion, sum_by}
use Rattle.std.proofs.lemmas.Bool.{ne_eqb}
use Rattle.std.proofs.lemmas.Bool.Decides.{nat_tests}
use Rattle.std.proofs.lemmas.List.Elements.{All-from_recursion, recursion_from_All}
use Rattle.std.proofs.lemmas.List.Sums.{sum_by-cons}
use Rattle.mkt_base.specs.Book.{is_buy}
use Rattle.mkt_base.specs.Fills.{after_trades, less_traded, quantity, traded_at}
use Rattle.mkt_base.specs.Priority.{in_priority, is_same_side}
use Rattle.mkt_base.specs.declared.auction.Trade.{Trade}
use Rattle.mkt_base.specs.declared.order.Order.{Order}
use Rattle.mkt_base.specs.declared.order.Side.{Side}
use Rattle.mkt_base.specs.declared.order.Side.TheVariants.{Buy, Sell}
use Rattle.mkt_base.specs.declared.units.Price.{Price}
use Rattle.book_law.specs.Laws.{IsBookOn}
use Rattle.book_law.specs.Sides.{total}
use Rattle.book_law.proofs.AheadLemmas.{in_priority-side}
use Rattle.book_law.proofs.FrontLemmas.{in_priority-all}
use Rattle.book_law.proofs.Pairs.{Pairs, pairs-from_AllPairs, weaken}
use Rattle.book_law.proofs.Sides.{in_priority-after}
use Rattle.book_law.proofs.SideSums.{sum-priority}
use Rattle.book_law.proofs.TakenLemmas.{total-cons}
use Rattle.zaraba.specs.Arrival.{Arrival, arrival, arrival_over, crossed, crosses, limit_price, opposite, trade_with}
use Rattle.zaraba.specs.Laws.{BoughtIsSold, IsArriving, NoneFillsMore}
use Rattle.zaraba.specs.Walk.{is_too_far, with_left, with_trades}
use Rattle.zaraba.proofs.DoneLemmas.{noughts, traded-cons}
use Rattle.zaraba.proofs.EachLemmas.{both, crossed-all, each-trade, filtered}
use Rattle.zaraba.proofs.PriceLawLemmas.{trade-qty}

-- ---- sums

-- equal terms have equal sums
pub sums-agree : {X : Type 0} (f g : X → ℕ) (xs : List X) → AllByRecursion (λ x. f x ≡ g x) xs → sum_by f xs ≡ sum_by g xs
sums-agree f g [] all = refl
sums-agree f g (x ∷ xs) all = let rest = sums-agree f g xs all.1 in let here : f x ≡ g x = all.0 in omega (arith, sum_by-cons f x xs, sum_by-cons g x xs, rest, here)

pub each : {X : Type 0} (P : X → Type 0) → ((x : X) → P x) → (xs : List X) → AllByRecursion P xs
each P f [] = tt
each P f (x ∷ xs) = (f x, each P f xs)

-- what passes a test is no more than all
pub sum-filter : (f : Order → ℕ) (t : Order → Bool) (xs : List Order) → sum_by f (filter t xs) ≤ sum_by f xs
sum-filter f t [] = omega arith
sum-filter f t (x ∷ xs) = step (t x) (sum-filter f t xs)
  where
    step : (b : Bool) → sum_by f (filter t xs) ≤ sum_by f xs → sum_by f (cond b (x ∷ filter t xs) (filter t xs)) ≤ sum_by f (x ∷ xs)
    step true rest = omega (arith, rest, sum_by-cons f x (filter t xs), sum_by-cons f x xs)
    step false rest = omega (arith, rest, sum_by-cons f x xs)

-- Where the places rise, a sum over those at an order's place is the term of the order.
module _ (g : ℕ → Order → ℕ) where
  at-place : ℕ → ℕ → List Order → ℕ
  at-place v place os = sum_by (λ y. cond (eqb place y.place) (g v y) 0) os

  at-none : (v place : ℕ) (os : List Order) → AllByRecursion (λ y. place < y.place) os → at-place v place os ≡ 0
  unfolding at-place
  at-none v place os later = noughts (λ y. cond (eqb place y.place) (g v y) 0) os (weaken (λ y. place < y.place) (λ y. cond (eqb place y.place) (g v y) 0 ≡ 0) (λ y h. other y h) os later)
    where
      other : (y : Order) → place < y.place → cond (eqb place y.place) (g v y) 0 ≡ 0
      other y h = let apart : eqb place y.place ≡ false = grind (arith, nat_tests, h) in ap (λ b. cond b (g v y) 0) apart

  at-own : (os : List Order) → Pairs (λ a b. a.place < b.place) os → AllByRecursion (λ x. (v : ℕ) → at-place v x.place os ≡ g v x) os
  unfolding at-place
  at-own [] places = tt
  at-own (x ∷ xs) places = (first, others xs places.0 (at-own xs places.1))
    where
      first : (v : ℕ) → sum_by (λ y. cond (eqb x.place y.place) (g v y) 0) (x ∷ xs) ≡ g v x
      first v =
          let own : eqb x.place x.place ≡ true = grind (arith, nat_tests) in
          let here : cond (eqb x.place x.place) (g v x) 0 ≡ g v x = ap (λ b. cond b (g v x) 0) own in
          omega (arith, at-none v x.place xs places.0, here, sum_by-cons (λ y. cond (eqb x.place y.place) (g v y) 0) x xs)

      others : (ys : List Order) → AllByRecursion (λ y. x.place < y.place) ys → AllByRecursion (λ y. (v : ℕ) → sum_by (λ z. cond (eqb y.place z.place) (g v z) 0) xs ≡ g v y) ys
          → AllByRecursion (λ y. (v : ℕ) → sum_by (λ z. cond (eqb y.place z.place) (g v z) 0) (x ∷ xs) ≡ g v y) ys
      others [] later own = tt
      others (y ∷ ys) later own = (
        λ v.
            let other : eqb y.place x.place ≡ false = grind (arith, nat_tests, later.0) in
            let here : cond (eqb y.place x.place) (g v x) 0 ≡ 0 = ap (λ b. cond b (g v x) 0) other in
            omega (arith, own.0 v, here, sum_by-cons (λ z. cond (eqb y.place z.place) (g v z) 0) x xs),
        others ys later.1 own.1,
      )

swap-tests : (a b : Bool) (n : ℕ) → cond a (cond b n 0) 0 ≡ cond b (cond a n 0) 0
swap-tests true true n = refl
swap-tests true false n = refl
swap-tests false true n = refl
swap-tests false false n = refl

-- the same over a side in its priority: an order's place counts there for the order, if it is of the side
pub side-own : (g : ℕ → Order → ℕ) (n : ℕ) (side : Side) (os : List Order) → IsBookOn n os
    → AllByRecursion (λ x. (v : ℕ) → sum_by (λ y. cond (eqb x.place y.place) (g v y) 0) (in_priority n side os) ≡ cond (is_same_side side x.side) (g v x) 0) os
unfolding at-place
side-own g n side os is =
    weaken (λ x. (v : ℕ) → sum_by (λ y. cond (eqb x.place y.place) (cond (is_same_side side y.side) (g v y) 0) 0) os ≡ cond (is_same_side side x.side) (g v x) 0)
    (λ x. (v : ℕ) → sum_by (λ y. cond (eqb x.place y.place) (g v y) 0) (in_priority n side os) ≡ cond (is_same_side side x.side) (g v x) 0)
    (λ x own v.
    sum-priority (λ y. cond (eqb x.place y.place) (g v y) 0) n side os is.spots
    ∙ sums-agree (λ y. cond (is_same_side side y.side) (cond (eqb x.place y.place) (g v y) 0) 0) (λ y. cond (eqb x.place y.place) (cond (is_same_side side y.side) (g v y) 0) 0) os
    (each (λ y. cond (is_same_side side y.side) (cond (eqb x.place y.place) (g v y) 0) 0 ≡ cond (eqb x.place y.place) (cond (is_same_side side y.side) (g v y) 0) 0)
    (λ y. swap-tests (is_same_side side y.side) (eqb x.place y.place) (g v y)) os)
    ∙ own v)
    os (at-own (λ v y. cond (is_same_side side y.side) (g v y) 0) os (pairs-from_AllPairs (λ a b. a.place < b.place) os is.book.by_place))

-- ---- what an arrival trades, by the place

-- what some orders have at a place
abbrev pub left_at : ℕ → List Order → ℕ
left_at place xs = sum_by (λ x. cond (eqb place x.place) x.left 0) xs

-- no trades trade nothing
none-traded : (place : ℕ) → traded_at [] place ≡ 0
unfolding traded_at
none-traded place = refl

module _ (grid : List Price) (range : ℕ → ℕ) (first : ℕ) where
  -- a trade takes its quantity from the order that arrives
  arriving-trade : (o x : Order) (q : ℕ) → cond (eqb o.place (trade_with grid o x q).buy || eqb o.place (trade_with grid o x q).sell) (trade_with grid o x q).qty 0 ≡ q
  arriving-trade o x q = by (is_buy o.side)
    where
      by : (b : Bool)
          → let t : Trade = cond b (record { price = record { 0 = limit_price grid x }; qty = q; buy = o.place; sell = x.place }) (record { price = record { 0 = limit_price grid x }; qty = q; buy = x.place; sell = o.place }) in
          cond (eqb o.place t.buy || eqb o.place t.sell) t.qty 0 ≡ q
      by true = grind (arith, nat_tests)
      by false = grind (arith, nat_tests)

  -- and from the resting one; from no other
  resting-trade : (o x : Order) (q place : ℕ) → eqb place o.place ≡ false
      → cond (eqb place (trade_with grid o x q).buy || eqb place (trade_with grid o x q).sell) (trade_with grid o x q).qty 0 ≡ cond (eqb place x.place) q 0
  resting-trade o x q place apart = by (is_buy o.side)
    where
      by : (b : Bool)
          → let t : Trade = cond b (record { price = record { 0 = limit_price grid x }; qty = q; buy = o.place; sell = x.place }) (record { price = record { 0 = limit_price grid x }; qty = q; buy = x.place; sell = o.place }) in
          cond (eqb place t.buy || eqb place t.sell) t.qty 0 ≡ cond (eqb place x.place) q 0
      by true = grind (arith, nat_tests, apart)
      by false = grind (arith, nat_tests, apart)

  -- what the order trades and what it has left are what it had
  abbrev Kept : List Order → Order → ℕ → Arrival → Type 0
  Kept xs o now a = traded_at a.trades o.place + a.left ≡ o.left

  -- and no resting order trades more than it has
  abbrev Within : List Order → Order → ℕ → Arrival → Type 0
  Within xs o now a = (place : ℕ) → eqb place o.place ≡ false → traded_at a.trades place ≤ left_at place xs

  kept-more : (x : Order) (xs : List Order) (o : Order) (now : ℕ) (a : Arrival) → 0 < o.left → 0 < x.left → is_too_far grid range first now x ≡ false
      → Kept xs (with_left o (o.left - min o.left x.left)) (limit_price grid x) a → Kept (x ∷ xs) o now (with_trades (trade_with grid o x (min o.left x.left) ∷ []) a)
  kept-more x xs o now a some has e rest =
      let q = min o.left x.left in
      let within : q ≤ o.left = omega arith in
      let here = arriving-trade o x q in
      omega (arith, rest, within, here, traded-cons o.place (trade_with grid o x q) a.trades)

  pub keeps : (xs : List Order) → AllByRecursion (λ x. 0 < x.left) xs → (o : Order) (now : ℕ) → Kept xs o now (arrival_over grid range first xs o now)
  keeps xs all o now = each-trade grid range first (λ x. 0 < x.left) (λ x h. h) Kept (λ ys p last stop. omega (arith, none-traded p.place)) kept-more xs all o now

  within-more : (x : Order) (xs : List Order) (o : Order) (now : ℕ) (a : Arrival) → 0 < o.left → 0 < x.left → is_too_far grid range first now x ≡ false
      → Within xs (with_left o (o.left - min o.left x.left)) (limit_price grid x) a → Within (x ∷ xs) o now (with_trades (trade_with grid o x (min o.left x.left) ∷ []) a)
  within-more x xs o now a some has e rest = λ place apart.
      let q = min o.left x.left in
      let here = resting-trade o x q place apart in
      omega (arith, rest place apart, here, least (eqb place x.place), traded-cons place (trade_with grid o x q) a.trades, sum_by-cons (λ y. cond (eqb place y.place) y.left 0) x xs)
    where
      least : (b : Bool) → cond b (min o.left x.left) 0 ≤ cond b x.left 0
      least true = omega arith
      least false = omega arith

  pub within : (xs : List Order) → AllByRecursion (λ x. 0 < x.left) xs → (o : Order) (now : ℕ) → Within xs o now (arrival_over grid range first xs o now)
  within xs all o now = each-trade grid range first (λ x. 0 < x.left) (λ x h. h) Within (λ ys p last stop place apart. omega (arith, none-traded place)) within-more xs all o now

-- An order that arrives at a book.
module _ (grid : List Price) (range : ℕ → ℕ) (orders : List Order) (o : Order) (last : ℕ) (is : IsArriving grid orders o) where
  abbrev facing : List Order
  facing = in_priority (length grid) (opposite o.side) orders

  abbrev trades : List Trade
  trades = (arrival grid range orders o last).trades

  some-left : AllByRecursion (λ x. 0 < x.left) orders
  some-left = recursion_from_All (λ x. 0 < x.left) orders is.book.book.left

  crossed-left : AllByRecursion (λ x. 0 < x.left) (crossed grid o orders)
  crossed-left = crossed-all grid o (λ x. 0 < x.left) (λ x. 0 < x.left) (λ x h e. h) orders some-left

  -- the order's place is none of the book's
  apart : AllByRecursion (λ x. eqb x.place o.place ≡ false) orders
  apart = weaken (λ x. x.place < o.place) (λ x. eqb x.place o.place ≡ false) (λ x h. grind (arith, nat_tests, h)) orders (recursion_from_All (λ x. x.place < o.place) orders is.later)

  -- what is traded at a place is no more than the other side has there
  facing-within : (place : ℕ) → eqb place o.place ≡ false → traded_at trades place ≤ left_at place facing
  facing-within place away =
      let all = within grid range last (crossed grid o orders) crossed-left o last place away in
      let some = sum-filter (λ x. cond (eqb place x.place) x.left 0) (crosses grid o) facing in
      omega (arith, all, some)

  -- no order of the other side trades more than it has left, and none of the order's own side trades
  pub traded-within : AllByRecursion (λ x. traded_at trades x.place ≤ cond (is_same_side (opposite o.side) x.side) x.left 0) orders
  traded-within =
      weaken (λ x. (eqb x.place o.place ≡ false) × ((v : ℕ) → left_at x.place facing ≡ cond (is_same_side (opposite o.side) x.side) x.left 0))
      (λ x. traded_at trades x.place ≤ cond (is_same_side (opposite o.side) x.side) x.left 0) (λ x h. let all = facing-within x.place h.0 in let own = h.1 0 in omega (arith, all, own)) orders
      (both (λ x. eqb x.place o.place ≡ false) (λ x. (v : ℕ) → left_at x.place facing ≡ cond (is_same_side (opposite o.side) x.side) x.left 0) orders apart
      (side-own (λ v y. y.left) (length grid) (opposite o.side) orders is.book))

  least-of : (b : Bool) (n : ℕ) → cond b n 0 ≤ n
  least-of true n = omega arith
  least-of false n = omega arith

  traded-left : AllByRecursion (λ x. traded_at trades x.place ≤ x.left) orders
  traded-left =
      weaken (λ x. traded_at trades x.place ≤ cond (is_same_side (opposite o.side) x.side) x.left 0) (λ x. traded_at trades x.place ≤ x.left)
      (λ x h. let most = least-of (is_same_side (opposite o.side) x.side) x.left in omega (arith, h, most)) orders traded-within

  -- a place of no order trades nothing
  elsewhere : (place : ℕ) → place ≢ o.place → All (λ x. place ≢ x.place) orders → traded_at trades place ≡ 0
  elsewhere place away others =
      let none = noughts (λ x. cond (eqb place x.place) x.left 0) facing (weaken (λ x. place ≢ x.place) (λ x. cond (eqb place x.place) x.left 0 ≡ 0) (λ x h. ap (λ b. cond b x.left 0) (ne_eqb place x.place h)) facing
      (in_priority-all (λ x. place ≢ x.place) (opposite o.side) orders (recursion_from_All (λ x. place ≢ x.place) orders others) (length grid))) in
      omega (arith, facing-within place (ne_eqb place o.place away), none)

pub none_fills_more : NoneFillsMore
none_fills_more grid range orders o last is = (
  All-from_recursion (λ x. traded_at (arrival grid range orders o last).trades x.place ≤ x.left) orders (traded-left grid range orders o last is),
  keeps grid range last (crossed grid o orders) (crossed-left grid range orders o last is) o last,
  elsewhere grid range orders o last is,
)

-- ---- what is bought is sold

pub sum-parts : {X : Type 0} (f g h : X → ℕ) → ((x : X) → f x ≡ g x + h x) → (xs : List X) → sum_by f xs ≡ sum_by g xs + sum_by h xs
sum-parts f g h parts [] = refl
sum-parts f g h parts (x ∷ xs) = let rest = sum-parts f g h parts xs in let here = parts x in omega (arith, sum_by-cons f x xs, sum_by-cons g x xs, sum_by-cons h x xs, rest, here)

-- what a trade takes from the order at a place
abbrev taken_by : Trade → ℕ → ℕ
taken_by t place = cond (eqb place t.buy || eqb place t.sell) t.qty 0

-- where each trade takes its quantity from some orders, they trade all the quantities
all-traded : (ts : List Trade) (ys : List Order) → AllByRecursion (λ t. sum_by (λ y. taken_by t y.place) ys ≡ t.qty) ts → sum_by (λ y. traded_at ts y.place) ys ≡ sum_by (λ t. t.qty) ts
all-traded [] ys all = noughts (λ y. traded_at [] y.place) ys (each (λ y. traded_at [] y.place ≡ 0) (λ y. none-traded y.place) ys)
all-traded (t ∷ ts) ys all =
    let rest = all-traded ts ys all.1 in
    let here : sum_by (λ y. taken_by t y.place) ys ≡ t.qty = all.0 in
    let parts = sum-parts (λ y. traded_at (t ∷ ts) y.place) (λ y. taken_by t y.place) (λ y. traded_at ts y.place) (λ y. traded-cons y.place t ts) ys in
    omega (arith, rest, here, parts, sum_by-cons (λ u. u.qty) t ts)

-- orders that trade no more than they have lose what they trade
pub total-after : (ts : List Trade) (ys : List Order) → AllByRecursion (λ y. traded_at ts y.place ≤ y.left) ys → sum_by (λ y. traded_at ts y.place) ys + total (after_trades ts ys) ≡ total ys
unfolding after_trades quantity
total-after ts [] all = refl
total-after ts (y ∷ ys) all = step (ltb 0 (less_traded ts y).left) refl (total-after ts ys all.1)
  where
    step : (b : Bool) → ltb 0 (less_traded ts y).left ≡ b → sum_by (λ x. traded_at ts x.place) ys + total (after_trades ts ys) ≡ total ys
        → sum_by (λ x. traded_at ts x.place) (y ∷ ys) + total (cond b (less_traded ts y ∷ after_trades ts ys) (after_trades ts ys)) ≡ total (y ∷ ys)
    step true e rest =
        let most : traded_at ts y.place ≤ y.left = all.0 in
        omega (arith, rest, most, sum_by-cons (λ x. traded_at ts x.place) y ys, total-cons (less_traded ts y) (after_trades ts ys), total-cons y ys)
    step false e rest =
        let most : traded_at ts y.place ≤ y.left = all.0 in
        let none : y.left - traded_at ts y.place ≡ 0 = grind (arith, nat_tests, e) in
        omega (arith, rest, most, none, sum_by-cons (λ x. traded_at ts x.place) y ys, total-cons y ys)

-- orders that trade nothing stay as they are
untouched : (ts : List Trade) (ys : List Order) → AllByRecursion (λ y. (traded_at ts y.place ≡ 0) × (0 < y.left)) ys → after_trades ts ys ≡ ys
unfolding after_trades
untouched ts [] all = refl
untouched ts (y ∷ ys) all =
    let none : traded_at ts y.place ≡ 0 = all.0.0 in
    let same : y.left - traded_at ts y.place ≡ y.left = omega (arith, none) in
    let some : ltb 0 y.left ≡ true = grind (arith, nat_tests, all.0.1) in
    ap (λ n. cond (ltb 0 n) (record y { left = n } ∷ after_trades ts ys) (after_trades ts ys)) same
    ∙ ap (λ b. cond b (y ∷ after_trades ts ys) (after_trades ts ys)) some
    ∙ ap (λ xs. y ∷ xs) (untouched ts ys all.1)

-- Trades with orders each of whose places stands once among others.
module _ (grid : List Price) (range : ℕ → ℕ) (first : ℕ) (ys : List Order) where
  abbrev StandsOnce : Order → Type 0
  StandsOnce x = (0 < x.left) × ((v : ℕ) → sum_by (λ y. cond (eqb x.place y.place) v 0) ys ≡ v)

  abbrev TakesAll : List Order → Order → ℕ → Arrival → Type 0
  TakesAll xs o now a = AllByRecursion (λ y. eqb y.place o.place ≡ false) ys → AllByRecursion (λ t. sum_by (λ y. taken_by t y.place) ys ≡ t.qty) a.trades

  same-place : (a b q : ℕ) → cond (eqb a b) q 0 ≡ cond (eqb b a) q 0
  same-place a b q = grind (arith, nat_tests)

  takes-more : (x : Order) (xs : List Order) (o : Order) (now : ℕ) (a : Arrival) → 0 < o.left → StandsOnce x → is_too_far grid range first now x ≡ false
      → TakesAll xs (with_left o (o.left - min o.left x.left)) (limit_price grid x) a → TakesAll (x ∷ xs) o now (with_trades (trade_with grid o x (min o.left x.left) ∷ []) a)
  takes-more x xs o now a some once e rest = λ away.
      let q = min o.left x.left in
      let t = trade_with grid o x q in
      let own =
      sums-agree (λ y. taken_by t y.place) (λ y. cond (eqb x.place y.place) q 0) ys
      (weaken (λ y. eqb y.place o.place ≡ false) (λ y. taken_by t y.place ≡ cond (eqb x.place y.place) q 0) (λ y h. resting-trade grid range first o x q y.place h ∙ same-place y.place x.place q) ys away) in
      (own ∙ once.1 q ∙ sym (trade-qty grid range first o x q), rest away)

  pub takes-all : (xs : List Order) → AllByRecursion StandsOnce xs → (o : Order) (now : ℕ) → TakesAll xs o now (arrival_over grid range first xs o now)
  takes-all xs all o now = each-trade grid range first StandsOnce (λ x h. h.0) TakesAll (λ zs p last stop away. tt) takes-more xs all o now

module _ (grid : List Price) (range : ℕ → ℕ) (orders : List Order) (o : Order) (last : ℕ) (is : IsArriving grid orders o) where
  abbrev opposing : List Order
  opposing = in_priority (length grid) (opposite o.side) orders

  -- each order of the other side stands there once
  facing-once : AllByRecursion (StandsOnce grid range last opposing) opposing
  facing-once =
      once opposing (in_priority-side (opposite o.side) orders (length grid)) (in_priority-all (λ x. 0 < x.left) (opposite o.side) orders (some-left grid range orders o last is) (length grid))
      (in_priority-all (λ x. (v : ℕ) → sum_by (λ y. cond (eqb x.place y.place) v 0) opposing ≡ cond (is_same_side (opposite o.side) x.side) v 0) (opposite o.side) orders
      (side-own (λ v y. v) (length grid) (opposite o.side) orders is.book) (length grid))
    where
      once : (xs : List Order) → AllByRecursion (λ x. is_same_side (opposite o.side) x.side ≡ true) xs → AllByRecursion (λ x. 0 < x.left) xs
          → AllByRecursion (λ x. (v : ℕ) → sum_by (λ y. cond (eqb x.place y.place) v 0) opposing ≡ cond (is_same_side (opposite o.side) x.side) v 0) xs → AllByRecursion (StandsOnce grid range last opposing) xs
      once [] f g h = tt
      once (x ∷ xs) f g h = ((g.0, λ v. h.0 v ∙ ap (λ b. cond b v 0) f.0), once xs f.1 g.1 h.1)

  facing-traded : sum_by (λ y. traded_at (arrival grid range orders o last).trades y.place) opposing ≡ sum_by (λ t. t.qty) (arrival grid range orders o last).trades
  facing-traded =
      all-traded (arrival grid range orders o last).trades opposing
      (takes-all grid range last opposing (crossed grid o orders)
      (filtered (StandsOnce grid range last opposing) (StandsOnce grid range last opposing) (crosses grid o) (λ x h e. h) opposing facing-once) o last
      (in_priority-all (λ y. eqb y.place o.place ≡ false) (opposite o.side) orders (apart grid range orders o last is) (length grid)))

  facing-loses : sum_by (λ t. t.qty) (arrival grid range orders o last).trades + total (in_priority (length grid) (opposite o.side) (after_trades (arrival grid range orders o last).trades orders)) ≡ total opposing
  facing-loses =
      let ts = (arrival grid range orders o last).trades in
      let after = ap total (in_priority-after (length grid) (opposite o.side) ts orders) in
      let loses = total-after ts opposing (in_priority-all (λ y. traded_at ts y.place ≤ y.left) (opposite o.side) orders (traded-left grid range orders o last is) (length grid)) in
      let traded = facing-traded in
      omega (arith, after, loses, traded)

  abbrev own : List Order
  own = in_priority (length grid) o.side orders

  -- an order of the same side as another is not of its other side
  not-facing : (s side : Side) (n m : ℕ) → is_same_side s side ≡ true → n ≤ cond (is_same_side (opposite s) side) m 0 → n ≡ 0
  not-facing Buy Buy n m e h = omega (arith, h)
  not-facing Buy Sell n m e h = absurd (cc)
  not-facing Sell Buy n m e h = absurd (cc)
  not-facing Sell Sell n m e h = omega (arith, h)

  own-stays : in_priority (length grid) o.side (after_trades (arrival grid range orders o last).trades orders) ≡ own
  own-stays =
      let ts = (arrival grid range orders o last).trades in
      in_priority-after (length grid) o.side ts orders
      ∙ untouched ts own (still own (in_priority-side o.side orders (length grid)) (in_priority-all (λ x. 0 < x.left) o.side orders (some-left grid range orders o last is) (length grid))
      (in_priority-all (λ x. traded_at ts x.place ≤ cond (is_same_side (opposite o.side) x.side) x.left 0) o.side orders (traded-within grid range orders o last is) (length grid)))
    where
      still : (xs : List Order) → AllByRecursion (λ x. is_same_side o.side x.side ≡ true) xs → AllByRecursion (λ x. 0 < x.left) xs
          → AllByRecursion (λ x. traded_at (arrival grid range orders o last).trades x.place ≤ cond (is_same_side (opposite o.side) x.side) x.left 0) xs
          → AllByRecursion (λ x. (traded_at (arrival grid range orders o last).trades x.place ≡ 0) × (0 < x.left)) xs
      still [] f g h = tt
      still (x ∷ xs) f g h = ((not-facing o.side x.side (traded_at (arrival grid range orders o last).trades x.place) x.left f.0 h.0, g.0), still xs f.1 g.1 h.1)

-- what the order trades and what it has left
module _ (grid : List Price) (range : ℕ → ℕ) (first : ℕ) where
  abbrev Spent : List Order → Order → ℕ → Arrival → Type 0
  Spent xs o now a = sum_by (λ t. t.qty) a.trades + a.left ≡ o.left

  spent-none : (n : ℕ) → sum_by {X = Trade} (λ t. t.qty) [] + n ≡ n
  spent-none n = omega arith

  spent-more : (x : Order) (xs : List Order) (o : Order) (now : ℕ) (a : Arrival) → 0 < o.left → 0 < x.left → is_too_far grid range first now x ≡ false
      → Spent xs (with_left o (o.left - min o.left x.left)) (limit_price grid x) a → Spent (x ∷ xs) o now (with_trades (trade_with grid o x (min o.left x.left) ∷ []) a)
  spent-more x xs o now a some has e rest =
      let q = min o.left x.left in
      let within : q ≤ o.left = omega arith in
      omega (arith, rest, within, trade-qty grid range first o x q, sum_by-cons (λ t. t.qty) (trade_with grid o x q) a.trades)

  pub spent : (xs : List Order) → AllByRecursion (λ x. 0 < x.left) xs → (o : Order) (now : ℕ) → Spent xs o now (arrival_over grid range first xs o now)
  spent xs all o now = each-trade grid range first (λ x. 0 < x.left) (λ x h. h) Spent (λ ys p last stop. spent-none p.left) spent-more xs all o now

pub bought_is_sold : BoughtIsSold
bought_is_sold grid range orders o last is =
    (facing-loses grid range orders o last is, spent grid range last (crossed grid o orders) (crossed-left grid range orders o last is) o last, own-stays grid range orders o last is)
