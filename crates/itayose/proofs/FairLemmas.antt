-- What trades do to a book: no order trades more than it has, each side loses what is traded, and trades are in units.
use Rattle.std.proofs.Common.{◌≡◌, ℕ, ◌+◌, ◌-◌, ◌%◌, ◌<◌, ◌≤◌, min, Bool, true, false, cond, not, eqb, leb, ltb, ◌&&◌, ◌||◌, ◌⊎◌, inl, inr, List, [], ◌∷◌, ◌++◌, map, filter, length, get_or, set, All, refl, sym, ap, subst, ◌∙◌, arith}
use Rattle.std.specs.List.{AllByRecursion, range_with_len, sum_by}
use Rattle.std.proofs.lemmas.Bool.Decides.{nat_tests}
use Rattle.std.proofs.lemmas.List.Elements.{All-from_recursion, All-map, All-set, recursion_from_All}
use Rattle.std.proofs.lemmas.List.{get_or_past}
use Rattle.std.proofs.lemmas.List.Sums.{sum_by-append, sum_by-cons}
use Rattle.mkt_base.specs.Book.{buys, is_better, is_buy, is_buy_at, is_market_or, is_sell_at, limit_of, price_at, sells, total_left}
use Rattle.mkt_base.specs.Fills.{Fill, after_trades, bought_at, bought_by, filled, filled_at, from_front, less_front, less_traded, pair, quantity, sold_at, traded_at, whole}
use Rattle.mkt_base.specs.Priority.{in_priority, is_same_side}
use Rattle.mkt_base.specs.declared.auction.Trade.{Trade}
use Rattle.mkt_base.specs.declared.order.Order.{Order}
use Rattle.mkt_base.specs.declared.order.Side.{Side}
use Rattle.mkt_base.specs.declared.order.Side.TheVariants.{Buy, Sell}
use Rattle.mkt_base.specs.declared.order.Spot.{Spot}
use Rattle.mkt_base.specs.declared.order.Spot.TheVariants.{Market, At}
use Rattle.mkt_base.specs.declared.units.Price.{Price}
use Rattle.allotment.specs.Allotment.{allot}
use Rattle.allotment.specs.declared.demand.Demand.{Demand}
use Rattle.allotment.specs.declared.round.Round.{Round}
use Rattle.allotment.proofs.UnitLemmas.{shares_in_units}
use Rattle.auction_law.specs.Attempt.{volume_at}
use Rattle.mkt_base.proofs.FillLemmas.{bought-front, sold-front}
use Rattle.book_law.specs.Laws.{IsBookOn}
use Rattle.book_law.specs.Sides.{count_at, total}
use Rattle.book_law.proofs.AheadLemmas.{Ahead, side-ahead}
use Rattle.book_law.proofs.FrontLemmas.{in_priority-all}
use Rattle.book_law.proofs.Pairs.{Pairs, all-append, pairs-from_AllPairs, weaken}
use Rattle.book_law.proofs.PlaceLemmas.{once-at, single, sums-of_sides}
use Rattle.book_law.proofs.Sides.{in_priority-after}
use Rattle.book_law.proofs.SideSums.{sum-priority}
use Rattle.book_law.proofs.TakenLemmas.{total-cons, total-filter}
use Rattle.itayose.specs.Fills.{allotted_fills, by_rounds, demands_of, is_at_or_better, is_at_price, is_better_than, is_longer, limit_position, opposite, pair_side, shared_fills, sharing, side_filling}
use Rattle.itayose.specs.Laws.{CloseTradesFairly, IsClosing, IsSettling, IsShareable, NoneTradesMore, SidesLoseTrades, TradesAreWhole, auction_trades}
use Rattle.itayose.specs.Sharing.{AreByPlace, own_shares, share_of, shares_by_number}
use Rattle.itayose.specs.declared.margin.Margin.{Margin}
use Rattle.itayose.specs.declared.margin.Margin.TheVariants.{Rounds, Time}
use Rattle.itayose.proofs.AllotLemmas.{allot-once, asked-once, asked-units, asked-unshared, shares-fill, total-units, units-add, units-min, units-none, units-sub}
use Rattle.itayose.proofs.SettleLemmas.{wide-side}
use Rattle.itayose.proofs.SharingLemmas.{by-place, filter-by_place, filter-keeps, filter-passes}
use Rattle.itayose.proofs.RoundsLemmas.{sum-alike, sum-plus, sum-zero}
use Rattle.itayose.proofs.LawLemmas.{left_at, own-left, shorter-at, traded-sides}

same-number : (n : ℕ) → eqb n n ≡ true
same-number n = grind (arith, nat_tests)

at-cons : (place : ℕ) (f : Fill) (fs : List Fill) → filled_at place (f ∷ fs) ≡ cond (eqb place f.place) f.qty 0 + filled_at place fs
unfolding filled_at
at-cons place f fs = sum_by-cons (λ g. cond (eqb place g.place) g.qty 0) f fs

at-append : (place : ℕ) (fs gs : List Fill) → filled_at place (fs ++ gs) ≡ filled_at place fs + filled_at place gs
unfolding filled_at
at-append place fs gs = sum_by-append (λ g. cond (eqb place g.place) g.qty 0) fs gs

at-none : (place : ℕ) → filled_at place [] ≡ 0
unfolding filled_at
at-none place = refl

left-cons : (place : ℕ) (o : Order) (os : List Order) → left_at place (o ∷ os) ≡ cond (eqb place o.place) o.left 0 + left_at place os
left-cons place o os = sum_by-cons (λ x. cond (eqb place x.place) x.left 0) o os

count-cons : (place : ℕ) (o : Order) (os : List Order) → count_at place (o ∷ os) ≡ cond {A = ℕ} (eqb place o.place) 1 0 + count_at place os
count-cons place o os = sum_by-cons (once-at place) o os

-- ---- fills of some orders

-- fills of orders of a list, of none more than it has there
pub record AreFillsOf (os : List Order) (fs : List Fill) : Type 0 where
  pub places : AllByRecursion (λ f. 1 ≤ count_at f.place os) fs
  pub within : (place : ℕ) → filled_at place fs ≤ left_at place os

abbrev pub InUnits : ℕ → List Fill → Type 0
InUnits unit fs = AllByRecursion (λ f. f.qty % unit ≡ 0) fs

module _ (os : List Order) where
  -- without those that have no shares
  pub fills-filled : (fs : List Fill) → AreFillsOf os fs → AreFillsOf os (filled fs)
  fills-filled fs s = record { places = places fs s.places; within = λ place. omega (arith, s.within place, same place fs) }
    where
      places-step : (b : Bool) (f : Fill) (gs : List Fill) → 1 ≤ count_at f.place os → AllByRecursion (λ g. 1 ≤ count_at g.place os) gs → AllByRecursion (λ g. 1 ≤ count_at g.place os) (cond b (f ∷ gs) gs)
      places-step true f gs here rest = (here, rest)
      places-step false f gs here rest = rest

      places : (gs : List Fill) → AllByRecursion (λ g. 1 ≤ count_at g.place os) gs → AllByRecursion (λ g. 1 ≤ count_at g.place os) (filled gs)
      places [] all = tt
      places (g ∷ gs) all = places-step (ltb 0 g.qty) g (filled gs) all.0 (places gs all.1)

      same-step : (b : Bool) (place : ℕ) (f : Fill) (gs : List Fill) → filled_at place (filled gs) ≤ filled_at place gs → filled_at place (cond b (f ∷ filled gs) (filled gs)) ≤ filled_at place (f ∷ gs)
      same-step true place f gs rest = omega (arith, rest, at-cons place f gs, at-cons place f (filled gs))
      same-step false place f gs rest = omega (arith, rest, at-cons place f gs)

      same : (place : ℕ) (gs : List Fill) → filled_at place (filled gs) ≤ filled_at place gs
      same place [] = omega arith
      same place (g ∷ gs) = same-step (ltb 0 g.qty) place g gs (same place gs)

units-filled : (unit : ℕ) (fs : List Fill) → InUnits unit fs → InUnits unit (filled fs)
units-filled unit [] all = tt
units-filled unit (f ∷ fs) all = step (ltb 0 f.qty) (units-filled unit fs all.1)
  where
    step : (b : Bool) → InUnits unit (filled fs) → InUnits unit (cond b (f ∷ filled fs) (filled fs))
    step true rest = (all.0, rest)
    step false rest = rest

-- each order stands in its list
count-more : (place : ℕ) (o : Order) (os : List Order) → count_at place os ≤ count_at place (o ∷ os)
count-more place o os = omega (arith, count-cons place o os)

count-own : (o : Order) (os : List Order) → 1 ≤ count_at o.place (o ∷ os)
count-own o os =
    let one : cond {A = ℕ} (eqb o.place o.place) 1 0 ≡ 1 = ap (λ b. cond b 1 0) (same-number o.place) in
    omega (arith, one, count-cons o.place o os)

places-more : (o : Order) (os : List Order) (fs : List Fill) → AllByRecursion (λ f. 1 ≤ count_at f.place os) fs → AllByRecursion (λ f. 1 ≤ count_at f.place (o ∷ os)) fs
places-more o os fs all = weaken (λ f. 1 ≤ count_at f.place os) (λ f. 1 ≤ count_at f.place (o ∷ os)) (λ f h. omega (arith, h, count-more f.place o os)) fs all

fills-more : (o : Order) (qty : ℕ) (os : List Order) (fs : List Fill) → qty ≤ o.left → AreFillsOf os fs → AreFillsOf (o ∷ os) (record { place = o.place; qty = qty } ∷ fs)
fills-more o qty os fs most s = record {
  places = (count-own o os, places-more o os fs s.places);
  within = λ place. omega (arith, least (eqb place o.place), s.within place, at-cons place (record { place = o.place; qty = qty }) fs, left-cons place o os);
}
  where
    least : (b : Bool) → cond b qty 0 ≤ cond b o.left 0
    least true = most
    least false = omega arith

fills-none : (os : List Order) → AreFillsOf os []
fills-none os = record { places = tt; within = λ place. omega (arith, at-none place) }

pub fills-front : (n : ℕ) (os : List Order) → AreFillsOf os (from_front n (whole os))
unfolding from_front
fills-front n [] = fills-none []
fills-front n (o ∷ os) = fills-more o (min n o.left) os (from_front (n - o.left) (whole os)) (omega arith) (fills-front (n - o.left) os)

pub fills-whole : (os : List Order) → AreFillsOf os (whole os)
fills-whole [] = fills-none []
fills-whole (o ∷ os) = fills-more o o.left os (whole os) (omega arith) (fills-whole os)

pub units-whole : (unit : ℕ) (os : List Order) → AllByRecursion (λ o. o.left % unit ≡ 0) os → InUnits unit (whole os)
units-whole unit [] all = tt
units-whole unit (o ∷ os) all = (all.0, units-whole unit os all.1)

pub units-front : (unit n : ℕ) (fs : List Fill) → n % unit ≡ 0 → InUnits unit fs → InUnits unit (from_front n fs)
unfolding from_front
units-front unit n [] h all = tt
units-front unit n (f ∷ fs) h all = (units-min unit n f.qty h all.0, units-front unit (n - f.qty) fs (units-sub unit n f.qty h all.0) all.1)

units-less : (unit n : ℕ) (fs : List Fill) → n % unit ≡ 0 → InUnits unit fs → InUnits unit (less_front n fs)
unfolding less_front
units-less unit n [] h all = tt
units-less unit n (f ∷ fs) h all = (units-sub unit f.qty n all.0 h, units-less unit (n - f.qty) fs (units-sub unit n f.qty h all.0) all.1)

-- fills of two parts of a list
pub fills-parts : (t u : Order → Bool) (os : List Order) (fs gs : List Fill) → ((o : Order) → t o ≡ true → u o ≡ false) → AreFillsOf (filter t os) fs → AreFillsOf (filter u os) gs → AreFillsOf os (fs ++ gs)
fills-parts t u os fs gs apart s r = record {
  places =
      all-append (λ f. 1 ≤ count_at f.place os) fs gs
      (weaken (λ f. 1 ≤ count_at f.place (filter t os)) (λ f. 1 ≤ count_at f.place os) (λ f h. omega (arith, h, counted t f.place os)) fs s.places)
      (weaken (λ f. 1 ≤ count_at f.place (filter u os)) (λ f. 1 ≤ count_at f.place os) (λ f h. omega (arith, h, counted u f.place os)) gs r.places);
  within = λ place. omega (arith, s.within place, r.within place, at-append place fs gs, both place os);
}
  where
    counted-step : (c : Order → Bool) (b : Bool) (place : ℕ) (o : Order) (xs : List Order) → count_at place (filter c xs) ≤ count_at place xs → count_at place (cond b (o ∷ filter c xs) (filter c xs)) ≤ count_at place (o ∷ xs)
    counted-step c true place o xs rest = omega (arith, rest, count-cons place o xs, count-cons place o (filter c xs))
    counted-step c false place o xs rest = omega (arith, rest, count-cons place o xs)

    counted : (c : Order → Bool) (place : ℕ) (xs : List Order) → count_at place (filter c xs) ≤ count_at place xs
    counted c place [] = omega arith
    counted c place (o ∷ xs) = counted-step c (c o) place o xs (counted c place xs)

    both-step : (a b : Bool) (place : ℕ) (o : Order) (xs : List Order) → t o ≡ a → u o ≡ b → left_at place (filter t xs) + left_at place (filter u xs) ≤ left_at place xs
        → left_at place (cond a (o ∷ filter t xs) (filter t xs)) + left_at place (cond b (o ∷ filter u xs) (filter u xs)) ≤ left_at place (o ∷ xs)
    both-step true true place o xs e f rest = let g = apart o e in absurd (cc)
    both-step true false place o xs e f rest = omega (arith, rest, left-cons place o xs, left-cons place o (filter t xs))
    both-step false true place o xs e f rest = omega (arith, rest, left-cons place o xs, left-cons place o (filter u xs))
    both-step false false place o xs e f rest = omega (arith, rest, left-cons place o xs)

    both : (place : ℕ) (xs : List Order) → left_at place (filter t xs) + left_at place (filter u xs) ≤ left_at place xs
    both place [] = omega arith
    both place (o ∷ xs) = both-step (t o) (u o) place o xs refl refl (both place xs)

-- ---- trades between fills of two sides

abbrev pub IsBetween : List Order → List Order → Trade → Type 0
IsBetween bs ss t = (1 ≤ count_at t.buy bs) × (1 ≤ count_at t.sell ss)

front-places : (ss : List Order) (n : ℕ) (fs : List Fill) → AllByRecursion (λ f. 1 ≤ count_at f.place ss) fs → AllByRecursion (λ f. 1 ≤ count_at f.place ss) (from_front n fs)
unfolding from_front
front-places ss n [] all = tt
front-places ss n (f ∷ fs) all = (all.0, front-places ss (n - f.qty) fs all.1)

less-places : (ss : List Order) (n : ℕ) (fs : List Fill) → AllByRecursion (λ f. 1 ≤ count_at f.place ss) fs → AllByRecursion (λ f. 1 ≤ count_at f.place ss) (less_front n fs)
unfolding less_front
less-places ss n [] all = tt
less-places ss n (f ∷ fs) all = (all.0, less-places ss (n - f.qty) fs all.1)

bought-places : (bs ss : List Order) (p buy : ℕ) (fs : List Fill) → 1 ≤ count_at buy bs → AllByRecursion (λ f. 1 ≤ count_at f.place ss) fs → AllByRecursion (IsBetween bs ss) (map (bought_by p buy) (filled fs))
bought-places bs ss p buy [] here all = tt
bought-places bs ss p buy (f ∷ fs) here all = step (ltb 0 f.qty) (bought-places bs ss p buy fs here all.1)
  where
    step : (b : Bool) → AllByRecursion (IsBetween bs ss) (map (bought_by p buy) (filled fs)) → AllByRecursion (IsBetween bs ss) (map (bought_by p buy) (cond b (f ∷ filled fs) (filled fs)))
    step true rest = ((here, all.0), rest)
    step false rest = rest

pub pair-places : (bs ss : List Order) (p : ℕ) (fs gs : List Fill) → AllByRecursion (λ f. 1 ≤ count_at f.place bs) fs → AllByRecursion (λ f. 1 ≤ count_at f.place ss) gs → AllByRecursion (IsBetween bs ss) (pair p fs gs)
unfolding pair
pair-places bs ss p [] gs buys sells = tt
pair-places bs ss p (f ∷ fs) gs buys sells =
    all-append (IsBetween bs ss) (map (bought_by p f.place) (filled (from_front f.qty gs))) (pair p fs (less_front f.qty gs))
    (bought-places bs ss p f.place (from_front f.qty gs) buys.0 (front-places ss f.qty gs sells))
    (pair-places bs ss p fs (less_front f.qty gs) buys.1 (less-places ss f.qty gs sells))

-- a trade at a price, of some shares in units
abbrev pub IsWhole : ℕ → ℕ → Trade → Type 0
IsWhole p unit t = (1 ≤ t.qty) × (t.qty % unit ≡ 0) × (t.price.0 ≡ p)

bought-units : (p unit buy : ℕ) (fs : List Fill) → InUnits unit fs → AllByRecursion (IsWhole p unit) (map (bought_by p buy) (filled fs))
bought-units p unit buy [] all = tt
bought-units p unit buy (f ∷ fs) all = step (ltb 0 f.qty) refl (bought-units p unit buy fs all.1)
  where
    step : (b : Bool) → ltb 0 f.qty ≡ b → AllByRecursion (IsWhole p unit) (map (bought_by p buy) (filled fs)) → AllByRecursion (IsWhole p unit) (map (bought_by p buy) (cond b (f ∷ filled fs) (filled fs)))
    step true e rest = ((grind (arith, nat_tests, e), all.0, refl), rest)
    step false e rest = rest

pub pair-units : (p unit : ℕ) (fs gs : List Fill) → InUnits unit fs → InUnits unit gs → AllByRecursion (IsWhole p unit) (pair p fs gs)
unfolding pair
pair-units p unit [] gs buys sells = tt
pair-units p unit (f ∷ fs) gs buys sells =
    all-append (IsWhole p unit) (map (bought_by p f.place) (filled (from_front f.qty gs))) (pair p fs (less_front f.qty gs))
    (bought-units p unit f.place (from_front f.qty gs) (units-front unit f.qty gs buys.0 sells))
    (pair-units p unit fs (less_front f.qty gs) buys.1 (units-less unit f.qty gs buys.0 sells))

-- where a place counts so often, a first order stands at it or not
not-here : (place : ℕ) (x : Order) (xs : List Order) → count_at place (x ∷ xs) ≡ 0 → (eqb x.place place ≡ false) × (count_at place xs ≡ 0)
not-here place x xs none = by (eqb place x.place) refl
  where
    by : (b : Bool) → eqb place x.place ≡ b → (eqb x.place place ≡ false) × (count_at place xs ≡ 0)
    by true e = let one : cond {A = ℕ} (eqb place x.place) 1 0 ≡ 1 = ap (λ b. cond b 1 0) e in absurd (omega (arith, one, none, count-cons place x xs))
    by false e = (grind (arith, nat_tests, e), omega (arith, none, count-cons place x xs))

once-here : (place : ℕ) (x : Order) (xs : List Order) → count_at place (x ∷ xs) ≡ 1 → ((eqb x.place place ≡ true) × (count_at place xs ≡ 0)) ⊎ ((eqb x.place place ≡ false) × (count_at place xs ≡ 1))
once-here place x xs once = by (eqb place x.place) refl
  where
    by : (b : Bool) → eqb place x.place ≡ b → ((eqb x.place place ≡ true) × (count_at place xs ≡ 0)) ⊎ ((eqb x.place place ≡ false) × (count_at place xs ≡ 1))
    by true e = let one : cond {A = ℕ} (eqb place x.place) 1 0 ≡ 1 = ap (λ b. cond b 1 0) e in inl (grind (arith, nat_tests, e), omega (arith, one, once, count-cons place x xs))
    by false e = let none : cond {A = ℕ} (eqb place x.place) 1 0 ≡ 0 = ap (λ b. cond b 1 0) e in inr (grind (arith, nat_tests, e), omega (arith, none, once, count-cons place x xs))

module _ (u w q : ℕ) where
  abbrev takes : Order → ℕ
  takes o = cond (eqb o.place u || eqb o.place w) q 0

  takes-as : (x : Order) (a b : Bool) → eqb x.place u ≡ a → eqb x.place w ≡ b → takes x ≡ cond (a || b) q 0
  takes-as x a b e f = ap (λ c. cond (c || eqb x.place w) q 0) e ∙ ap (λ c. cond (a || c) q 0) f

  none-taken : (xs : List Order) → count_at u xs ≡ 0 → count_at w xs ≡ 0 → sum_by takes xs ≡ 0
  none-taken [] a b = refl
  none-taken (x ∷ xs) a b =
      let h = not-here u x xs a in
      let k = not-here w x xs b in
      omega (arith, takes-as x false false h.0 k.0, sum_by-cons takes x xs, none-taken xs h.1 k.1)

  pub buy-taken : (xs : List Order) → count_at u xs ≡ 1 → count_at w xs ≡ 0 → sum_by takes xs ≡ q
  buy-taken [] a b = absurd (omega (arith, a))
  buy-taken (x ∷ xs) a b =
      let k = not-here w x xs b in
      elim (once-here u x xs a) [
        | inl h ↦ omega (arith, takes-as x true false h.0 k.0, sum_by-cons takes x xs, none-taken xs h.1 k.1)
        | inr h ↦ omega (arith, takes-as x false false h.0 k.0, sum_by-cons takes x xs, buy-taken xs h.1 k.1)
      ]

  pub sell-taken : (xs : List Order) → count_at u xs ≡ 0 → count_at w xs ≡ 1 → sum_by takes xs ≡ q
  sell-taken [] a b = absurd (omega (arith, b))
  sell-taken (x ∷ xs) a b =
      let h = not-here u x xs a in
      elim (once-here w x xs b) [
        | inl k ↦ omega (arith, takes-as x false true h.0 k.0, sum_by-cons takes x xs, none-taken xs h.1 k.1)
        | inr k ↦ omega (arith, takes-as x false false h.0 k.0, sum_by-cons takes x xs, sell-taken xs h.1 k.1)
      ]

-- what trades take from the orders of a side is what they trade, where each takes its shares there
pub all-taken : (xs : List Order) (ts : List Trade) → AllByRecursion (λ t. sum_by (takes t.buy t.sell t.qty) xs ≡ t.qty) ts → sum_by (λ o. traded_at ts o.place) xs ≡ sum_by (λ t. t.qty) ts
unfolding traded_at
all-taken xs [] all = sum-zero xs
all-taken xs (t ∷ ts) all =
    sum-alike (λ o. traded_at (t ∷ ts) o.place) (λ o. takes t.buy t.sell t.qty o + traded_at ts o.place) (λ o. sum_by-cons (λ u. cond (eqb o.place u.buy || eqb o.place u.sell) u.qty 0) t ts) xs
    ∙ sum-plus (takes t.buy t.sell t.qty) (λ o. traded_at ts o.place) xs
    ∙ ap (λ n. n + sum_by (λ o. traded_at ts o.place) xs) all.0
    ∙ ap (λ n. t.qty + n) (all-taken xs ts all.1)
    ∙ sym (sum_by-cons (λ u. u.qty) t ts)

-- and what they leave of it
pub all-left : (ts : List Trade) (os : List Order) → AllByRecursion (λ o. traded_at ts o.place ≤ o.left) os → sum_by (λ o. traded_at ts o.place) os + total (after_trades ts os) ≡ total os
unfolding after_trades
all-left ts [] most = omega (arith, nothing)
  where
    nothing : total [] ≡ total []
    nothing = refl
all-left ts (o ∷ os) most = step (ltb 0 (o.left - traded_at ts o.place)) refl (all-left ts os most.1)
  where
    step : (b : Bool) → ltb 0 (o.left - traded_at ts o.place) ≡ b → sum_by (λ x. traded_at ts x.place) os + total (after_trades ts os) ≡ total os
        → sum_by (λ x. traded_at ts x.place) (o ∷ os) + total (cond b (less_traded ts o ∷ after_trades ts os) (after_trades ts os)) ≡ total (o ∷ os)
    step true e rest = omega (arith, rest, most.0, sum_by-cons (λ x. traded_at ts x.place) o os, total-cons (less_traded ts o) (after_trades ts os), total-cons o os)
    step false e rest =
        let none : o.left ≤ traded_at ts o.place = grind (arith, nat_tests, e) in
        omega (arith, rest, none, most.0, sum_by-cons (λ x. traded_at ts x.place) o os, total-cons o os)

-- what holds of a book's orders holds of a side's
side-all : (P : Order → Type 0) (n : ℕ) (side : Side) (os : List Order) → All P os → AllByRecursion P (in_priority n side os)
side-all P n side os all = in_priority-all P side os (recursion_from_All P os all) n

-- ---- a book whose sides fill against each other

module _ (n p : ℕ) (os : List Order) (book : IsBookOn n os) (fs gs : List Fill) (buys : AreFillsOf (in_priority n Buy os) fs) (sells : AreFillsOf (in_priority n Sell os) gs) where
  abbrev ts : List Trade
  ts = pair p fs gs

  traded-le : (place : ℕ) → traded_at ts place ≤ left_at place os
  traded-le place =
      let bought : bought_at place ts ≤ left_at place (in_priority n Buy os) = omega (arith, bought-front p place fs gs, shorter-at place (quantity gs) fs, buys.within place) in
      let sold : sold_at place ts ≤ left_at place (in_priority n Sell os) = omega (arith, sold-front p place fs gs, shorter-at place (quantity fs) gs, sells.within place) in
      omega (arith, traded-sides place ts, bought, sold, sums-of_sides (λ o. cond (eqb place o.place) o.left 0) n os book.spots)

  -- no order trades more than it has
  pub fair-each : All (λ o. traded_at ts o.place ≤ o.left) os
  fair-each =
      All-from_recursion (λ o. traded_at ts o.place ≤ o.left) os
      (weaken (λ o. left_at o.place os ≤ o.left) (λ o. traded_at ts o.place ≤ o.left) (λ o own. omega (arith, traded-le o.place, own)) os (own-left os (pairs-from_AllPairs (λ a b. a.place < b.place) os book.book.by_place)))

  -- nothing trades where none stands
  pub fair-elsewhere : (place : ℕ) → count_at place os ≡ 0 → traded_at ts place ≡ 0
  fair-elsewhere place none = omega (arith, traded-le place, nothing os none)
    where
      nothing : (xs : List Order) → count_at place xs ≡ 0 → left_at place xs ≡ 0
      nothing [] none = refl
      nothing (x ∷ xs) none =
          let h = not-here place x xs none in
          let apart : eqb place x.place ≡ false = (let e = h.0 in grind (arith, nat_tests, e)) in
          let here : cond (eqb place x.place) x.left 0 ≡ 0 = ap (λ b. cond b x.left 0) apart in
          omega (arith, here, left-cons place x xs, nothing xs h.1)

  between : AllByRecursion (IsBetween (in_priority n Buy os) (in_priority n Sell os)) ts
  between = pair-places (in_priority n Buy os) (in_priority n Sell os) p fs gs buys.places sells.places

  taken-there : (side : Side) → AllByRecursion (λ t. sum_by (takes t.buy t.sell t.qty) (in_priority n side os) ≡ t.qty) ts
  taken-there Buy =
      weaken (IsBetween (in_priority n Buy os) (in_priority n Sell os)) (λ t. sum_by (takes t.buy t.sell t.qty) (in_priority n Buy os) ≡ t.qty)
      (λ t w. let one = single n os book.book.by_place book.spots t.buy in let other = single n os book.book.by_place book.spots t.sell in
      buy-taken t.buy t.sell t.qty (in_priority n Buy os) (omega (arith, w.0, one)) (omega (arith, w.1, other))) ts between
  taken-there Sell =
      weaken (IsBetween (in_priority n Buy os) (in_priority n Sell os)) (λ t. sum_by (takes t.buy t.sell t.qty) (in_priority n Sell os) ≡ t.qty)
      (λ t w. let one = single n os book.book.by_place book.spots t.buy in let other = single n os book.book.by_place book.spots t.sell in
      sell-taken t.buy t.sell t.qty (in_priority n Sell os) (omega (arith, w.0, one)) (omega (arith, w.1, other))) ts between

  -- each side loses what is traded
  pub fair-side : (side : Side) → sum_by (λ t. t.qty) ts + total (in_priority n side (after_trades ts os)) ≡ total (in_priority n side os)
  fair-side side =
      let after : total (in_priority n side (after_trades ts os)) ≡ total (after_trades ts (in_priority n side os)) = ap total (in_priority-after n side ts os) in
      omega (
        arith,
        after,
        all-taken (in_priority n side os) ts (taken-there side),
        all-left ts (in_priority n side os) (side-all (λ o. traded_at ts o.place ≤ o.left) n side os fair-each),
      )

-- ---- what a side fills

fills-own : (shares : List ℕ) (os : List Order) → AreFillsOf os (own_shares shares os)
unfolding own_shares
fills-own shares [] = fills-none []
fills-own shares (o ∷ os) =
    let has = get_or shares o.participant.0 0 in
    fills-more o (min o.left has) os (own_shares (set shares o.participant.0 (has - min o.left has)) os) (omega arith) (fills-own (set shares o.participant.0 (has - min o.left has)) os)

units-at : (unit : ℕ) (shares : List ℕ) (q : ℕ) → All (λ n. n % unit ≡ 0) shares → get_or shares q 0 % unit ≡ 0
units-at unit shares q all = by (ltb q (length shares)) refl
  where
    by : (b : Bool) → ltb q (length shares) ≡ b → get_or shares q 0 % unit ≡ 0
    by true e = all q 0 (grind (arith, nat_tests, e))
    by false e = let past : length shares ≤ q = grind (arith, nat_tests, e) in ap (λ n. n % unit) (get_or_past shares q 0 past) ∙ units-none unit

units-own : (unit : ℕ) (shares : List ℕ) (os : List Order) → All (λ n. n % unit ≡ 0) shares → AllByRecursion (λ o. o.left % unit ≡ 0) os → InUnits unit (own_shares shares os)
unfolding own_shares
units-own unit shares [] all units = tt
units-own unit shares (o ∷ os) all units =
    let has = get_or shares o.participant.0 0 in
    let some = units-at unit shares o.participant.0 all in
    let qty = units-min unit o.left has units.0 some in
    (qty, units-own unit (set shares o.participant.0 (has - min o.left has)) os (All-set (λ n. n % unit ≡ 0) shares o.participant.0 (has - min o.left has) (units-sub unit has (min o.left has) some qty) all) units.1)

share-units : (unit q : ℕ) (ds : List Demand) → AllByRecursion (λ d. d.share % unit ≡ 0) ds → share_of ds q % unit ≡ 0
share-units unit q [] all = units-none unit
share-units unit q (d ∷ ds) all =
    ap (λ n. n % unit) (sum_by-cons (λ e. cond (eqb q e.participant.0) e.share 0) d ds) ∙ units-add unit (cond (eqb q d.participant.0) d.share 0) (share_of ds q) (one (eqb q d.participant.0)) (share-units unit q ds all.1)
  where
    one : (b : Bool) → cond b d.share 0 % unit ≡ 0
    one true = all.0
    one false = units-none unit

-- shares of demands in units are in units
number-units : (unit : ℕ) (ds : List Demand) → All (λ d. d.share % unit ≡ 0) ds → All (λ n. n % unit ≡ 0) (shares_by_number ds)
unfolding shares_by_number
number-units unit ds all = All-map (λ n. n % unit ≡ 0) (share_of ds) (range_with_len 0 64) (λ k d h. share-units unit (get_or (range_with_len 0 64) k d) ds (recursion_from_All (λ e. e.share % unit ≡ 0) ds all))

module _ (rounds : List Round) (unit n : ℕ) (os : List Order) (places : AreByPlace os) (participants : AllByRecursion (λ o. o.participant.0 < 64) os) where
  abbrev given : List Demand
  given = allot rounds unit (demands_of os) n

  rounds-are : own_shares (shares_by_number given) os ≡ shared_fills os given
  rounds-are = shares-fill os given places participants (λ q. allot-once rounds unit n (demands_of os) (asked-unshared os) q (asked-once os q))

  pub fills-rounds : AreFillsOf os (by_rounds rounds unit n os).fills
  fills-rounds = subst (AreFillsOf os) rounds-are (fills-own (shares_by_number given) os)

  pub units-rounds : n % unit ≡ 0 → AllByRecursion (λ o. o.left % unit ≡ 0) os → InUnits unit (by_rounds rounds unit n os).fills
  units-rounds in_units units =
      subst (InUnits unit) rounds-are
      (units-own unit (shares_by_number given) os (number-units unit given (shares_in_units rounds unit (demands_of os) n (asked-unshared os) (asked-units os unit units) in_units)) units)

-- the orders of a side at a price stand by place
module _ (grid : List Price) (p : ℕ) where
  num-same : (q : ℕ) → (leb p q && not (ltb p q)) ≡ true → q ≡ p
  num-same q e = grind (arith, nat_tests, e)

  num-same_down : (q : ℕ) → (leb q p && not (ltb q p)) ≡ true → q ≡ p
  num-same_down q e = grind (arith, nat_tests, e)

  limit-buy : (t : Side) (s : Spot) → ((is_buy t && is_market_or (λ limit. leb p limit) (limit_of grid s)) && not (is_buy t && is_market_or (λ limit. ltb p limit) (limit_of grid s))) ≡ true → (j : ℕ) × (s ≡ At j) × (price_at grid j ≡ p)
  limit-buy Buy Market e = absurd (cc)
  limit-buy Buy (At j) e = (j, refl, num-same (price_at grid j) e)
  limit-buy Sell s e = absurd (cc)

  limit-sell : (t : Side) (s : Spot) → ((not (is_buy t) && is_market_or (λ limit. leb limit p) (limit_of grid s)) && not (not (is_buy t) && is_market_or (λ limit. ltb limit p) (limit_of grid s))) ≡ true → (j : ℕ) × (s ≡ At j) × (price_at grid j ≡ p)
  limit-sell Sell Market e = absurd (cc)
  limit-sell Sell (At j) e = (j, refl, num-same_down (price_at grid j) e)
  limit-sell Buy s e = absurd (cc)

  limit-at : (side : Side) (o : Order) → is_at_price grid p side o ≡ true → (j : ℕ) × (o.spot ≡ At j) × (price_at grid j ≡ p)
  limit-at Buy o e = limit-buy o.side o.spot e
  limit-at Sell o e = limit-sell o.side o.spot e

  not-better : (side : Side) (i j : ℕ) → price_at grid i ≡ p → price_at grid j ≡ p → is_better grid side (At i) (At j) ≡ false
  not-better Buy i j e f = grind (arith, nat_tests, e, f)
  not-better Sell i j e f = grind (arith, nat_tests, e, f)

  last-part : (x y z : Bool) → (x || (y && z)) ≡ true → x ≡ false → z ≡ true
  last-part true y z e f = absurd (cc)
  last-part false true z e f = e
  last-part false false z e f = absurd (cc)

  ahead-place : (side : Side) (a b : Order) → Ahead grid side a b → is_at_price grid p side a ≡ true → is_at_price grid p side b ≡ true → a.place < b.place
  ahead-place side a b ahead e f =
      let x = limit-at side a e in
      let y = limit-at side b f in
      let no : is_better grid side a.spot b.spot ≡ false = ap (λ s. is_better grid side s b.spot) x.1 ∙ ap (is_better grid side (At x.0)) y.1 ∙ not-better side x.0 y.0 x.2 y.2 in
      let last = last-part (is_better grid side a.spot b.spot) (not (is_better grid side b.spot a.spot)) (ltb a.place b.place) ahead.1 no in
      grind (arith, nat_tests, last)

  level-by_place : (side : Side) (xs : List Order) → Pairs (Ahead grid side) xs → AreByPlace (filter (is_at_price grid p side) xs)
  level-by_place side [] pairs = tt
  level-by_place side (o ∷ xs) pairs = step (is_at_price grid p side o) refl (level-by_place side xs pairs.1)
    where
      behind : (ys : List Order) → is_at_price grid p side o ≡ true → AllByRecursion (Ahead grid side o) ys → AllByRecursion (λ y. is_at_price grid p side y ≡ true) ys → AllByRecursion (λ y. o.place < y.place) ys
      behind [] e all at = tt
      behind (y ∷ ys) e all at = (ahead-place side o y all.0 e at.0, behind ys e all.1 at.1)

      step : (b : Bool) → is_at_price grid p side o ≡ b → AreByPlace (filter (is_at_price grid p side) xs) → AreByPlace (cond b (o ∷ filter (is_at_price grid p side) xs) (filter (is_at_price grid p side) xs))
      step true e rest = (behind (filter (is_at_price grid p side) xs) e (filter-keeps (Ahead grid side o) (is_at_price grid p side) xs pairs.0) (filter-passes (is_at_price grid p side) xs), rest)
      step false e rest = rest

module _ (grid : List Price) (os : List Order) (p : ℕ) (s : IsSettling grid os p) (margin : Margin) (rounds : List Round) (unit : ℕ) (shares : margin ≡ Rounds → IsShareable rounds unit os) where
  abbrev line : Side → List Order
  line side = in_priority (length grid) side os

  abbrev better : Side → List Order
  better side = filter (is_better_than grid p side) (line side)

  abbrev level : Side → List Order
  level side = filter (is_at_price grid p side) (line side)

  level-places : (side : Side) → AreByPlace (level side)
  level-places side = level-by_place grid p side (line side) (side-ahead grid side os s.rising s.book.book.by_place)

  shared-fill : (side : Side) (m : Margin) (longer : Bool) (n : ℕ) → margin ≡ m → AreFillsOf (level side) (sharing m longer rounds unit n (level side)).fills
  shared-fill side Time true n e = fills-front n (level side)
  shared-fill side Time false n e = fills-front n (level side)
  shared-fill side Rounds false n e = fills-front n (level side)
  shared-fill side Rounds true n e =
      fills-rounds rounds unit n (level side) (level-places side)
      (filter-keeps (λ o. o.participant.0 < 64) (is_at_price grid p side) (line side) (side-all (λ o. o.participant.0 < 64) (length grid) side os (shares e).participants))

  not-both : (side : Side) (o : Order) → is_better_than grid p side o ≡ true → is_at_price grid p side o ≡ false
  not-both side o e = apart (is_at_or_better grid p side o) (is_better_than grid p side o) e
    where
      apart : (w b : Bool) → b ≡ true → (w && not b) ≡ false
      apart true true e = refl
      apart false true e = refl
      apart w false e = absurd (cc)

  pub side-fills : (side : Side) → AreFillsOf (line side) (side_filling grid os p margin rounds unit side).fills
  side-fills side =
      let n = volume_at grid os p - quantity (whole (better side)) in
      fills-filled (line side) (whole (better side) ++ (sharing margin (is_longer grid os p side) rounds unit n (level side)).fills)
      (fills-parts (is_better_than grid p side) (is_at_price grid p side) (line side) (whole (better side)) (sharing margin (is_longer grid os p side) rounds unit n (level side)).fills (not-both side) (fills-whole (better side))
      (shared-fill side margin (is_longer grid os p side) n refl))

  module _ (units : All (λ o. o.left % unit ≡ 0) os) where
    line-units : (side : Side) → AllByRecursion (λ o. o.left % unit ≡ 0) (line side)
    line-units side = side-all (λ o. o.left % unit ≡ 0) (length grid) side os units

    passing-units : (t : Order → Bool) → total_left t os % unit ≡ 0
    passing-units t = ap (λ n. n % unit) (sym (total-filter t os)) ∙ total-units unit (filter t os) (filter-keeps (λ o. o.left % unit ≡ 0) t os (recursion_from_All (λ o. o.left % unit ≡ 0) os units))

    rest-units : (side : Side) → (volume_at grid os p - quantity (whole (better side))) % unit ≡ 0
    rest-units side =
        units-sub unit (volume_at grid os p) (quantity (whole (better side))) (units-min unit (buys grid os p) (sells grid os p) (passing-units (is_buy_at grid p)) (passing-units (is_sell_at grid p)))
        (total-units unit (better side) (filter-keeps (λ o. o.left % unit ≡ 0) (is_better_than grid p side) (line side) (line-units side)))

    level-units : (side : Side) → AllByRecursion (λ o. o.left % unit ≡ 0) (level side)
    level-units side = filter-keeps (λ o. o.left % unit ≡ 0) (is_at_price grid p side) (line side) (line-units side)

    shared-units : (side : Side) (m : Margin) (longer : Bool) (n : ℕ) → margin ≡ m → n % unit ≡ 0 → InUnits unit (sharing m longer rounds unit n (level side)).fills
    shared-units side Time true n e h = units-front unit n (whole (level side)) h (units-whole unit (level side) (level-units side))
    shared-units side Time false n e h = units-front unit n (whole (level side)) h (units-whole unit (level side) (level-units side))
    shared-units side Rounds false n e h = units-front unit n (whole (level side)) h (units-whole unit (level side) (level-units side))
    shared-units side Rounds true n e h =
        units-rounds rounds unit n (level side) (level-places side)
        (filter-keeps (λ o. o.participant.0 < 64) (is_at_price grid p side) (line side) (side-all (λ o. o.participant.0 < 64) (length grid) side os (shares e).participants)) h (level-units side)

    pub side-units : (side : Side) → InUnits unit (side_filling grid os p margin rounds unit side).fills
    side-units side =
        let n = volume_at grid os p - quantity (whole (better side)) in
        units-filled unit (whole (better side) ++ (sharing margin (is_longer grid os p side) rounds unit n (level side)).fills)
        (all-append (λ f. f.qty % unit ≡ 0) (whole (better side)) (sharing margin (is_longer grid os p side) rounds unit n (level side)).fills
        (units-whole unit (better side) (filter-keeps (λ o. o.left % unit ≡ 0) (is_better_than grid p side) (line side) (line-units side))) (shared-units side margin (is_longer grid os p side) n refl (rest-units side)))

-- ---- the laws of an auction

pub none_trades_more : NoneTradesMore
none_trades_more grid os p margin rounds unit s shares =
    let bought = (side_filling grid os p margin rounds unit Buy).fills in
    let sold = (side_filling grid os p margin rounds unit Sell).fills in
    let b = side-fills grid os p s margin rounds unit shares Buy in
    let a = side-fills grid os p s margin rounds unit shares Sell in
    (fair-each (length grid) p os s.book bought sold b a, fair-elsewhere (length grid) p os s.book bought sold b a)

pub sides_lose_trades : SidesLoseTrades
sides_lose_trades grid os p margin rounds unit side s shares =
    fair-side (length grid) p os s.book (side_filling grid os p margin rounds unit Buy).fills (side_filling grid os p margin rounds unit Sell).fills
    (side-fills grid os p s margin rounds unit shares Buy) (side-fills grid os p s margin rounds unit shares Sell) side

pub trades_are_whole : TradesAreWhole
trades_are_whole grid os p margin rounds unit s shares units =
    All-from_recursion (IsWhole p unit) (auction_trades grid os p margin rounds unit)
    (pair-units p unit (side_filling grid os p margin rounds unit Buy).fills (side_filling grid os p margin rounds unit Sell).fills
    (side-units grid os p s margin rounds unit shares units Buy) (side-units grid os p s margin rounds unit shares units Sell))

-- ---- the laws of an allotted close

module _ (n : ℕ) (side : Side) (os : List Order) (book : IsBookOn n os) (t : Order → Bool) (own : (o : Order) → t o ≡ true → is_same_side side o.side ≡ true) where
  -- the orders of a side that pass a test have no more than the side
  part-le : (f : Order → ℕ) → sum_by f (filter t os) ≤ sum_by f (in_priority n side os)
  part-le f = omega (arith, by os, sum-priority f n side os book.spots)
    where
      step : (b c : Bool) (o : Order) (xs : List Order) → t o ≡ b → is_same_side side o.side ≡ c → sum_by f (filter t xs) ≤ sum_by (λ x. cond (is_same_side side x.side) (f x) 0) xs
          → sum_by f (cond b (o ∷ filter t xs) (filter t xs)) ≤ cond c (f o) 0 + sum_by (λ x. cond (is_same_side side x.side) (f x) 0) xs
      step true true o xs e g rest = omega (arith, rest, sum_by-cons f o (filter t xs))
      step true false o xs e g rest = let h = own o e in absurd (cc)
      step false c o xs e g rest = omega (arith, rest)

      by : (xs : List Order) → sum_by f (filter t xs) ≤ sum_by (λ x. cond (is_same_side side x.side) (f x) 0) xs
      by [] = omega arith
      by (o ∷ xs) = omega (arith, step (t o) (is_same_side side o.side) o xs refl refl (by xs), sum_by-cons (λ x. cond (is_same_side side x.side) (f x) 0) o xs)

  pub fills-part : (fs : List Fill) → AreFillsOf (filter t os) fs → AreFillsOf (in_priority n side os) fs
  fills-part fs s = record {
    places = weaken (λ f. 1 ≤ count_at f.place (filter t os)) (λ f. 1 ≤ count_at f.place (in_priority n side os)) (λ f h. omega (arith, h, part-le (once-at f.place))) fs s.places;
    within = λ place. omega (arith, s.within place, part-le (λ o. cond (eqb place o.place) o.left 0));
  }

module _ (grid : List Price) (os : List Order) (side : Side) (rounds : List Round) (unit : ℕ) (s : IsClosing grid os side) (shares : IsShareable rounds unit os) where
  abbrev at-limit : ℕ
  at-limit = price_at grid (limit_position grid side)

  abbrev asking : List Order
  asking = filter (is_at_or_better grid at-limit side) os

  abbrev facing : List Order
  facing = in_priority (length grid) (opposite side) os

  abbrev own : List Fill
  own = (by_rounds rounds unit (total facing) asking).fills

  asking-places : AreByPlace asking
  asking-places = filter-by_place (is_at_or_better grid at-limit side) os (by-place os (pairs-from_AllPairs (λ a b. a.place < b.place) os s.book.book.by_place))

  asking-participants : AllByRecursion (λ o. o.participant.0 < 64) asking
  asking-participants = filter-keeps (λ o. o.participant.0 < 64) (is_at_or_better grid at-limit side) os (recursion_from_All (λ o. o.participant.0 < 64) os shares.participants)

  own-fills : AreFillsOf (in_priority (length grid) side os) (filled own)
  own-fills =
      fills-filled (in_priority (length grid) side os) own
      (fills-part (length grid) side os s.book (is_at_or_better grid at-limit side) (λ o e. wide-side grid at-limit side o e) own (fills-rounds rounds unit (total facing) asking asking-places asking-participants))

  own-units : InUnits unit (filled own)
  own-units =
      units-filled unit own
      (units-rounds rounds unit (total facing) asking asking-places asking-participants (total-units unit facing (side-all (λ o. o.left % unit ≡ 0) (length grid) (opposite side) os shares.units))
      (filter-keeps (λ o. o.left % unit ≡ 0) (is_at_or_better grid at-limit side) os (recursion_from_All (λ o. o.left % unit ≡ 0) os shares.units)))

  facing-units : InUnits unit (whole facing)
  facing-units = units-whole unit facing (side-all (λ o. o.left % unit ≡ 0) (length grid) (opposite side) os shares.units)

  abbrev Fair : List Trade → Type 0
  Fair ts =
      All (λ o. traded_at ts o.place ≤ o.left) os × ((place : ℕ) → count_at place os ≡ 0 → traded_at ts place ≡ 0)
      × ((t : Side) → sum_by (λ u. u.qty) ts + total (in_priority (length grid) t (after_trades ts os)) ≡ total (in_priority (length grid) t os)) × All (IsWhole at-limit unit) ts

  fair-close : (t : Side) (fs gs : List Fill) → AreFillsOf (in_priority (length grid) t os) fs → AreFillsOf (in_priority (length grid) (opposite t) os) gs → InUnits unit fs → InUnits unit gs → Fair (pair_side at-limit t fs gs)
  fair-close Buy fs gs b a u w = (
    fair-each (length grid) at-limit os s.book fs gs b a,
    fair-elsewhere (length grid) at-limit os s.book fs gs b a,
    fair-side (length grid) at-limit os s.book fs gs b a,
    All-from_recursion (IsWhole at-limit unit) (pair at-limit fs gs) (pair-units at-limit unit fs gs u w),
  )
  fair-close Sell fs gs a b w u = (
    fair-each (length grid) at-limit os s.book gs fs b a,
    fair-elsewhere (length grid) at-limit os s.book gs fs b a,
    fair-side (length grid) at-limit os s.book gs fs b a,
    All-from_recursion (IsWhole at-limit unit) (pair at-limit gs fs) (pair-units at-limit unit gs fs u w),
  )

  pub close-fair : Fair (allotted_fills grid os side rounds unit).trades
  close-fair = fair-close side (filled own) (whole facing) own-fills (fills-whole facing) own-units facing-units

pub close_trades_fairly : CloseTradesFairly
close_trades_fairly grid os side rounds unit s shares = close-fair grid os side rounds unit s shares
