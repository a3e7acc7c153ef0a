-- What orders fill by time or by rounds is no more than they have left; so an auction of every margin is balanced.
use Rattle.std.proofs.Common.{◌≡◌, ℕ, zero, suc, ◌+◌, ◌-◌, ◌<◌, ◌≤◌, Bool, true, false, cond, not, eqb, ltb, ◌&&◌, List, [], ◌∷◌, ◌++◌, length, map, filter, refl, sym, ap, subst, arith}
use Rattle.std.specs.List.{AllByRecursion, flat_map, range_with_len, sum_by}
use Rattle.std.proofs.lemmas.Bool.{and_parts}
use Rattle.std.proofs.lemmas.Bool.Decides.{nat_tests}
use Rattle.std.proofs.lemmas.List.Elements.{All-filter, All-from_recursion}
use Rattle.std.proofs.lemmas.List.Sorted.{sum_by-IsPermutation}
use Rattle.std.proofs.lemmas.List.Sums.{sum_by-append, sum_by-cons}
use Rattle.mkt_base.specs.Book.{is_buy, price_at}
use Rattle.mkt_base.specs.Fills.{Fill, after_trades, filled, filled_at, from_front, quantity, whole, traded_at}
use Rattle.mkt_base.specs.Priority.{in_priority, is_same_side}
use Rattle.mkt_base.specs.declared.auction.Trade.{Trade}
use Rattle.mkt_base.specs.declared.order.Order.{Order}
use Rattle.mkt_base.specs.declared.order.Side.{Side}
use Rattle.mkt_base.specs.declared.order.Side.TheVariants.{Buy, Sell}
use Rattle.mkt_base.specs.declared.units.Price.{Price}
use Rattle.auction_law.specs.Attempt.{volume_at}
use Rattle.allotment.specs.Allotment.{allot}
use Rattle.allotment.specs.Laws.{DemandsInOrder, before_shares}
use Rattle.allotment.specs.declared.demand.Demand.{Demand}
use Rattle.allotment.specs.declared.round.Round.{Round}
use Rattle.book_law.specs.Laws.{IsBookOn}
use Rattle.book_law.specs.Sides.{total}
use Rattle.book_law.proofs.FrontLemmas.{in_priority-all}
use Rattle.book_law.proofs.Pairs.{all-append, weaken}
use Rattle.book_law.proofs.PlaceLemmas.{sums-of_sides}
use Rattle.book_law.proofs.SideSums.{sum-priority}
use Rattle.itayose.specs.Fills.{allotted_fills, auction_fills, by_rounds, demand_of, demands_by_number, demands_of, fill_in, is_at_or_better, is_at_price, is_better_than, is_by, is_longer, limit_position, own_fills, sharing, shared_fills, side_filling}
use Rattle.itayose.specs.declared.margin.Margin.{Margin}
use Rattle.itayose.specs.declared.margin.Margin.TheVariants.{Time, Rounds}
use Rattle.zaraba.proofs.EachLemmas.{filtered}
use Rattle.zaraba.proofs.ShareLawLemmas.{left_at, sum-filter, sum-parts}
use Rattle.issue_laws.proofs.Balance.{AreFillsOf, StandsOnce, book-own, filled-cons, filled-none, pair-balanced, pair-within, ranked-once, side-once}

-- ---- fills that go with orders

-- a fill for each order, at its place and no more than it has left
abbrev Fits : List Order → List Fill → Type 0
Fits [] [] = Unit {0}
Fits [] (f ∷ fs) = ⊥
Fits (x ∷ xs) [] = ⊥
Fits (x ∷ xs) (f ∷ fs) = (f.place ≡ x.place) × (f.qty ≤ x.left) × Fits xs fs

fits-whole : (xs : List Order) → Fits xs (whole xs)
fits-whole [] = tt
fits-whole (x ∷ xs) = (refl, omega arith, fits-whole xs)

fits-front : (n : ℕ) (xs : List Order) (fs : List Fill) → Fits xs fs → Fits xs (from_front n fs)
unfolding from_front
fits-front n [] [] fits = tt
fits-front n [] (f ∷ fs) fits = absurd fits
fits-front n (x ∷ xs) [] fits = absurd fits
fits-front n (x ∷ xs) (f ∷ fs) fits = (fits.0, omega (arith, fits.1), fits-front (n - f.qty) xs fs fits.2)

fits-in : (fills : List Fill) (xs : List Order) → AllByRecursion (λ x. filled_at x.place fills ≤ x.left) xs → Fits xs (map (fill_in fills) xs)
fits-in fills [] all = tt
fits-in fills (x ∷ xs) all = (refl, all.0, fits-in fills xs all.1)

fits-append : (xs ys : List Order) (fs gs : List Fill) → Fits xs fs → Fits ys gs → Fits (xs ++ ys) (fs ++ gs)
fits-append [] ys [] gs one two = two
fits-append [] ys (f ∷ fs) gs one two = absurd one
fits-append (x ∷ xs) ys [] gs one two = absurd one
fits-append (x ∷ xs) ys (f ∷ fs) gs one two = (one.0, one.1, fits-append xs ys fs gs one.2 two)

left-cons : (place : ℕ) (x : Order) (xs : List Order) → left_at place (x ∷ xs) ≡ cond (eqb place x.place) x.left 0 + left_at place xs
left-cons place x xs = sum_by-cons (λ y. cond (eqb place y.place) y.left 0) x xs

-- at each place they have no more than the orders
fits-at : (place : ℕ) (xs : List Order) (fs : List Fill) → Fits xs fs → filled_at place fs ≤ left_at place xs
fits-at place [] [] fits = omega (arith, filled-none place)
fits-at place [] (f ∷ fs) fits = absurd fits
fits-at place (x ∷ xs) [] fits = absurd fits
fits-at place (x ∷ xs) (f ∷ fs) fits =
    let rest = fits-at place xs fs fits.2 in
    let same = ap (λ q. cond (eqb place q) f.qty 0) fits.0 in
    let here = least (eqb place x.place) in
    omega (arith, rest, same, here, filled-cons place f fs, left-cons place x xs)
  where
    least : (b : Bool) → cond b f.qty 0 ≤ cond b x.left 0
    least true = fits.1
    least false = omega arith

filled-at : (place : ℕ) (fs : List Fill) → filled_at place (filled fs) ≤ filled_at place fs
filled-at place [] = omega arith
filled-at place (f ∷ fs) = step (ltb 0 f.qty) (filled-at place fs)
  where
    step : (b : Bool) → filled_at place (filled fs) ≤ filled_at place fs → filled_at place (cond b (f ∷ filled fs) (filled fs)) ≤ filled_at place (f ∷ fs)
    step true rest = omega (arith, rest, filled-cons place f (filled fs), filled-cons place f fs)
    step false rest = omega (arith, rest, filled-cons place f fs)

fits-once : (P : ℕ → Type 0) (xs : List Order) (fs : List Fill) → Fits xs fs → AllByRecursion (λ x. P x.place) xs → AllByRecursion (λ f. P f.place) fs
fits-once P [] [] fits all = tt
fits-once P [] (f ∷ fs) fits all = absurd fits
fits-once P (x ∷ xs) [] fits all = absurd fits
fits-once P (x ∷ xs) (f ∷ fs) fits all = (subst P (sym fits.0) all.0, fits-once P xs fs fits.2 all.1)

-- fills that go with some orders of a side, of which there is no more at a place than the side's order has
pub fills-of : (rs xs : List Order) (fs : List Fill) → Fits xs fs → AllByRecursion (λ x. StandsOnce rs x.place) xs → ((place : ℕ) → left_at place xs ≤ left_at place rs) → AllByRecursion (λ o. left_at o.place rs ≤ o.left) rs
    → AreFillsOf rs fs
fills-of rs xs fs fits once least own = record {
  within = weaken (λ o. left_at o.place rs ≤ o.left) (λ o. filled_at o.place fs ≤ o.left) (λ o h. omega (arith, h, least o.place, fits-at o.place xs fs fits)) rs own;
  once = fits-once (StandsOnce rs) xs fs fits once;
  at = λ place. omega (arith, least place, fits-at place xs fs fits);
}

pub filled-of : (rs : List Order) (fs : List Fill) → AreFillsOf rs fs → AreFillsOf rs (filled fs)
filled-of rs fs are = record {
  within = weaken (λ o. filled_at o.place fs ≤ o.left) (λ o. filled_at o.place (filled fs) ≤ o.left) (λ o h. omega (arith, h, filled-at o.place fs)) rs are.within;
  once = filtered (λ f. StandsOnce rs f.place) (λ f. StandsOnce rs f.place) (λ f. ltb 0 f.qty) (λ f h e. h) fs are.once;
  at = λ place. omega (arith, are.at place, filled-at place fs);
}

-- ---- shares of participants

-- no participant stands twice
abbrev EachOnce : List Demand → Type 0
EachOnce ds = (q v : ℕ) → sum_by (λ d. cond (eqb d.participant.0 q) v 0) ds ≤ v

nothing : {X : Type 0} (xs : List X) → sum_by (λ x. 0) xs ≡ 0
nothing [] = refl
nothing (x ∷ xs) = omega (arith, nothing xs, sum_by-cons (λ y. 0) x xs)

filter-sum : (g : Order → ℕ) (t : Order → Bool) (x : Order) (xs : List Order) → sum_by g (filter t (x ∷ xs)) ≡ cond (t x) (g x) 0 + sum_by g (filter t xs)
filter-sum g t x xs = by (t x)
  where
    by : (b : Bool) → sum_by g (cond b (x ∷ filter t xs) (filter t xs)) ≡ cond b (g x) 0 + sum_by g (filter t xs)
    by true = sum_by-cons g x (filter t xs)
    by false = omega arith

-- what the participants' orders add up to is no more than what all orders do
own-sums : (g : Order → ℕ) (ds : List Demand) → EachOnce ds → (xs : List Order) → sum_by (λ d. sum_by g (filter (is_by d.participant.0) xs)) ds ≤ sum_by g xs
own-sums g ds once [] = omega (arith, nothing ds)
own-sums g ds once (x ∷ xs) =
    let rest = own-sums g ds once xs in
    let parts = sum-parts (λ d. sum_by g (filter (is_by d.participant.0) (x ∷ xs))) (λ d. cond (eqb d.participant.0 x.participant.0) (g x) 0) (λ d. sum_by g (filter (is_by d.participant.0) xs)) (λ d. filter-sum g (is_by d.participant.0) x xs) ds in
    omega (arith, rest, parts, once x.participant.0 (g x), sum_by-cons g x xs)

filled-append : (place : ℕ) (fs gs : List Fill) → filled_at place (fs ++ gs) ≡ filled_at place fs + filled_at place gs
unfolding filled_at
filled-append place fs gs = sum_by-append (λ f. cond (eqb place f.place) f.qty 0) fs gs

own-at : (place : ℕ) (xs : List Order) (d : Demand) → filled_at place (own_fills xs d) ≤ left_at place (filter (is_by d.participant.0) xs)
own-at place xs d = fits-at place (filter (is_by d.participant.0) xs) (own_fills xs d) (fits-front d.share (filter (is_by d.participant.0) xs) (whole (filter (is_by d.participant.0) xs)) (fits-whole (filter (is_by d.participant.0) xs)))

all-at : (place : ℕ) (xs : List Order) (ds : List Demand) → filled_at place (flat_map (own_fills xs) ds) ≤ sum_by (λ d. left_at place (filter (is_by d.participant.0) xs)) ds
all-at place xs [] = omega (arith, filled-none place)
all-at place xs (d ∷ ds) =
    let rest = all-at place xs ds in
    let here = own-at place xs d in
    omega (arith, rest, here, filled-append place (own_fills xs d) (flat_map (own_fills xs) ds), sum_by-cons (λ e. left_at place (filter (is_by e.participant.0) xs)) d ds)

fits-shared : (xs : List Order) (ds : List Demand) → EachOnce ds → AllByRecursion (λ x. left_at x.place xs ≤ x.left) xs → Fits xs (shared_fills xs ds)
fits-shared xs ds once own =
    fits-in (flat_map (own_fills xs) ds) xs
    (weaken (λ x. left_at x.place xs ≤ x.left) (λ x. filled_at x.place (flat_map (own_fills xs) ds) ≤ x.left)
    (λ x h. omega (arith, h, all-at x.place xs ds, own-sums (λ y. cond (eqb x.place y.place) y.left 0) ds once xs)) xs own)

-- an allotment has each participant once
range-later : (q v a n : ℕ) → q < a → sum_by (λ r. cond (eqb r q) v 0) (range_with_len a n) ≡ 0
range-later q v a zero h = refl
range-later q v a (suc n) h =
    let rest = range-later q v (a + 1) n (omega (arith, h)) in
    let apart : eqb a q ≡ false = grind (arith, nat_tests, h) in
    let other : cond (eqb a q) v 0 ≡ 0 = ap (λ b. cond b v 0) apart in
    omega (arith, rest, other, sum_by-cons (λ r. cond (eqb r q) v 0) a (range_with_len (a + 1) n))

range-once : (q v a n : ℕ) → sum_by (λ r. cond (eqb r q) v 0) (range_with_len a n) ≤ v
range-once q v a zero = omega arith
range-once q v a (suc n) = by (eqb a q) refl (range-once q v (a + 1) n)
  where
    by : (b : Bool) → eqb a q ≡ b → sum_by (λ r. cond (eqb r q) v 0) (range_with_len (a + 1) n) ≤ v → sum_by (λ r. cond (eqb r q) v 0) (range_with_len a (suc n)) ≤ v
    by true e rest =
        let here : cond (eqb a q) v 0 ≡ v = ap (λ b. cond b v 0) e in
        let less : q < a + 1 = grind (arith, nat_tests, e) in
        omega (arith, here, range-later q v (a + 1) n less, sum_by-cons (λ r. cond (eqb r q) v 0) a (range_with_len (a + 1) n))
    by false e rest =
        let here : cond (eqb a q) v 0 ≡ 0 = ap (λ b. cond b v 0) e in
        omega (arith, here, rest, sum_by-cons (λ r. cond (eqb r q) v 0) a (range_with_len (a + 1) n))

sum-passing : {X : Type 0} (f : X → ℕ) (t : X → Bool) (xs : List X) → sum_by f (filter t xs) ≤ sum_by f xs
sum-passing f t [] = omega arith
sum-passing f t (x ∷ xs) = step (t x) (sum-passing f t xs)
  where
    step : (b : Bool) → sum_by f (filter t xs) ≤ sum_by f xs → sum_by f (cond b (x ∷ filter t xs) (filter t xs)) ≤ sum_by f (x ∷ xs)
    step true rest = omega (arith, rest, sum_by-cons f x (filter t xs), sum_by-cons f x xs)
    step false rest = omega (arith, rest, sum_by-cons f x xs)

sum-mapped : {X Y : Type 0} (f : Y → ℕ) (h : X → Y) (xs : List X) → sum_by f (map h xs) ≡ sum_by (λ x. f (h x)) xs
sum-mapped f h [] = refl
sum-mapped f h (x ∷ xs) = omega (arith, sum-mapped f h xs, sum_by-cons f (h x) (map h xs), sum_by-cons (λ y. f (h y)) x xs)

unshared : (os : List Order) (rs : List ℕ) → AllByRecursion (λ d. d.share ≡ 0) (map (demand_of os) rs)
unshared os [] = tt
unshared os (r ∷ rs) = (refl, unshared os rs)

pub allot-once : DemandsInOrder → (rounds : List Round) (unit given : ℕ) (os : List Order) → EachOnce (allot rounds unit (demands_of os) given)
unfolding demands_by_number
allot-once in_order rounds unit given os q v =
    let f : Demand → ℕ = λ d. cond (eqb d.participant.0 q) v 0 in
    let all = map (demand_of os) (range_with_len 0 64) in
    let asked : Demand → Bool = λ d. ltb 0 d.asked in
    let none = All-filter asked (λ d. d.share ≡ 0) all (All-from_recursion (λ d. d.share ≡ 0) all (unshared os (range_with_len 0 64))) in
    let after = allot rounds unit (demands_of os) given in
    let same = sum_by-IsPermutation f (demands_of os) (map before_shares after) (in_order rounds unit (demands_of os) given none).0 in
    let back = sum-mapped f before_shares after in
    let within = sum-passing f asked all in
    let each = sum-mapped f (demand_of os) (range_with_len 0 64) in
    omega (arith, same, back, within, each, range-once q v 0 64)

-- ---- the margins

module _ (in_order : DemandsInOrder) (grid : List Price) (os : List Order) (is : IsBookOn (length grid) os) where
  abbrev ranked : Side → List Order
  ranked s = in_priority (length grid) s os

  -- at the place of a side's order its side has no more than it has left
  ranked-own : (s : Side) → AllByRecursion (λ o. left_at o.place (ranked s) ≤ o.left) (ranked s)
  ranked-own s =
      weaken (λ o. left_at o.place os ≡ o.left) (λ o. left_at o.place (ranked s) ≤ o.left) (λ o h. omega (arith, h, side-least o.place s)) (ranked s)
      (in_priority-all (λ o. left_at o.place os ≡ o.left) s os (book-own (length grid) os is) (length grid))
    where
      side-least : (place : ℕ) (s : Side) → left_at place (ranked s) ≤ left_at place os
      side-least place Buy = omega (arith, sums-of_sides (λ y. cond (eqb place y.place) y.left 0) (length grid) os is.spots)
      side-least place Sell = omega (arith, sums-of_sides (λ y. cond (eqb place y.place) y.left 0) (length grid) os is.spots)

  fits-sharing : (margin : Margin) (longer : Bool) (rounds : List Round) (unit n : ℕ) (xs : List Order) → AllByRecursion (λ x. left_at x.place xs ≤ x.left) xs → Fits xs (sharing margin longer rounds unit n xs).fills
  fits-sharing Rounds true rounds unit n xs own = fits-shared xs (allot rounds unit (demands_of xs) n) (allot-once in_order rounds unit n xs) own
  fits-sharing Rounds false rounds unit n xs own = fits-front n xs (whole xs) (fits-whole xs)
  fits-sharing Time longer rounds unit n xs own = fits-front n xs (whole xs) (fits-whole xs)

  -- those that pass one of two tests of which no order passes both have no more than all
  parts-within : (g : Order → ℕ) (t u : Order → Bool) → ((x : Order) → t x ≡ true → u x ≡ false) → (xs : List Order) → sum_by g (filter t xs) + sum_by g (filter u xs) ≤ sum_by g xs
  parts-within g t u apart [] = omega arith
  parts-within g t u apart (x ∷ xs) =
      let rest = parts-within g t u apart xs in
      omega (arith, rest, filter-sum g t x xs, filter-sum g u x xs, sum_by-cons g x xs, one (t x) (u x) (apart x))
    where
      one : (b c : Bool) → (b ≡ true → c ≡ false) → cond b (g x) 0 + cond c (g x) 0 ≤ g x
      one true true h = absurd (let e = h refl in cc)
      one true false h = omega arith
      one false true h = omega arith
      one false false h = omega arith

  not-both : (a b : Bool) → b ≡ true → (a && not b) ≡ false
  not-both true b e = ap not e
  not-both false b e = refl

  pub side-fills : (p : ℕ) (margin : Margin) (rounds : List Round) (unit : ℕ) (s : Side) → AreFillsOf (ranked s) (side_filling grid os p margin rounds unit s).fills
  side-fills p margin rounds unit s =
      let better = filter (is_better_than grid p s) (ranked s) in
      let at = filter (is_at_price grid p s) (ranked s) in
      let n = volume_at grid os p - quantity (whole better) in
      let shared = (sharing margin (is_longer grid os p s) rounds unit n at).fills in
      let once = side-once (length grid) os is s in
      let own = filtered (λ o. left_at o.place (ranked s) ≤ o.left) (λ o. left_at o.place at ≤ o.left) (is_at_price grid p s)
      (λ o h e. omega (arith, h, sum-filter (λ y. cond (eqb o.place y.place) y.left 0) (is_at_price grid p s) (ranked s))) (ranked s) (ranked-own s) in
      let fits = fits-append better at (whole better) shared (fits-whole better) (fits-sharing margin (is_longer grid os p s) rounds unit n at own) in
      let apart = λ (x : Order) (e : is_better_than grid p s x ≡ true). not-both (is_at_or_better grid p s x) (is_better_than grid p s x) e in
      filled-of (ranked s) (whole better ++ shared)
      (fills-of (ranked s) (better ++ at) (whole better ++ shared) fits
      (all-append (λ o. StandsOnce (ranked s) o.place) better at
      (filtered (λ o. StandsOnce (ranked s) o.place) (λ o. StandsOnce (ranked s) o.place) (is_better_than grid p s) (λ o h e. h) (ranked s) once)
      (filtered (λ o. StandsOnce (ranked s) o.place) (λ o. StandsOnce (ranked s) o.place) (is_at_price grid p s) (λ o h e. h) (ranked s) once))
      (λ place. omega (arith, sum_by-append (λ y. cond (eqb place y.place) y.left 0) better at, parts-within (λ y. cond (eqb place y.place) y.left 0) (is_better_than grid p s) (is_at_price grid p s) apart (ranked s)))
      (ranked-own s))

  pub auction-balanced : (p : ℕ) (margin : Margin) (rounds : List Round) (unit : ℕ) (s : Side)
      → let ts : List Trade = (auction_fills grid os p margin rounds unit).trades in
      sum_by (λ t. t.qty) ts + total (in_priority (length grid) s (after_trades ts os)) ≡ total (in_priority (length grid) s os)
  auction-balanced p margin rounds unit s =
      pair-balanced (length grid) os is p (side_filling grid os p margin rounds unit Buy).fills (side_filling grid os p margin rounds unit Sell).fills
      (side-fills p margin rounds unit Buy) (side-fills p margin rounds unit Sell) s

  pub auction-within : (p : ℕ) (margin : Margin) (rounds : List Round) (unit place : ℕ) → traded_at (auction_fills grid os p margin rounds unit).trades place ≤ left_at place os
  auction-within p margin rounds unit place =
      pair-within (length grid) os is p (side_filling grid os p margin rounds unit Buy).fills (side_filling grid os p margin rounds unit Sell).fills
      (side-fills p margin rounds unit Buy) (side-fills p margin rounds unit Sell) place

  -- ---- an allotted close

  asking-side : (p : ℕ) (s : Side) (o : Order) → is_at_or_better grid p s o ≡ true → is_same_side s o.side ≡ true
  asking-side p Buy o e = (and_parts (is_buy o.side) _ e).0
  asking-side p Sell o e = (and_parts (not (is_buy o.side)) _ e).0

  -- those that ask are orders of the side
  passing-within : (g : Order → ℕ) (p : ℕ) (s : Side) (xs : List Order) → sum_by g (filter (is_at_or_better grid p s) xs) ≤ sum_by (λ o. cond (is_same_side s o.side) (g o) 0) xs
  passing-within g p s [] = omega arith
  passing-within g p s (x ∷ xs) =
      omega (
        arith,
        passing-within g p s xs,
        filter-sum g (is_at_or_better grid p s) x xs,
        sum_by-cons (λ o. cond (is_same_side s o.side) (g o) 0) x xs,
        one (is_at_or_better grid p s x) (is_same_side s x.side) (asking-side p s x),
      )
    where
      one : (b c : Bool) → (b ≡ true → c ≡ true) → cond b (g x) 0 ≤ cond c (g x) 0
      one true true h = omega arith
      one true false h = absurd (let e = h refl in cc)
      one false true h = omega arith
      one false false h = omega arith

  asking-fills : (p n : ℕ) (rounds : List Round) (unit : ℕ) (s : Side) → AreFillsOf (ranked s) (filled (by_rounds rounds unit n (filter (is_at_or_better grid p s) os)).fills)
  asking-fills p n rounds unit s =
      let asking = filter (is_at_or_better grid p s) os in
      let own = book-own (length grid) os is in
      let least = λ (o : Order) (h : left_at o.place os ≡ o.left). sum-filter (λ y. cond (eqb o.place y.place) y.left 0) (is_at_or_better grid p s) os in
      let fits = fits-shared asking (allot rounds unit (demands_of asking) n) (allot-once in_order rounds unit n asking)
      (filtered (λ o. left_at o.place os ≡ o.left) (λ o. left_at o.place asking ≤ o.left) (is_at_or_better grid p s) (λ o h e. omega (arith, h, least o h)) os own) in
      filled-of (ranked s) (shared_fills asking (allot rounds unit (demands_of asking) n))
      (fills-of (ranked s) asking (shared_fills asking (allot rounds unit (demands_of asking) n)) fits
      (filtered (λ o. is_same_side s o.side ≡ true → StandsOnce (ranked s) o.place) (λ o. StandsOnce (ranked s) o.place) (is_at_or_better grid p s) (λ o h e. h (asking-side p s o e)) os (ranked-once (length grid) os is s))
      (λ place. omega (arith, passing-within (λ y. cond (eqb place y.place) y.left 0) p s os, sum-priority (λ y. cond (eqb place y.place) y.left 0) (length grid) s os is.spots)) (ranked-own s))

  facing-fills : (s : Side) → AreFillsOf (ranked s) (whole (ranked s))
  facing-fills s = fills-of (ranked s) (ranked s) (whole (ranked s)) (fits-whole (ranked s)) (side-once (length grid) os is s) (λ place. omega arith) (ranked-own s)

  pub allotted-balanced : (pressed : Side) (rounds : List Round) (unit : ℕ) (s : Side)
      → let ts : List Trade = (allotted_fills grid os pressed rounds unit).trades in
      sum_by (λ t. t.qty) ts + total (in_priority (length grid) s (after_trades ts os)) ≡ total (in_priority (length grid) s os)
  allotted-balanced Buy rounds unit s =
      let p = price_at grid (limit_position grid Buy) in
      pair-balanced (length grid) os is p (filled (by_rounds rounds unit (total (ranked Sell)) (filter (is_at_or_better grid p Buy) os)).fills) (whole (ranked Sell)) (asking-fills p (total (ranked Sell)) rounds unit Buy) (facing-fills Sell) s
  allotted-balanced Sell rounds unit s =
      let p = price_at grid (limit_position grid Sell) in
      pair-balanced (length grid) os is p (whole (ranked Buy)) (filled (by_rounds rounds unit (total (ranked Buy)) (filter (is_at_or_better grid p Sell) os)).fills) (facing-fills Buy) (asking-fills p (total (ranked Buy)) rounds unit Sell) s

  pub allotted-within : (pressed : Side) (rounds : List Round) (unit place : ℕ) → traded_at (allotted_fills grid os pressed rounds unit).trades place ≤ left_at place os
  allotted-within Buy rounds unit place =
      let p = price_at grid (limit_position grid Buy) in
      pair-within (length grid) os is p (filled (by_rounds rounds unit (total (ranked Sell)) (filter (is_at_or_better grid p Buy) os)).fills) (whole (ranked Sell)) (asking-fills p (total (ranked Sell)) rounds unit Buy) (facing-fills Sell) place
  allotted-within Sell rounds unit place =
      let p = price_at grid (limit_position grid Sell) in
      pair-within (length grid) os is p (whole (ranked Buy)) (filled (by_rounds rounds unit (total (ranked Buy)) (filter (is_at_or_better grid p Sell) os)).fills) (facing-fills Buy) (asking-fills p (total (ranked Buy)) rounds unit Sell) place
