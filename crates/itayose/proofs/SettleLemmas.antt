-- The fills of an auction by rounds and of an allotted close, as fills of one side in turn against the front of the other.
use Rattle.std.proofs.Common.{◌≡◌, ℕ, ◌+◌, ◌-◌, ◌%◌, ◌<◌, ◌≤◌, min, Bool, true, false, cond, not, eqb, leb, ltb, ◌&&◌, ◌||◌, List, [], ◌∷◌, ◌++◌, map, filter, length, All, refl, sym, ap, subst, ◌∙◌, arith, append-nil, append_assoc, lt-ltb}
use Rattle.std.specs.List.{AllByRecursion}
use Rattle.std.proofs.lemmas.Bool.Decides.{nat_tests}
use Rattle.std.proofs.lemmas.List.Elements.{All-filter, All-from_recursion, All-map, filter-append, recursion_from_All}
use Rattle.mkt_base.specs.Book.{IsRising, above, below, buys, is_buy, is_market_or, limit_of, price_at, sells, total_left}
use Rattle.mkt_base.specs.Fills.{Fill, after_trades, bought_by, filled, from_front, less_front, less_traded, pair, quantity, whole}
use Rattle.mkt_base.specs.Priority.{in_priority, is_on_level, is_same_side, is_same_spot, level_of}
use Rattle.mkt_base.specs.declared.auction.Sums.{Sums}
use Rattle.mkt_base.specs.declared.auction.Trade.{Trade}
use Rattle.mkt_base.specs.declared.order.Order.{Order}
use Rattle.mkt_base.specs.declared.order.Side.{Side}
use Rattle.mkt_base.specs.declared.order.Side.TheVariants.{Buy, Sell}
use Rattle.mkt_base.specs.declared.order.Spot.{Spot}
use Rattle.mkt_base.specs.declared.order.Spot.TheVariants.{Market, At}
use Rattle.mkt_base.specs.declared.output.Output.{Output}
use Rattle.mkt_base.specs.declared.units.Price.{Price}
use Rattle.allotment.specs.Allotment.{allot}
use Rattle.allotment.specs.Rounds.{AreRounds}
use Rattle.allotment.proofs.LawLemmas.{shares_add_up}
use Rattle.allotment.specs.declared.demand.Demand.{Demand}
use Rattle.allotment.specs.declared.round.Round.{Round}
use Rattle.auction_law.specs.Attempt.{meets, volume_at}
use Rattle.auction_law.proofs.MeetsLemmas.{meets-tells}
use Rattle.auction_law.proofs.SumsLemmas.{above-le-buys, and-weaker, below-le-sells, limit-weaker, total_left-mono}
use Rattle.book_law.specs.BookView.{BookView, IsBookView, IsGridOf, IsSpotBelow, orders, side_of}
use Rattle.book_law.specs.Sides.{total}
use Rattle.book_law.proofs.AheadLemmas.{and-left}
use Rattle.book_law.proofs.FrontLemmas.{in_priority-all, orders-below, orders-rising}
use Rattle.book_law.proofs.PairLemmas.{paired-filled}
use Rattle.book_law.proofs.Pairs.{all-append, weaken}
use Rattle.book_law.proofs.TakenLemmas.{quantity-side, total-filter, total-passing}
use Rattle.itayose.specs.Fills.{Filling, Settlement, allotted_fills, auction_fills, demands_of, is_at_or_better, is_at_price, is_better_than, is_longer, limit_position, opposite, pair_side, settlement_outputs, share_outputs, shared_fills, sharing, side_filling, trade_outputs}
use Rattle.itayose.specs.Sharing.{AreByPlace, AreFilled, CanShare, ahead_sum, facing_sum, in_front, is_ahead, is_beyond, is_sharing, own_shares, passed, shares_by_number, sharing_of, wide_sum}
use Rattle.itayose.specs.Walk.{sums_of}
use Rattle.itayose.specs.declared.margin.Margin.{Margin}
use Rattle.itayose.specs.declared.margin.Margin.TheVariants.{Rounds, Time}
use Rattle.itayose.proofs.AllotLemmas.{allot-once, allot-participants, can-share, last-round, shares-fill, shares-within, total-units, units-sub}
use Rattle.itayose.proofs.FillingLemmas.{filled-behind, filled-more, quantity-cons, quantity-none}
use Rattle.itayose.proofs.RoundsLemmas.{sum-alike, sum-plus}
use Rattle.itayose.proofs.SharingLemmas.{behind-ahead, filter-alike, filter-all, filter-keeps, filter-none, filter-passes, front-ahead, front-whole, level-is, sharing-by_place, stands-at, stands-there}
use Rattle.itayose.proofs.TradingLemmas.{buys-by_time, sells-by_time}

-- ---- pairings of limited fronts

front-limited : (q v : ℕ) (gs : List Fill) → q ≤ v → from_front q (from_front v gs) ≡ from_front q gs
unfolding from_front
front-limited q v [] h = refl
front-limited q v (g ∷ gs) h =
    let first : min q (min v g.qty) ≡ min q g.qty = grind (arith, nat_tests, h) in
    let rest : q - min v g.qty ≡ q - g.qty = grind (arith, nat_tests, h) in
    ap (λ n. record g { qty = n } ∷ from_front (q - min v g.qty) (from_front (v - g.qty) gs)) first
    ∙ ap (λ n. record g { qty = min q g.qty } ∷ from_front n (from_front (v - g.qty) gs)) rest
    ∙ ap (λ fs. record g { qty = min q g.qty } ∷ fs) (front-limited (q - g.qty) (v - g.qty) gs (omega (arith, h)))

less-limited : (q v : ℕ) (gs : List Fill) → q ≤ v → less_front q (from_front v gs) ≡ from_front (v - q) (less_front q gs)
unfolding from_front less_front
less-limited q v [] h = refl
less-limited q v (g ∷ gs) h =
    let first : min v g.qty - q ≡ min (v - q) (g.qty - q) = grind (arith, nat_tests, h) in
    let rest : q - min v g.qty ≡ q - g.qty = grind (arith, nat_tests, h) in
    let left : (v - g.qty) - (q - g.qty) ≡ (v - q) - (g.qty - q) = omega (arith, h) in
    ap (λ n. record g { qty = n } ∷ less_front (q - min v g.qty) (from_front (v - g.qty) gs)) first
    ∙ ap (λ n. record g { qty = min (v - q) (g.qty - q) } ∷ less_front n (from_front (v - g.qty) gs)) rest
    ∙ ap (λ fs. record g { qty = min (v - q) (g.qty - q) } ∷ fs) (less-limited (q - g.qty) (v - g.qty) gs (omega (arith, h)))
    ∙ ap (λ n. record g { qty = min (v - q) (g.qty - q) } ∷ from_front n (less_front (q - g.qty) gs)) left

front-enough : (v q : ℕ) (gs : List Fill) → quantity gs ≤ v → from_front (min v q) gs ≡ from_front q gs
unfolding from_front
front-enough v q [] h = refl
front-enough v q (g ∷ gs) h =
    let all = quantity-cons g gs in
    let first : min (min v q) g.qty ≡ min q g.qty = grind (arith, nat_tests, h, all) in
    let rest : min v q - g.qty ≡ min (v - g.qty) (q - g.qty) = grind (arith, nat_tests, h, all) in
    ap (λ n. record g { qty = n } ∷ from_front (min v q - g.qty) gs) first
    ∙ ap (λ n. record g { qty = min q g.qty } ∷ from_front n gs) rest
    ∙ ap (λ fs. record g { qty = min q g.qty } ∷ fs) (front-enough (v - g.qty) (q - g.qty) gs (omega (arith, h, all)))

less-enough : (v q : ℕ) (gs : List Fill) → quantity gs ≤ v → less_front (min v q) gs ≡ less_front q gs
unfolding less_front
less-enough v q [] h = refl
less-enough v q (g ∷ gs) h =
    let all = quantity-cons g gs in
    let first : g.qty - min v q ≡ g.qty - q = grind (arith, nat_tests, h, all) in
    let rest : min v q - g.qty ≡ min (v - g.qty) (q - g.qty) = grind (arith, nat_tests, h, all) in
    ap (λ n. record g { qty = n } ∷ less_front (min v q - g.qty) gs) first
    ∙ ap (λ n. record g { qty = g.qty - q } ∷ less_front n gs) rest
    ∙ ap (λ fs. record g { qty = g.qty - q } ∷ fs) (less-enough (v - g.qty) (q - g.qty) gs (omega (arith, h, all)))

rest-quantity : (n : ℕ) (gs : List Fill) → quantity (less_front n gs) ≤ quantity gs - n
unfolding less_front
rest-quantity n [] = omega (arith, quantity-none)
rest-quantity n (g ∷ gs) = omega (arith, quantity-cons (record g { qty = g.qty - n }) (less_front (n - g.qty) gs), quantity-cons g gs, rest-quantity (n - g.qty) gs)

-- fills against a front that has as many
pub buys-limited : (p v : ℕ) (fs gs : List Fill) → quantity fs ≤ v → pair p fs (from_front v gs) ≡ pair p fs gs
unfolding pair
buys-limited p v [] gs h = refl
buys-limited p v (f ∷ fs) gs h =
    let all = quantity-cons f fs in
    ap (λ hs. map (bought_by p f.place) (filled hs) ++ pair p fs (less_front f.qty (from_front v gs))) (front-limited f.qty v gs (omega (arith, h, all)))
    ∙ ap (λ ts. map (bought_by p f.place) (filled (from_front f.qty gs)) ++ ts)
    (ap (pair p fs) (less-limited f.qty v gs (omega (arith, h, all))) ∙ buys-limited p (v - f.qty) fs (less_front f.qty gs) (omega (arith, h, all)))

pub sells-limited : (p v : ℕ) (fs gs : List Fill) → quantity gs ≤ v → pair p (from_front v fs) gs ≡ pair p fs gs
unfolding pair from_front
sells-limited p v [] gs h = refl
sells-limited p v (f ∷ fs) gs h =
    ap (λ hs. map (bought_by p f.place) (filled hs) ++ pair p (from_front (v - f.qty) fs) (less_front (min v f.qty) gs)) (front-enough v f.qty gs h)
    ∙ ap (λ ts. map (bought_by p f.place) (filled (from_front f.qty gs)) ++ ts)
    (ap (pair p (from_front (v - f.qty) fs)) (less-enough v f.qty gs h) ∙ sells-limited p (v - f.qty) fs (less_front f.qty gs) (omega (arith, h, rest-quantity f.qty gs)))

pub side-limited : (p v : ℕ) (side : Side) (fs gs : List Fill) → quantity fs ≤ v → pair_side p side fs (from_front v gs) ≡ pair_side p side fs gs
side-limited p v Buy fs gs h = buys-limited p v fs gs h
side-limited p v Sell fs gs h = sells-limited p v gs fs h

pair-nothing : (p : ℕ) (bs : List Fill) → pair p bs [] ≡ []
unfolding pair from_front less_front
pair-nothing p [] = refl
pair-nothing p (b ∷ bs) = pair-nothing p bs

side-nothing : (p : ℕ) (side : Side) (gs : List Fill) → pair_side p side [] gs ≡ []
unfolding pair
side-nothing p Buy gs = refl
side-nothing p Sell gs = pair-nothing p gs

filled-twice : (fs : List Fill) → filled (filled fs) ≡ filled fs
filled-twice [] = refl
filled-twice (f ∷ fs) = step (ltb 0 f.qty) refl (filled-twice fs)
  where
    step : (b : Bool) → ltb 0 f.qty ≡ b → filled (filled fs) ≡ filled fs → filled (cond b (f ∷ filled fs) (filled fs)) ≡ cond b (f ∷ filled fs) (filled fs)
    step true e rest = ap (λ b. cond b (f ∷ filled (filled fs)) (filled (filled fs))) e ∙ ap (λ gs. f ∷ gs) rest
    step false e rest = rest

-- a pairing does not see the fills without shares, also where they are left out on one side alone
pub side-filled : (p : ℕ) (side : Side) (fs gs : List Fill) → pair_side p side (filled fs) gs ≡ pair_side p side fs gs
side-filled p Buy fs gs = sym (paired-filled p (filled fs) gs) ∙ ap (λ hs. pair p hs (filled gs)) (filled-twice fs) ∙ paired-filled p fs gs
side-filled p Sell fs gs = sym (paired-filled p gs (filled fs)) ∙ ap (pair p (filled gs)) (filled-twice fs) ∙ paired-filled p gs fs

pub side-both : (p : ℕ) (side : Side) (fs gs : List Fill) → pair_side p side (filled fs) (filled gs) ≡ pair_side p side fs gs
side-both p Buy fs gs = paired-filled p fs gs
side-both p Sell fs gs = paired-filled p gs fs

-- fills that are all done are the trades of their pairing
pub all-traded : {W : Type 0} (took : W → List Output → W → Type 0) (p : ℕ) (side : Side) (fs : List Fill) (old new : BookView) (from to : W) (s : AreFilled took p side fs [] old new from to)
    → s.done ≡ pair_side p side fs (whole (side_of old (opposite side)))
all-traded took p side fs old new from to s =
    sym (append-nil s.done) ∙ ap (λ ts. s.done ++ ts) (sym (side-nothing p side (whole (side_of new (opposite side))))) ∙ sym (s.trades [])
    ∙ ap (λ gs. pair_side p side gs (whole (side_of old (opposite side)))) (append-nil fs)

-- ---- tests by price and tests by position

num-at : (i j : ℕ) → (leb i j && not (ltb i j)) ≡ eqb i j
num-at i j = grind (arith, nat_tests)

num-at_down : (i j : ℕ) → (leb j i && not (ltb j i)) ≡ eqb i j
num-at_down i j = grind (arith, nat_tests)

module _ (grid : List Price) (rising : IsRising grid) where
  pub ltb-price : (i j : ℕ) → i < length grid → j < length grid → ltb (price_at grid i) (price_at grid j) ≡ ltb i j
  ltb-price i j h k = by (ltb i j) refl
    where
      same : (b : Bool) → eqb i j ≡ b → ltb i j ≡ false → ltb (price_at grid i) (price_at grid j) ≡ false
      same true e f =
          let one : i ≡ j = grind (arith, nat_tests, e) in
          let price : price_at grid i ≡ price_at grid j = ap (price_at grid) one in
          grind (arith, nat_tests, price)
      same false e f =
          let less : j < i = grind (arith, nat_tests, e, f) in
          let price = rising j i less h in
          grind (arith, nat_tests, price)

      by : (b : Bool) → ltb i j ≡ b → ltb (price_at grid i) (price_at grid j) ≡ b
      by true e =
          let less : i < j = grind (arith, nat_tests, e) in
          lt-ltb (price_at grid i) (price_at grid j) (rising i j less k)
      by false e = same (eqb i j) refl e

  pub leb-price : (i j : ℕ) → i < length grid → j < length grid → leb (price_at grid i) (price_at grid j) ≡ leb i j
  leb-price i j h k = by (ltb j i) refl (ltb-price j i k h)
    where
      by : (b : Bool) → ltb j i ≡ b → ltb (price_at grid j) (price_at grid i) ≡ ltb j i → leb (price_at grid i) (price_at grid j) ≡ leb i j
      by true e f = (let g = f ∙ e in grind (arith, nat_tests, e, g))
      by false e f = (let g = f ∙ e in grind (arith, nat_tests, e, g))

  module _ (i : ℕ) (inside : i < length grid) where
    abbrev price : ℕ
    price = price_at grid i

    better-buy : (t : Side) (s : Spot) → IsSpotBelow (length grid) s → (is_buy t && is_market_or (λ limit. ltb price limit) (limit_of grid s)) ≡ (is_buy t && is_beyond Buy i s)
    better-buy t Market h = refl
    better-buy t (At j) h = ap (λ c. is_buy t && c) (ltb-price i j inside h)

    better-sell : (t : Side) (s : Spot) → IsSpotBelow (length grid) s → (not (is_buy t) && is_market_or (λ limit. ltb limit price) (limit_of grid s)) ≡ (not (is_buy t) && is_beyond Sell i s)
    better-sell t Market h = refl
    better-sell t (At j) h = ap (λ c. not (is_buy t) && c) (ltb-price j i h inside)

    pub better-is : (side : Side) (o : Order) → IsSpotBelow (length grid) o.spot → is_better_than grid price side o ≡ is_ahead side i o
    better-is Buy o h = better-buy o.side o.spot h
    better-is Sell o h = better-sell o.side o.spot h

    at-buy : (t : Side) (s : Spot) → IsSpotBelow (length grid) s
        → ((is_buy t && is_market_or (λ limit. leb price limit) (limit_of grid s)) && not (is_buy t && is_market_or (λ limit. ltb price limit) (limit_of grid s))) ≡ (is_buy t && is_same_spot (At i) s)
    at-buy Buy Market h = refl
    at-buy Buy (At j) h = ap (λ c. c && not (ltb price (price_at grid j))) (leb-price i j inside h) ∙ ap (λ c. leb i j && not c) (ltb-price i j inside h) ∙ num-at i j
    at-buy Sell s h = refl

    at-sell : (t : Side) (s : Spot) → IsSpotBelow (length grid) s
        → ((not (is_buy t) && is_market_or (λ limit. leb limit price) (limit_of grid s)) && not (not (is_buy t) && is_market_or (λ limit. ltb limit price) (limit_of grid s))) ≡ (not (is_buy t) && is_same_spot (At i) s)
    at-sell Sell Market h = refl
    at-sell Sell (At j) h = ap (λ c. c && not (ltb (price_at grid j) price)) (leb-price j i h inside) ∙ ap (λ c. leb j i && not c) (ltb-price j i h inside) ∙ num-at_down i j
    at-sell Buy s h = refl

    pub at-is : (side : Side) (o : Order) → IsSpotBelow (length grid) o.spot → is_at_price grid price side o ≡ is_on_level side (At i) o
    at-is Buy o h = at-buy o.side o.spot h
    at-is Sell o h = at-sell o.side o.spot h

-- those that are better are at the price or better
pub wide-of : (grid : List Price) (p : ℕ) (side : Side) (o : Order) → is_better_than grid p side o ≡ true → is_at_or_better grid p side o ≡ true
wide-of grid p Buy o e = and-weaker (is_buy o.side) _ _ (limit-weaker (λ x. ltb p x) (λ x. leb p x) (limit_of grid o.spot) (λ x f t. grind (arith, nat_tests))) e
wide-of grid p Sell o e = and-weaker (not (is_buy o.side)) _ _ (limit-weaker (λ x. ltb x p) (λ x. leb x p) (limit_of grid o.spot) (λ x f t. grind (arith, nat_tests))) e

pub wide-side : (grid : List Price) (p : ℕ) (side : Side) (o : Order) → is_at_or_better grid p side o ≡ true → is_same_side side o.side ≡ true
wide-side grid p Buy o e = and-left (is_buy o.side) (is_market_or (λ limit. leb p limit) (limit_of grid o.spot)) e
wide-side grid p Sell o e = and-left (not (is_buy o.side)) (is_market_or (λ limit. leb limit p) (limit_of grid o.spot)) e

-- what is at a price or better is what is better and what is at it
pub wide-parts : (grid : List Price) (p : ℕ) (side : Side) (os : List Order) → total_left (is_at_or_better grid p side) os ≡ total_left (is_better_than grid p side) os + total_left (is_at_price grid p side) os
unfolding total_left
wide-parts grid p side os =
    sum-alike (λ o. cond (is_at_or_better grid p side o) o.left 0) (λ o. cond (is_better_than grid p side o) o.left 0 + cond (is_at_price grid p side o) o.left 0)
    (λ o. both (is_at_or_better grid p side o) (is_better_than grid p side o) o.left (wide-of grid p side o)) os
    ∙ sum-plus (λ o. cond (is_better_than grid p side o) o.left 0) (λ o. cond (is_at_price grid p side o) o.left 0) os
  where
    both : (w b : Bool) (n : ℕ) → (b ≡ true → w ≡ true) → cond w n 0 ≡ cond b n 0 + cond (w && not b) n 0
    both true true n h = omega arith
    both true false n h = omega arith
    both false true n h = (let e = h refl in absurd (cc))
    both false false n h = refl

-- tests that agree on all orders add up alike
total_left-alike : (t u : Order → Bool) (os : List Order) → AllByRecursion (λ o. t o ≡ u o) os → total_left t os ≡ total_left u os
total_left-alike t u os all = sym (total-filter t os) ∙ ap total (filter-alike t u os all) ∙ total-filter u os

-- ---- a book at a position

module _ (b : BookView) (stands : IsBookView b) (grid : List Price) (of : IsGridOf b grid) (i : ℕ) (inside : i < length grid) (side : Side) where
  abbrev p : ℕ
  p = price_at grid i

  abbrev os : List Order
  os = orders b

  abbrev v : ℕ
  v = volume_at grid os p

  pub inside-book : i < b.prices
  inside-book = subst (λ n. i < n) of.size inside

  spots-on : All (λ o. IsSpotBelow (length grid) o.spot) os
  spots-on = subst (λ n. All (λ o. IsSpotBelow n o.spot) os) (sym of.size) (orders-below b stands)

  spots : AllByRecursion (λ o. IsSpotBelow (length grid) o.spot) os
  spots = recursion_from_All (λ o. IsSpotBelow (length grid) o.spot) os spots-on

  ranked-is : (s : Side) → in_priority (length grid) s os ≡ side_of b s
  ranked-is s = ap (λ n. in_priority n s os) of.size

  side-spots : (s : Side) → AllByRecursion (λ o. IsSpotBelow (length grid) o.spot) (side_of b s)
  side-spots s = in_priority-all (λ o. IsSpotBelow (length grid) o.spot) s os spots b.prices

  abbrev front : List Order
  front = in_front (total_left (is_ahead side i) os) (side_of b side)

  -- the better orders of the side are its front
  pub better-front : filter (is_better_than grid p side) (in_priority (length grid) side os) ≡ front
  better-front =
      ap (filter (is_better_than grid p side)) (ranked-is side)
      ∙ filter-alike (is_better_than grid p side) (is_ahead side i) (side_of b side) (weaken (λ o. IsSpotBelow (length grid) o.spot) (λ o. is_better_than grid p side o ≡ is_ahead side i o) (λ o h. better-is grid of.rising i inside side o h) (side_of b side) (side-spots side))
      ∙ sym (front-ahead b stands side i inside-book)

  -- and those at the price the position's level
  pub at-level : filter (is_at_price grid p side) (in_priority (length grid) side os) ≡ level_of side (At i) os
  at-level =
      ap (filter (is_at_price grid p side)) (ranked-is side)
      ∙ filter-alike (is_at_price grid p side) (is_on_level side (At i)) (side_of b side) (weaken (λ o. IsSpotBelow (length grid) o.spot) (λ o. is_at_price grid p side o ≡ is_on_level side (At i) o) (λ o h. at-is grid of.rising i inside side o h) (side_of b side) (side-spots side))
      ∙ level-is b.prices side os (At i) (stands-there b.prices side os i inside-book)

  better-sum : total_left (is_better_than grid p side) os ≡ total_left (is_ahead side i) os
  better-sum = total_left-alike (is_better_than grid p side) (is_ahead side i) os (weaken (λ o. IsSpotBelow (length grid) o.spot) (λ o. is_better_than grid p side o ≡ is_ahead side i o) (λ o h. better-is grid of.rising i inside side o h) os spots)

  at-sum : total_left (is_at_price grid p side) os ≡ total (level_of side (At i) os)
  at-sum =
      total_left-alike (is_at_price grid p side) (is_on_level side (At i)) os (weaken (λ o. IsSpotBelow (length grid) o.spot) (λ o. is_at_price grid p side o ≡ is_on_level side (At i) o) (λ o h. at-is grid of.rising i inside side o h) os spots)
      ∙ sym (total-filter (is_on_level side (At i)) os)

  -- the sums of the side, as a call told them
  module _ (s : Sums) (sums : s ≡ sums_of b grid i) (w a f : ℕ) (we : w ≡ wide_sum side s) (ae : a ≡ ahead_sum side s) (fe : f ≡ facing_sum side s) where
    pub wide-is : w ≡ total_left (is_at_or_better grid p side) os
    wide-is = we ∙ ap (wide_sum side) sums ∙ by side
      where
        by : (t : Side) → wide_sum t (sums_of b grid i) ≡ total_left (is_at_or_better grid p t) os
        by Buy = refl
        by Sell = refl

    better-total : a ≡ total_left (is_better_than grid p side) os
    better-total = ae ∙ ap (ahead_sum side) sums ∙ by side
      where
        by : (t : Side) → ahead_sum t (sums_of b grid i) ≡ total_left (is_better_than grid p t) os
        by Buy = refl
        by Sell = refl

    pub facing-is : f ≡ total_left (is_at_or_better grid p (opposite side)) os
    facing-is = fe ∙ ap (facing_sum side) sums ∙ by side
      where
        by : (t : Side) → facing_sum t (sums_of b grid i) ≡ total_left (is_at_or_better grid p (opposite t)) os
        by Buy = refl
        by Sell = refl

    pub ahead-total : a ≡ total_left (is_ahead side i) os
    ahead-total = better-total ∙ better-sum

    pub ahead-within : a ≤ w
    ahead-within = omega (arith, wide-is, better-total, wide-parts grid p side os)

    pub level-total : w - a ≡ total (sharing_of b side i false)
    level-total = let parts = wide-parts grid p side os in omega (arith, wide-is, better-total, parts, at-sum)

    pub facing-within : f ≤ total (side_of b (opposite side))
    facing-within =
        let most = total_left-mono (is_at_or_better grid p (opposite side)) (λ o. is_same_side (opposite side) o.side) os
        (All-from_recursion (λ o. is_at_or_better grid p (opposite side) o ≡ true → is_same_side (opposite side) o.side ≡ true) os (any (λ o. is_at_or_better grid p (opposite side) o ≡ true → is_same_side (opposite side) o.side ≡ true) (λ o e. wide-side grid p (opposite side) o e) os)) in
        omega (arith, most, facing-is, quantity-side b.prices (opposite side) os (orders-below b stands))
      where
        any : (P : Order → Type 0) → ((o : Order) → P o) → (xs : List Order) → AllByRecursion P xs
        any P h [] = tt
        any P h (x ∷ xs) = (h x, any P h xs)

    module _ (longer : is_longer grid os p side ≡ true) where
      pub facing-volume : f ≡ v
      facing-volume = facing-is ∙ by side longer
        where
          by : (t : Side) → is_longer grid os p t ≡ true → total_left (is_at_or_better grid p (opposite t)) os ≡ min (buys grid os p) (sells grid os p)
          by Buy e = grind (arith, nat_tests, e)
          by Sell e = grind (arith, nat_tests, e)

      pub facing-less : f < w
      facing-less = omega (arith, facing-is, wide-is, by side longer)
        where
          by : (t : Side) → is_longer grid os p t ≡ true → total_left (is_at_or_better grid p (opposite t)) os < total_left (is_at_or_better grid p t) os
          by Buy e = grind (arith, nat_tests, e)
          by Sell e = grind (arith, nat_tests, e)

    module _ (unit : ℕ) (units : All (λ o. o.left % unit ≡ 0) os) where
      passing-units : (t : Order → Bool) → total_left t os % unit ≡ 0
      passing-units t = ap (λ n. n % unit) (sym (total-filter t os)) ∙ total-units unit (filter t os) (filter-keeps (λ o. o.left % unit ≡ 0) t os (recursion_from_All (λ o. o.left % unit ≡ 0) os units))

      pub facing-units : f % unit ≡ 0
      facing-units = ap (λ n. n % unit) facing-is ∙ passing-units (is_at_or_better grid p (opposite side))

      pub given-units : (f - a) % unit ≡ 0
      given-units = units-sub unit f a facing-units (ap (λ n. n % unit) better-total ∙ passing-units (is_better_than grid p side))

    pub front-shares : total (in_front a (side_of b side)) ≡ a
    front-shares = ap (λ n. total (in_front n (side_of b side))) ahead-total ∙ front-whole b stands side i inside-book ∙ sym ahead-total

    module _ (met : meets grid os p ≡ true) where
      pub ahead-facing : a ≤ f
      ahead-facing = let m = meets-tells grid os p met in omega (arith, by side m.2 m.3, better-total, facing-is)
        where
          by : (t : Side) → above grid os p ≤ sells grid os p → below grid os p ≤ buys grid os p → total_left (is_better_than grid p t) os ≤ total_left (is_at_or_better grid p (opposite t)) os
          by Buy h k = h
          by Sell h k = k

      pub ahead-faced : a ≤ total (side_of b (opposite side))
      ahead-faced = omega (arith, ahead-facing, facing-within)

-- ---- after the front

-- trades leave each order its participant
pub participants-after : (ts : List Trade) (os : List Order) → All (λ o. o.participant.0 < 64) os → All (λ o. o.participant.0 < 64) (after_trades ts os)
unfolding after_trades
participants-after ts os all = All-filter (λ o. ltb 0 o.left) (λ o. o.participant.0 < 64) (map (less_traded ts) os) (All-map (λ o. o.participant.0 < 64) (less_traded ts) os all)

module _ (b new : BookView) (stands : IsBookView b) (after : IsBookView new) (side : Side) (i a : ℕ) (inside : i < b.prices) (prices : new.prices ≡ b.prices) (is : a ≡ total_left (is_ahead side i) (orders b))
    (passes : side_of new side ≡ passed a (side_of b side)) where
  abbrev back : List Order
  back = (stands-at b.prices side (orders b) i inside).back

  side-left : side_of new side ≡ level_of side (At i) (orders b) ++ back
  side-left = passes ∙ ap (λ n. passed n (side_of b side)) is ∙ behind-ahead b stands side i inside

  -- the level stays as it was
  pub level-stays : sharing_of new side i false ≡ sharing_of b side i false
  level-stays =
      let there = stands-at b.prices side (orders b) i inside in
      let inside-new : i < new.prices = subst (λ n. i < n) (sym prices) inside in
      let none : AllByRecursion (λ o. is_on_level side (At i) o ≡ false) back =
      weaken (λ o. (is_beyond side i o.spot ≡ false) × (is_same_spot (At i) o.spot ≡ false)) (λ o. is_on_level side (At i) o ≡ false) (λ o e. and-none (is_same_side side o.side) (is_same_spot (At i) o.spot) e.1) back there.back_not in
      sym (level-is new.prices side (orders new) (At i) (stands-there new.prices side (orders new) i inside-new))
      ∙ ap (filter (is_on_level side (At i))) side-left
      ∙ filter-append (is_on_level side (At i)) (level_of side (At i) (orders b)) back
      ∙ ap (λ xs. filter (is_on_level side (At i)) (level_of side (At i) (orders b)) ++ xs) (filter-none (is_on_level side (At i)) back none)
      ∙ append-nil (filter (is_on_level side (At i)) (level_of side (At i) (orders b)))
      ∙ filter-all (is_on_level side (At i)) (level_of side (At i) (orders b)) (filter-passes (is_on_level side (At i)) (orders b))
    where
      and-none : (x y : Bool) → y ≡ false → (x && y) ≡ false
      and-none true y e = e
      and-none false y e = refl

  -- and nothing is in front of it
  pub none-ahead : 0 ≡ total_left (is_ahead side i) (orders new)
  none-ahead =
      let there = stands-at b.prices side (orders b) i inside in
      let level : AllByRecursion (λ o. is_ahead side i o ≡ false) (level_of side (At i) (orders b)) = level-not side (orders b) in
      let behind : AllByRecursion (λ o. is_ahead side i o ≡ false) back =
      weaken (λ o. (is_beyond side i o.spot ≡ false) × (is_same_spot (At i) o.spot ≡ false)) (λ o. is_ahead side i o ≡ false) (λ o e. and-none (is_same_side side o.side) (is_beyond side i o.spot) e.0) back there.back_not in
      let none : filter (is_ahead side i) (side_of new side) ≡ [] =
      ap (filter (is_ahead side i)) side-left ∙ filter-none (is_ahead side i) (level_of side (At i) (orders b) ++ back) (all-append (λ o. is_ahead side i o ≡ false) (level_of side (At i) (orders b)) back level behind) in
      sym quantity-none ∙ ap total (sym none) ∙ total-filter (is_ahead side i) (side_of new side)
      ∙ total-passing (is_ahead side i) new.prices side (orders new) (orders-below new after) (λ o e. and-left (is_same_side side o.side) (is_beyond side i o.spot) e)
    where
      and-none : (x y : Bool) → y ≡ false → (x && y) ≡ false
      and-none true y e = e
      and-none false y e = refl

      not-beyond : (s : Side) (t : Spot) → is_same_spot (At i) t ≡ true → is_beyond s i t ≡ false
      not-beyond s Market e = absurd (cc)
      not-beyond Buy (At j) e = grind (arith, nat_tests, e)
      not-beyond Sell (At j) e = grind (arith, nat_tests, e)

      and-second : (x y : Bool) → (x && y) ≡ true → y ≡ true
      and-second true y e = e
      and-second false y e = absurd (cc)

      level-not : (s : Side) (xs : List Order) → AllByRecursion (λ o. is_ahead s i o ≡ false) (level_of s (At i) xs)
      level-not s xs =
          weaken (λ o. is_on_level s (At i) o ≡ true) (λ o. is_ahead s i o ≡ false)
          (λ o e. and-none (is_same_side s o.side) (is_beyond s i o.spot) (not-beyond s o.spot (and-second (is_same_side s o.side) (is_same_spot (At i) o.spot) e))) (level_of s (At i) xs) (filter-passes (is_on_level s (At i)) xs)

-- ---- the shares of an allotment

module _ (rounds : List Round) (unit given : ℕ) (os : List Order) (places : AreByPlace os) (participants : AllByRecursion (λ o. o.participant.0 < 64) os) (are : AreRounds rounds) (units : AllByRecursion (λ o. o.left % unit ≡ 0) os)
    (in_units : given % unit ≡ 0) (most : given ≤ total os) where
  abbrev pub allotted : List Demand
  allotted = allot rounds unit (demands_of os) given

  can : CanShare unit given (demands_of os)
  can = can-share os unit given places participants units in_units most

  -- they are what the orders fill in turn
  pub given-fills : own_shares (shares_by_number allotted) os ≡ shared_fills os allotted
  given-fills = shares-fill os allotted places participants (λ q. allot-once rounds unit given (demands_of os) can.unshared q (can.once q))

  -- and no more than was given
  pub given-within : quantity (own_shares (shares_by_number allotted) os) ≤ given
  given-within =
      shares-within os allotted given participants (allot-participants rounds unit given (demands_of os) can.unshared can.participants)
      (let all = shares_add_up rounds unit (demands_of os) given can.unshared (last-round rounds are) can.within in omega (arith, all))

-- ---- an auction by rounds

-- what a side fills where it is longer or not, of the orders that are better and those at the price
abbrev filling_of : List Round → ℕ → List Order → List Order → Bool → ℕ → Filling
filling_of rounds unit better at longer v =
    let shares : Filling = sharing Rounds longer rounds unit (v - quantity (whole better)) at in
    record { shares = shares.shares; fills = filled (whole better ++ shares.fills) }

abbrev settlement_of : ℕ → Filling → Filling → Settlement
settlement_of p bought sold = record { shares = bought.shares ++ sold.shares; trades = pair p bought.fills sold.fills }

-- one side's filling and the other's
abbrev sided : Side → ℕ → Filling → Filling → Settlement
sided Buy p own other = settlement_of p own other
sided Sell p own other = settlement_of p other own

module _ (b : BookView) (stands : IsBookView b) (grid : List Price) (of : IsGridOf b grid) (i : ℕ) (inside : i < length grid) (side : Side) (met : meets grid (orders b) (price_at grid i) ≡ true)
    (longer : is_longer grid (orders b) (price_at grid i) side ≡ true) (rounds : List Round) (unit : ℕ) where
  abbrev pr : ℕ
  pr = price_at grid i

  abbrev all : List Order
  all = orders b

  abbrev a : ℕ
  a = total_left (is_ahead side i) all

  abbrev level : List Order
  level = sharing_of b side i false

  abbrev ahead : List Order
  ahead = in_front a (side_of b side)

  module _ (f : ℕ) (volume : f ≡ volume_at grid all pr) where
    abbrev shares : List Demand
    shares = allot rounds unit (demands_of level) (f - a)

    ahead-quantity : quantity (whole ahead) ≡ a
    ahead-quantity = front-whole b stands side i (subst (λ n. i < n) of.size inside)

    own-filling : side_filling grid all pr Rounds rounds unit side ≡ record { shares = shares; fills = filled (whole ahead ++ shared_fills level shares) }
    own-filling =
        let better = filter (is_better_than grid pr side) (in_priority (length grid) side all) in
        let at = filter (is_at_price grid pr side) (in_priority (length grid) side all) in
        let v = volume_at grid all pr in
        ap (λ xs. filling_of rounds unit xs at (is_longer grid all pr side) v) (better-front b stands grid of i inside side)
        ∙ ap (λ xs. filling_of rounds unit ahead xs (is_longer grid all pr side) v) (at-level b stands grid of i inside side)
        ∙ ap (λ c. filling_of rounds unit ahead level c v) longer
        ∙ ap (λ n. record { shares = allot rounds unit (demands_of level) n; fills = filled (whole ahead ++ shared_fills level (allot rounds unit (demands_of level) n)) })
        (let e = ahead-quantity in let left : v - quantity (whole ahead) ≡ f - a = omega (arith, volume, e) in left)

    spots-all : All (λ o. IsSpotBelow (length grid) o.spot) all
    spots-all = subst (λ n. All (λ o. IsSpotBelow n o.spot) all) (sym of.size) (orders-below b stands)

    other-filling : side_filling grid all pr Rounds rounds unit (opposite side) ≡ record { shares = []; fills = filled (from_front f (whole (side_of b (opposite side)))) }
    other-filling = by side longer
      where
        not-longer : (t : Side) → is_longer grid all pr t ≡ true → is_longer grid all pr (opposite t) ≡ false
        not-longer Buy e = grind (arith, nat_tests, e)
        not-longer Sell e = grind (arith, nat_tests, e)

        time-of : (t : Side) → is_longer grid all pr t ≡ true → side_filling grid all pr Rounds rounds unit (opposite t) ≡ side_filling grid all pr Time rounds unit (opposite t)
        time-of t e =
            ap (λ c. filling_of rounds unit (filter (is_better_than grid pr (opposite t)) (in_priority (length grid) (opposite t) all)) (filter (is_at_price grid pr (opposite t)) (in_priority (length grid) (opposite t) all)) c (volume_at grid all pr))
            (not-longer t e)

        ranked : (t : Side) → filled (from_front (volume_at grid all pr) (whole (in_priority (length grid) t all))) ≡ filled (from_front f (whole (side_of b t)))
        ranked t = ap (λ n. filled (from_front n (whole (in_priority (length grid) t all)))) (sym volume) ∙ ap (λ n. filled (from_front f (whole (in_priority n t all)))) of.size

        by : (t : Side) → is_longer grid all pr t ≡ true → side_filling grid all pr Rounds rounds unit (opposite t) ≡ record { shares = []; fills = filled (from_front f (whole (side_of b (opposite t)))) }
        by Buy e =
            let m = meets-tells grid all pr met in
            time-of Buy e ∙ ap (λ fs. record { shares = []; fills = fs }) (sells-by_time grid all pr (volume_at grid all pr) of.rising (orders-rising b stands) spots-all (omega (arith, m.3, below-le-sells grid all pr)) (omega arith) ∙ ranked Sell)
        by Sell e =
            let m = meets-tells grid all pr met in
            time-of Sell e ∙ ap (λ fs. record { shares = []; fills = fs }) (buys-by_time grid all pr (volume_at grid all pr) of.rising (orders-rising b stands) spots-all (omega (arith, m.2, above-le-buys grid all pr)) (omega arith) ∙ ranked Buy)

    abbrev facing : List Order
    facing = side_of b (opposite side)

    -- the shares and the trades of the auction
    pub rounds-settled : quantity (whole ahead ++ shared_fills level shares) ≤ f
        → auction_fills grid all pr Rounds rounds unit ≡ record { shares = shares; trades = pair_side pr side (whole ahead ++ shared_fills level shares) (whole facing) }
    rounds-settled most =
        as-sided side
        ∙ ap (λ x. sided side pr x (side_filling grid all pr Rounds rounds unit (opposite side))) own-filling
        ∙ ap (sided side pr (record { shares = shares; fills = filled (whole ahead ++ shared_fills level shares) })) other-filling
        ∙ both side
        ∙ ap (λ ts. record { shares = shares; trades = ts })
        (side-both pr side (whole ahead ++ shared_fills level shares) (from_front f (whole facing)) ∙ side-limited pr f side (whole ahead ++ shared_fills level shares) (whole facing) most)
      where
        as-sided : (t : Side) → auction_fills grid all pr Rounds rounds unit ≡ sided t pr (side_filling grid all pr Rounds rounds unit t) (side_filling grid all pr Rounds rounds unit (opposite t))
        as-sided Buy = refl
        as-sided Sell = refl

        both : (t : Side) → sided t pr (record { shares = shares; fills = filled (whole ahead ++ shared_fills level shares) }) (record { shares = []; fills = filled (from_front f (whole facing)) })
            ≡ record { shares = shares; trades = pair_side pr t (filled (whole ahead ++ shared_fills level shares)) (filled (from_front f (whole facing))) }
        both Buy = ap (λ xs. record { shares = xs; trades = pair pr (filled (whole ahead ++ shared_fills level shares)) (filled (from_front f (whole facing))) }) (append-nil shares)
        both Sell = refl

-- the same with the front as a number that a call told
pub rounds-settled-as : (b : BookView) (stands : IsBookView b) (grid : List Price) (of : IsGridOf b grid) (i : ℕ) (inside : i < length grid) (side : Side) (met : meets grid (orders b) (price_at grid i) ≡ true)
    (longer : is_longer grid (orders b) (price_at grid i) side ≡ true) (rounds : List Round) (unit f : ℕ) (volume : f ≡ volume_at grid (orders b) (price_at grid i)) (a : ℕ) → a ≡ total_left (is_ahead side i) (orders b)
    → quantity (whole (in_front a (side_of b side)) ++ shared_fills (sharing_of b side i false) (allot rounds unit (demands_of (sharing_of b side i false)) (f - a))) ≤ f
    → auction_fills grid (orders b) (price_at grid i) Rounds rounds unit
    ≡ record {
      shares = allot rounds unit (demands_of (sharing_of b side i false)) (f - a);
      trades = pair_side (price_at grid i) side (whole (in_front a (side_of b side)) ++ shared_fills (sharing_of b side i false) (allot rounds unit (demands_of (sharing_of b side i false)) (f - a))) (whole (side_of b (opposite side)));
    }
rounds-settled-as b stands grid of i inside side met longer rounds unit f volume a is =
    subst (λ (n : ℕ). quantity (whole (in_front n (side_of b side)) ++ shared_fills (sharing_of b side i false) (allot rounds unit (demands_of (sharing_of b side i false)) (f - n))) ≤ f
    → auction_fills grid (orders b) (price_at grid i) Rounds rounds unit
    ≡ record {
      shares = allot rounds unit (demands_of (sharing_of b side i false)) (f - n);
      trades = pair_side (price_at grid i) side (whole (in_front n (side_of b side)) ++ shared_fills (sharing_of b side i false) (allot rounds unit (demands_of (sharing_of b side i false)) (f - n))) (whole (side_of b (opposite side)));
    }) (sym is) (rounds-settled b stands grid of i inside side met longer rounds unit f volume)

-- by rounds with no longer side is by time
pub rounds-even : (grid : List Price) (os : List Order) (p : ℕ) (rounds : List Round) (unit : ℕ) → is_longer grid os p Buy ≡ false → is_longer grid os p Sell ≡ false
    → auction_fills grid os p Time rounds unit ≡ auction_fills grid os p Rounds rounds unit
rounds-even grid os p rounds unit e f =
    let bought = λ (c : Bool). filling_of rounds unit (filter (is_better_than grid p Buy) (in_priority (length grid) Buy os)) (filter (is_at_price grid p Buy) (in_priority (length grid) Buy os)) c (volume_at grid os p) in
    let sold = λ (c : Bool). filling_of rounds unit (filter (is_better_than grid p Sell) (in_priority (length grid) Sell os)) (filter (is_at_price grid p Sell) (in_priority (length grid) Sell os)) c (volume_at grid os p) in
    ap (λ c. settlement_of p (bought c) (sold false)) (sym e) ∙ ap (λ c. settlement_of p (bought (is_longer grid os p Buy)) (sold c)) (sym f)

-- ---- an allotted close

limit-inside : (grid : List Price) (side : Side) → 0 < length grid → limit_position grid side < length grid
limit-inside grid Buy some = omega (arith, some)
limit-inside grid Sell some = some

module _ (b : BookView) (stands : IsBookView b) (grid : List Price) (of : IsGridOf b grid) (some : 0 < length grid) (side : Side) where
  abbrev lim : ℕ
  lim = limit_position grid side

  abbrev at-limit : ℕ
  at-limit = price_at grid lim

  spots-there : AllByRecursion (λ o. IsSpotBelow (length grid) o.spot) (orders b)
  spots-there = recursion_from_All (λ o. IsSpotBelow (length grid) o.spot) (orders b) (subst (λ n. All (λ o. IsSpotBelow n o.spot) (orders b)) (sym of.size) (orders-below b stands))

  num-last : (n j : ℕ) → j < n → leb (n - 1) j ≡ eqb (n - 1) j
  num-last n j h = by (eqb (n - 1) j) refl
    where
      by : (c : Bool) → eqb (n - 1) j ≡ c → leb (n - 1) j ≡ c
      by true e = grind (arith, nat_tests, e)
      by false e = grind (arith, nat_tests, e, h)

  num-first : (j : ℕ) → leb j 0 ≡ eqb 0 j
  num-first j = by (eqb 0 j) refl
    where
      by : (c : Bool) → eqb 0 j ≡ c → leb j 0 ≡ c
      by true e = grind (arith, nat_tests, e)
      by false e = grind (arith, nat_tests, e)

  and-parts : (x y : Bool) → (x && y) ≡ ((x && y) || (x && false))
  and-parts true true = refl
  and-parts true false = refl
  and-parts false y = refl

  and-other : (x : Bool) → (x && true) ≡ ((x && false) || (x && true))
  and-other true = refl
  and-other false = refl

  share-buy : (t : Side) (s : Spot) → IsSpotBelow (length grid) s → (is_buy t && is_market_or (λ limit. leb (price_at grid (length grid - 1)) limit) (limit_of grid s))
      ≡ ((is_buy t && is_same_spot (At (length grid - 1)) s) || (is_buy t && is_same_spot Market s))
  share-buy t Market h = and-other (is_buy t)
  share-buy t (At j) h =
      ap (λ c. is_buy t && c) (leb-price grid of.rising (length grid - 1) j (limit-inside grid Buy some) h ∙ num-last (length grid) j h) ∙ and-parts (is_buy t) (eqb (length grid - 1) j)

  share-sell : (t : Side) (s : Spot) → IsSpotBelow (length grid) s → (not (is_buy t) && is_market_or (λ limit. leb limit (price_at grid 0)) (limit_of grid s))
      ≡ ((not (is_buy t) && is_same_spot (At 0) s) || (not (is_buy t) && is_same_spot Market s))
  share-sell t Market h = and-other (not (is_buy t))
  share-sell t (At j) h = ap (λ c. not (is_buy t) && c) (leb-price grid of.rising j 0 h some ∙ num-first j) ∙ and-parts (not (is_buy t)) (eqb 0 j)

  share-is : (t : Side) (o : Order) → IsSpotBelow (length grid) o.spot → is_at_or_better grid (price_at grid (limit_position grid t)) t o ≡ is_sharing t (limit_position grid t) true o
  share-is Buy o h = share-buy o.side o.spot h
  share-is Sell o h = share-sell o.side o.spot h

  -- at the limit all that are at it or better share
  pub asking-is : filter (is_at_or_better grid at-limit side) (orders b) ≡ sharing_of b side lim true
  asking-is =
      filter-alike (is_at_or_better grid at-limit side) (is_sharing side lim true) (orders b)
      (weaken (λ o. IsSpotBelow (length grid) o.spot) (λ o. is_at_or_better grid at-limit side o ≡ is_sharing side lim true o) (λ o h. share-is side o h) (orders b) spots-there)

  -- and the whole other side faces them
  face-buy : (t : Side) (s : Spot) → IsSpotBelow (length grid) s → (not (is_buy t) && is_market_or (λ limit. leb limit (price_at grid (length grid - 1))) (limit_of grid s)) ≡ not (is_buy t)
  face-buy t Market h = last (not (is_buy t))
    where
      last : (x : Bool) → (x && true) ≡ x
      last true = refl
      last false = refl
  face-buy t (At j) h =
      let all-below : leb j (length grid - 1) ≡ true = grind (arith, nat_tests, h) in
      ap (λ c. not (is_buy t) && c) (leb-price grid of.rising j (length grid - 1) h (limit-inside grid Buy some) ∙ all-below) ∙ last (not (is_buy t))
    where
      last : (x : Bool) → (x && true) ≡ x
      last true = refl
      last false = refl

  face-sell : (t : Side) (s : Spot) → IsSpotBelow (length grid) s → (is_buy t && is_market_or (λ limit. leb (price_at grid 0) limit) (limit_of grid s)) ≡ is_buy t
  face-sell t Market h = last (is_buy t)
    where
      last : (x : Bool) → (x && true) ≡ x
      last true = refl
      last false = refl
  face-sell t (At j) h =
      let all-above : leb 0 j ≡ true = grind (arith, nat_tests) in
      ap (λ c. is_buy t && c) (leb-price grid of.rising 0 j some h ∙ all-above) ∙ last (is_buy t)
    where
      last : (x : Bool) → (x && true) ≡ x
      last true = refl
      last false = refl

  face-is : (t : Side) (o : Order) → IsSpotBelow (length grid) o.spot → is_at_or_better grid (price_at grid (limit_position grid t)) (opposite t) o ≡ is_same_side (opposite t) o.side
  face-is Buy o h = face-buy o.side o.spot h
  face-is Sell o h = face-sell o.side o.spot h

  pub facing-total : total_left (is_at_or_better grid at-limit (opposite side)) (orders b) ≡ total (in_priority (length grid) (opposite side) (orders b))
  facing-total =
      total_left-alike (is_at_or_better grid at-limit (opposite side)) (λ o. is_same_side (opposite side) o.side) (orders b)
      (weaken (λ o. IsSpotBelow (length grid) o.spot) (λ o. is_at_or_better grid at-limit (opposite side) o ≡ is_same_side (opposite side) o.side) (λ o h. face-is side o h) (orders b) spots-there)
      ∙ sym (quantity-side (length grid) (opposite side) (orders b) (subst (λ n. All (λ o. IsSpotBelow n o.spot) (orders b)) (sym of.size) (orders-below b stands)))

  -- the shares and the trades of the close
  pub close-settled : (rounds : List Round) (unit f : ℕ) → f ≡ total_left (is_at_or_better grid at-limit (opposite side)) (orders b)
      → allotted_fills grid (orders b) side rounds unit
      ≡ record { shares = allot rounds unit (demands_of (sharing_of b side lim true)) f; trades = pair_side at-limit side (shared_fills (sharing_of b side lim true) (allot rounds unit (demands_of (sharing_of b side lim true)) f)) (whole (side_of b (opposite side))) }
  close-settled rounds unit f e =
      let close = λ (asking : List Order) (n : ℕ) (facing : List Order).
      (let x : Settlement = record { shares = allot rounds unit (demands_of asking) n; trades = pair_side at-limit side (filled (shared_fills asking (allot rounds unit (demands_of asking) n))) (whole facing) } in x) in
      ap (λ xs. close xs (total (in_priority (length grid) (opposite side) (orders b))) (in_priority (length grid) (opposite side) (orders b))) asking-is
      ∙ ap (λ n. close (sharing_of b side lim true) n (in_priority (length grid) (opposite side) (orders b))) (sym (e ∙ facing-total))
      ∙ ap (λ n. close (sharing_of b side lim true) f (in_priority n (opposite side) (orders b))) of.size
      ∙ ap (λ ts. record { shares = allot rounds unit (demands_of (sharing_of b side lim true)) f; trades = ts })
      (side-filled at-limit side (shared_fills (sharing_of b side lim true) (allot rounds unit (demands_of (sharing_of b side lim true)) f)) (whole (side_of b (opposite side))))

-- the limit as a position that a call told
pub limit-there : (grid : List Price) (side : Side) (i : ℕ) → 0 < length grid → i ≡ limit_position grid side → i < length grid
limit-there grid side i some e = omega (arith, e, limit-inside grid side some)

pub asking-total : (b : BookView) (stands : IsBookView b) (grid : List Price) (of : IsGridOf b grid) (some : 0 < length grid) (side : Side) (i : ℕ) → i ≡ limit_position grid side → (w : ℕ) → w ≡ total_left (is_at_or_better grid (price_at grid i) side) (orders b)
    → w ≡ total (sharing_of b side i true)
asking-total b stands grid of some side i e w is =
    is ∙ ap (λ n. total_left (is_at_or_better grid (price_at grid n) side) (orders b)) e
    ∙ sym (total-filter (is_at_or_better grid (price_at grid (limit_position grid side)) side) (orders b)) ∙ ap total (asking-is b stands grid of some side) ∙ ap (λ n. total (sharing_of b side n true)) (sym e)

pub close-settled-at : (b : BookView) (stands : IsBookView b) (grid : List Price) (of : IsGridOf b grid) (some : 0 < length grid) (side : Side) (i : ℕ) → i ≡ limit_position grid side → (rounds : List Round) (unit f : ℕ)
    → f ≡ total_left (is_at_or_better grid (price_at grid i) (opposite side)) (orders b)
    → allotted_fills grid (orders b) side rounds unit
    ≡ record { shares = allot rounds unit (demands_of (sharing_of b side i true)) f; trades = pair_side (price_at grid i) side (shared_fills (sharing_of b side i true) (allot rounds unit (demands_of (sharing_of b side i true)) f)) (whole (side_of b (opposite side))) }
close-settled-at b stands grid of some side i e rounds unit f is =
    subst (λ (n : ℕ). f ≡ total_left (is_at_or_better grid (price_at grid n) (opposite side)) (orders b)
    → allotted_fills grid (orders b) side rounds unit
    ≡ record { shares = allot rounds unit (demands_of (sharing_of b side n true)) f; trades = pair_side (price_at grid n) side (shared_fills (sharing_of b side n true) (allot rounds unit (demands_of (sharing_of b side n true)) f)) (whole (side_of b (opposite side))) })
    (sym e) (close-settled b stands grid of some side rounds unit f) is

-- ---- what the calls do

-- what shares orders that share fill, and that they are no more than was given
module _ (b : BookView) (stands : IsBookView b) (side : Side) (at : ℕ) (m : Bool) (participants : All (λ o. o.participant.0 < 64) (orders b)) (unit : ℕ) (units : All (λ o. o.left % unit ≡ 0) (orders b)) (rounds : List Round) (are : AreRounds rounds)
    (given : ℕ) (in_units : given % unit ≡ 0) (most : given ≤ total (sharing_of b side at m)) where
  some-participants : AllByRecursion (λ o. o.participant.0 < 64) (sharing_of b side at m)
  some-participants = filter-keeps (λ o. o.participant.0 < 64) (is_sharing side at m) (orders b) (recursion_from_All (λ o. o.participant.0 < 64) (orders b) participants)

  some-units : AllByRecursion (λ o. o.left % unit ≡ 0) (sharing_of b side at m)
  some-units = filter-keeps (λ o. o.left % unit ≡ 0) (is_sharing side at m) (orders b) (recursion_from_All (λ o. o.left % unit ≡ 0) (orders b) units)

  pub sharing-fills : own_shares (shares_by_number (allot rounds unit (demands_of (sharing_of b side at m)) given)) (sharing_of b side at m)
      ≡ shared_fills (sharing_of b side at m) (allot rounds unit (demands_of (sharing_of b side at m)) given)
  sharing-fills = given-fills rounds unit given (sharing_of b side at m) (sharing-by_place b stands side at m) some-participants are some-units in_units most

  pub sharing-within : quantity (own_shares (shares_by_number (allot rounds unit (demands_of (sharing_of b side at m)) given)) (sharing_of b side at m)) ≤ given
  sharing-within = given-within rounds unit given (sharing_of b side at m) (sharing-by_place b stands side at m) some-participants are some-units in_units most

-- shares that were told, and fills that are all done, settle
module _ {W : Type 0} (took : W → List Output → W → Type 0) (p : ℕ) (side : Side) (fs : List Fill) (shares : List Demand) (b last : BookView) (from middle to : W) (s : AreFilled took p side fs [] b last middle to)
    (t : Settlement) (is : t ≡ record { shares = shares; trades = pair_side p side fs (whole (side_of b (opposite side))) }) where
  trades-are : t.trades ≡ s.done
  trades-are = ap (λ x. x.trades) is ∙ sym (all-traded took p side fs b last middle to s)

  pub settled-orders : orders last ≡ after_trades t.trades (orders b)
  settled-orders = s.book ∙ ap (λ ts. after_trades ts (orders b)) (sym trades-are)

  pub settled-outputs : ((start : W) (outputs : List Output) → took start outputs from → took start (outputs ++ share_outputs shares) middle)
      → (start : W) (outputs : List Output) → took start outputs from → took start (outputs ++ settlement_outputs t) to
  settled-outputs told start outputs h =
      let one = s.told start (outputs ++ share_outputs shares) (told start outputs h) in
      let same : settlement_outputs t ≡ share_outputs shares ++ trade_outputs s.done = ap (λ xs. share_outputs xs ++ trade_outputs t.trades) (ap (λ x. x.shares) is) ∙ ap (λ ts. share_outputs shares ++ trade_outputs ts) trades-are in
      subst (λ xs. took start xs to) (append_assoc outputs (share_outputs shares) (trade_outputs s.done) ∙ ap (λ xs. outputs ++ xs) (sym same)) one

-- the front filled, and then the level
pub front-and-level : {W : Type 0} (took : W → List Output → W → Type 0) (p q : ℕ) (side : Side) (fs gs hs : List Fill) (b mid last : BookView) (w1 w2 w3 : W) → p ≡ q → gs ≡ hs
    → AreFilled took p side fs [] b mid w1 w2 → AreFilled took p side gs [] mid last w2 w3 → AreFilled took q side (fs ++ hs) [] b last w1 w3
front-and-level took p q side fs gs hs b mid last w1 w2 w3 price same s t =
    subst (λ n. AreFilled took n side (fs ++ hs) [] b last w1 w3) price
    (subst (λ xs. AreFilled took p side (fs ++ xs) [] b last w1 w3) same
    (filled-more took p side (fs ++ gs) gs [] b mid last w1 w2 w3 (filled-behind took p side fs [] gs b mid w1 w2 s) t))

-- there are two margins
pub time-is : (m : Margin) → (m ≡ Rounds → ⊥) → m ≡ Time
time-is Time h = refl
time-is Rounds h = absurd (h refl)

-- where the sums are even no side is longer
pub not-longer : (grid : List Price) (os : List Order) (p : ℕ) → buys grid os p ≤ sells grid os p → sells grid os p ≤ buys grid os p → (is_longer grid os p Buy ≡ false) × (is_longer grid os p Sell ≡ false)
not-longer grid os p h k = (grind (arith, nat_tests, h, k), grind (arith, nat_tests, h, k))
