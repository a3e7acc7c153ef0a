-- What the best orders of both sides say of a book: whether it is calm, and its best limits.
use Rattle.std.proofs.Common.{◌≡◌, ℕ, ◌<◌, ◌≤◌, Bool, true, false, cond, not, ltb, ◌&&◌, List, [], ◌∷◌, length, filter, Option, Some, None, option_map, is_some, max, min, ◌⊎◌, All, IfSome, inl, inr, refl, sym, ap, subst, ◌∙◌, arith, ltb-false}
use Rattle.std.specs.List.{AllByRecursion, slice_get}
use Rattle.std.proofs.lemmas.Bool.{eqb-true}
use Rattle.std.proofs.lemmas.Bool.Decides.{nat_tests}
use Rattle.std.proofs.lemmas.List.Elements.{recursion_from_All}
use Rattle.mkt_base.specs.Book.{is_buy, is_buy_above, is_market_or, is_sell_below, limit_of, price_at, total_left}
use Rattle.mkt_base.specs.Priority.{in_priority, is_on_level, is_same_side, is_same_spot}
use Rattle.mkt_base.specs.declared.auction.Outcome.TheVariants as outcomes
use Rattle.mkt_base.specs.declared.order.Order.{Order}
use Rattle.mkt_base.specs.declared.order.Side.{Side}
use Rattle.mkt_base.specs.declared.order.Side.TheVariants.{Buy, Sell}
use Rattle.mkt_base.specs.declared.order.Spot.{Spot}
use Rattle.mkt_base.specs.declared.order.Spot.TheVariants.{Market, At}
use Rattle.mkt_base.specs.declared.units.Price.{Price}
use Rattle.auction_law.specs.Attempt.{all_limited, best_ask, best_bid, crosses, greatest, higher, is_calm, least, limits, lower}
use Rattle.auction_law.proofs.CalmBookLemmas.{and-left, and-right, and-true, limits-from, limits-of, list_all-at, list_all-false}
use Rattle.auction_law.proofs.CalmLemmas.{calm-by_best, number-of_price}
use Rattle.auction_law.proofs.NearnessLemmas.{Contains-from_IsIn, IsIn}
use Rattle.auction_law.proofs.SumsLemmas.{total_left-pos, total_left-some}
use Rattle.book_law.specs.BookView.{BookView, IsBookView, IsGridOf, IsSpotBelow, orders, side_of}
use Rattle.book_law.specs.Sides.{total}
use Rattle.book_law.proofs.AheadLemmas.{Ahead, buy_above-respects, in_priority-side, sell_below-respects, side-ahead}
use Rattle.book_law.proofs.FrontLemmas.{in_priority-all, orders-below, orders-left, orders-rising}
use Rattle.book_law.proofs.Pairs.{Pairs}
use Rattle.book_law.proofs.TakenLemmas.{total-filter, total-passing}
use Rattle.book_law.proofs.TimeLemmas.{none-behind, total-none}
use Rattle.itayose.specs.Answer.{IsCalmAnswer, best_spot, position_of, price_there}
use Rattle.itayose.specs.declared.positions.Attempt.TheVariants.{Calm}

-- a test that cannot pass fails
pub fails : (b : Bool) → (b ≡ true → ⊥) → b ≡ false
fails true passes_not = absurd (passes_not refl)
fails false passes_not = refl

-- none of some numbers exceeds p, and p is one of them: p is the greatest
greatest-most : (xs : List ℕ) (p : ℕ) → ((q : ℕ) → IsIn q xs → q ≤ p) → (m : ℕ) → greatest xs ≡ Some m → m ≤ p
unfolding IsIn
greatest-most [] p most m e = absurd (cc)
greatest-most (x ∷ xs) p most m e = at (greatest xs) refl e (greatest-most xs p (λ q j. most q (inr j)))
  where
    at : (o : Option ℕ) → greatest xs ≡ o → higher (Some x) o ≡ Some m → ((k : ℕ) → greatest xs ≡ Some k → k ≤ p) → m ≤ p
    at None f g h = let w : x ≡ m = cc in omega (arith, most x (inl refl))
    at (Some k) f g h = let w : max x k ≡ m = cc in omega (arith, most x (inl refl), h k f)

-- one of them is no more than the greatest
greatest-least : (xs : List ℕ) (p : ℕ) → IsIn p xs → (m : ℕ) × (greatest xs ≡ Some m) × (p ≤ m)
unfolding IsIn
greatest-least [] p i = absurd i
greatest-least (x ∷ xs) p i = at (greatest xs) refl i (greatest-least xs p)
  where
    at : (o : Option ℕ) → greatest xs ≡ o → (p ≡ x) ⊎ IsIn p xs → (IsIn p xs → (m : ℕ) × (greatest xs ≡ Some m) × (p ≤ m)) → (m : ℕ) × (higher (Some x) o ≡ Some m) × (p ≤ m)
    at None f j h = (x, refl, elim j [ inl e ↦ omega (arith, e) | inr k ↦ let w = h k in absurd (let u = w.1 in cc) ])
    at (Some n) f j h = (max x n, refl, elim j [ inl e ↦ omega (arith, e) | inr k ↦ let w = h k in let u : n ≡ w.0 = (let v = w.1 in cc) in omega (arith, w.2, u) ])

-- so it is the greatest itself
greatest-is : (xs : List ℕ) (p : ℕ) → IsIn p xs → ((q : ℕ) → IsIn q xs → q ≤ p) → greatest xs ≡ Some p
greatest-is xs p i most =
    let w = greatest-least xs p i in
    let same : w.0 ≡ p = omega (arith, w.2, greatest-most xs p most w.0 w.1) in
    w.1 ∙ ap Some same

-- and so for the least
least-most : (xs : List ℕ) (p : ℕ) → ((q : ℕ) → IsIn q xs → p ≤ q) → (m : ℕ) → least xs ≡ Some m → p ≤ m
unfolding IsIn
least-most [] p most m e = absurd (cc)
least-most (x ∷ xs) p most m e = at (least xs) refl e (least-most xs p (λ q j. most q (inr j)))
  where
    at : (o : Option ℕ) → least xs ≡ o → lower (Some x) o ≡ Some m → ((k : ℕ) → least xs ≡ Some k → p ≤ k) → p ≤ m
    at None f g h = let w : x ≡ m = cc in omega (arith, most x (inl refl))
    at (Some k) f g h = let w : min x k ≡ m = cc in omega (arith, most x (inl refl), h k f)

-- one of them is no less than the least
least-least : (xs : List ℕ) (p : ℕ) → IsIn p xs → (m : ℕ) × (least xs ≡ Some m) × (m ≤ p)
unfolding IsIn
least-least [] p i = absurd i
least-least (x ∷ xs) p i = at (least xs) refl i (least-least xs p)
  where
    at : (o : Option ℕ) → least xs ≡ o → (p ≡ x) ⊎ IsIn p xs → (IsIn p xs → (m : ℕ) × (least xs ≡ Some m) × (m ≤ p)) → (m : ℕ) × (lower (Some x) o ≡ Some m) × (m ≤ p)
    at None f j h = (x, refl, elim j [ inl e ↦ omega (arith, e) | inr k ↦ let w = h k in absurd (let u = w.1 in cc) ])
    at (Some n) f j h = (min x n, refl, elim j [ inl e ↦ omega (arith, e) | inr k ↦ let w = h k in let u : n ≡ w.0 = (let v = w.1 in cc) in omega (arith, w.2, u) ])

-- so it is the least itself
least-is : (xs : List ℕ) (p : ℕ) → IsIn p xs → ((q : ℕ) → IsIn q xs → p ≤ q) → least xs ≡ Some p
least-is xs p i most =
    let w = least-least xs p i in
    let same : w.0 ≡ p = omega (arith, w.2, least-most xs p most w.0 w.1) in
    w.1 ∙ ap Some same

-- a list that nothing is in
nothing-in : (xs : List ℕ) → ((p : ℕ) → IsIn p xs → ⊥) → xs ≡ []
unfolding IsIn
nothing-in [] none = refl
nothing-in (x ∷ xs) none = absurd (none x (inl refl))

-- a spot that is the same as a position
at-position : (i : ℕ) (s : Spot) → is_same_spot (At i) s ≡ true → s ≡ At i
at-position i Market e = absurd (cc)
at-position i (At j) e = ap (λ n. At n) (sym (eqb-true i j e))

-- one that is the same as the market has no limit
at-market : (grid : List Price) (s : Spot) → is_same_spot Market s ≡ true → is_some (limit_of grid s) ≡ false
at-market grid Market e = refl
at-market grid (At i) e = absurd (cc)

-- a position is the same as itself
same-position : (i : ℕ) → is_same_spot (At i) (At i) ≡ true
same-position i = grind (arith, nat_tests)

-- an order that passes no test of market orders and of limits has a limit that fails it
pub limit-fails : (f : ℕ → Bool) (side : Bool) (limit : Option ℕ) → side ≡ true → (side && is_market_or f limit) ≡ false → (q : ℕ) × (limit ≡ Some q) × (f q ≡ false)
limit-fails f true None s e = absurd (cc)
limit-fails f true (Some q) s e = (q, refl, e)
limit-fails f false limit s e = absurd (cc)

-- a limit that is known
pub is-some : (limit : Option ℕ) (q : ℕ) → limit ≡ Some q → is_some limit ≡ true
is-some None q e = absurd (cc)
is-some (Some p) q e = refl

-- where each order has a limit, all have
pub all-limited : (grid : List Price) (os : List Order) → ((o : Order) → IsIn o os → is_some (limit_of grid o.spot) ≡ true) → true ≡ all_limited grid os
all-limited grid os limited = at (all_limited grid os) refl
  where
    at : (b : Bool) → all_limited grid os ≡ b → true ≡ b
    at true e = refl
    at false e = let w = list_all-false (λ o. is_some (limit_of grid o.spot)) os e in let u = limited w.0 w.1 in absurd (let v = w.2 in cc)

-- the best limit of a side is at this position, where there is one, and all its orders are limited
pub record IsBestBid (grid : List Price) (os : List Order) (found : Option ℕ) : Type 0 where
  pub limited : (o : Order) → IsIn o os → is_buy o.side ≡ true → is_some (limit_of grid o.spot) ≡ true
  pub best : greatest (limits grid true os) ≡ option_map (price_at grid) found
  pub inside : IfSome found (λ i. i < length grid)

pub record IsBestAsk (grid : List Price) (os : List Order) (found : Option ℕ) : Type 0 where
  pub limited : (o : Order) → IsIn o os → is_buy o.side ≡ false → is_some (limit_of grid o.spot) ≡ true
  pub best : least (limits grid false os) ≡ option_map (price_at grid) found
  pub inside : IfSome found (λ i. i < length grid)

-- between a test and its negation
pub not-of : (b : Bool) → b ≡ false → not b ≡ true
not-of true e = absurd (cc)
not-of false e = refl

-- and back
of-not : (b : Bool) → not b ≡ true → b ≡ false
of-not true e = absurd (cc)
of-not false e = refl

module _ (b : BookView) (stands : IsBookView b) (grid : List Price) (grid_of : IsGridOf b grid) where
  abbrev os : List Order
  os = orders b

  -- the orders stand on the grid of the book
  below : All (λ o. IsSpotBelow b.prices o.spot) os
  below = orders-below b stands

  -- each order of the book has something left
  left-in : (o : Order) → IsIn o os → 0 < o.left
  left-in o i = let w = Contains-from_IsIn o os i in subst (λ x. 0 < x.left) w.2 (orders-left b stands w.0 o w.1)

  -- what no order of a side passes in its priority, no order of the book passes
  none-of : (side : Side) (t : Order → Bool) → ((o : Order) → t o ≡ true → is_same_side side o.side ≡ true) → filter t (side_of b side) ≡ [] → (o : Order) → IsIn o os → t o ≡ false
  none-of side t own none o i = fails (t o) (λ e.
      let some : 0 < total_left t os = total_left-pos t os o i e (left-in o i) in
      let zero : total_left t os ≡ 0 = sym (total-passing t b.prices side os below own) ∙ sym (total-filter t (side_of b side)) ∙ ap total none ∙ total-none in
      omega arith)

  -- what the first order of a side passes, some order of the book passes
  some-of : (side : Side) (t : Order → Bool) → ((o : Order) → t o ≡ true → is_same_side side o.side ≡ true) → (x : Order) (xs : List Order) → side_of b side ≡ x ∷ xs → t x ≡ true
      → (o : Order) × (t o ≡ true) × IsIn o os
  unfolding IsIn
  some-of side t own x xs e passes =
      let left : AllByRecursion (λ o. 0 < o.left) (x ∷ xs) = subst (AllByRecursion (λ o. 0 < o.left)) e (in_priority-all (λ o. 0 < o.left) side os (recursion_from_All (λ o. 0 < o.left) os (orders-left b stands)) b.prices) in
      let some : 0 < total_left t (x ∷ xs) = total_left-pos t (x ∷ xs) x (inl refl) passes left.0 in
      let same : total_left t (x ∷ xs) ≡ total_left t os = ap (total_left t) (sym e) ∙ total-passing t b.prices side os below own in
      total_left-some t os (omega arith)

  -- the first order is of its side
  first-side : (side : Side) (x : Order) (xs : List Order) → side_of b side ≡ x ∷ xs → is_same_side side x.side ≡ true
  first-side side x xs e = let all : AllByRecursion (λ o. is_same_side side o.side ≡ true) (x ∷ xs) = subst (AllByRecursion (λ o. is_same_side side o.side ≡ true)) e (in_priority-side side os b.prices) in all.0

  -- it stands on the grid
  first-inside : (side : Side) (x : Order) (xs : List Order) (i : ℕ) → side_of b side ≡ x ∷ xs → x.spot ≡ At i → i < length grid
  first-inside side x xs i e s =
      let all : AllByRecursion (λ o. IsSpotBelow b.prices o.spot) (x ∷ xs) = subst (AllByRecursion (λ o. IsSpotBelow b.prices o.spot)) e (in_priority-all (λ o. IsSpotBelow b.prices o.spot) side os (recursion_from_All (λ o. IsSpotBelow b.prices o.spot) os below) b.prices) in
      let on : i < b.prices = subst (IsSpotBelow b.prices) s all.0 in
      omega (arith, on, grid_of.size)

  -- the side is ranked
  ranked : (side : Side) (x : Order) (xs : List Order) → side_of b side ≡ x ∷ xs → Pairs (Ahead grid side) (x ∷ xs)
  ranked side x xs e = subst (Pairs (Ahead grid side)) e (subst (λ n. Pairs (Ahead grid side) (in_priority n side os)) grid_of.size (side-ahead grid side os grid_of.rising (orders-rising b stands)))

  -- a market order first: the book is not calm
  pub market-first : (side : Side) (x : Order) (xs : List Order) → side_of b side ≡ x ∷ xs → x.spot ≡ Market → is_calm grid os ≡ false
  unfolding is_calm
  market-first side x xs e s =
      let there : is_same_spot Market x.spot ≡ true = ap (is_same_spot Market) s in
      let found = some-of side (is_on_level side Market) (λ o h. and-left (is_same_side side o.side) (is_same_spot Market o.spot) h) x xs e (and-true (is_same_side side x.side) (is_same_spot Market x.spot) (first-side side x xs e) there) in
      let none = at-market grid found.0.spot (and-right (is_same_side side found.0.side) (is_same_spot Market found.0.spot) found.1) in
      fails (is_calm grid os) (λ c.
      let some = list_all-at (λ o. is_some (limit_of grid o.spot)) os found.0 (and-left (all_limited grid os) _ c) found.2 in
      cc)

  -- no order on a side: no limit
  no-bid : side_of b Buy ≡ [] → IsBestBid grid os None
  no-bid e =
      let none = none-of Buy (λ o. is_buy o.side) (λ o h. h) (ap (filter (λ o. is_buy o.side)) e) in
      record {
        limited = λ o i h. let f = none o i in absurd (cc);
        best = ap greatest (nothing-in (limits grid true os) (λ p i. let w = limits-from grid true os p i in let f = none w.0 w.1 in absurd (let v = w.2 in cc)));
        inside = tt;
      }

  -- and so for the sells
  no-ask : side_of b Sell ≡ [] → IsBestAsk grid os None
  no-ask e =
      let none = none-of Sell (λ o. not (is_buy o.side)) (λ o h. h) (ap (filter (λ o. not (is_buy o.side))) e) in
      record {
        limited = λ o i h. let f = none o i in let g = not-of (is_buy o.side) h in absurd (cc);
        best = ap least (nothing-in (limits grid false os) (λ p i. let w = limits-from grid false os p i in let f = none w.0 w.1 in let g = not-of (is_buy w.0.side) w.2 in absurd (cc)));
        inside = tt;
      }

  -- the first buy's limit is the best
  first-bid : (x : Order) (xs : List Order) (i : ℕ) → side_of b Buy ≡ x ∷ xs → x.spot ≡ At i → IsBestBid grid os (Some i)
  first-bid x xs i e s =
      let p : ℕ = price_at grid i in
      let test : Bool = is_market_or (λ limit. ltb p limit) (limit_of grid x.spot) in
      let own : (o : Order) → is_buy_above grid p o ≡ true → is_buy o.side ≡ true = λ o h. and-left (is_buy o.side) (is_market_or (λ limit. ltb p limit) (limit_of grid o.spot)) h in
      let at : is_market_or (λ limit. ltb p limit) (limit_of grid x.spot) ≡ false = ap (λ t. is_market_or (λ limit. ltb p limit) (limit_of grid t)) s ∙ grind (arith, nat_tests) in
      let fail : is_buy_above grid p x ≡ false = fails (is_buy_above grid p x) (λ h. let r = and-right (is_buy x.side) (is_market_or (λ limit. ltb p limit) (limit_of grid x.spot)) h in cc) in
      let rest : filter (is_buy_above grid p) xs ≡ [] = none-behind (Ahead grid Buy) (is_buy_above grid p) (λ y z r h. buy_above-respects grid p y z r h) x xs (ranked Buy x xs e).0 fail in
      let none : filter (is_buy_above grid p) (side_of b Buy) ≡ [] = ap (filter (is_buy_above grid p)) e ∙ ap (λ c. cond c (x ∷ filter (is_buy_above grid p) xs) (filter (is_buy_above grid p) xs)) fail ∙ rest in
      let not_above = none-of Buy (is_buy_above grid p) own none in
      let there : is_same_spot (At i) x.spot ≡ true = ap (is_same_spot (At i)) s ∙ same-position i in
      let found = some-of Buy (is_on_level Buy (At i)) (λ o h. and-left (is_buy o.side) (is_same_spot (At i) o.spot) h) x xs e (and-true (is_buy x.side) (is_same_spot (At i) x.spot) (first-side Buy x xs e) there) in
      let spot : found.0.spot ≡ At i = at-position i found.0.spot (and-right (is_buy found.0.side) (is_same_spot (At i) found.0.spot) found.1) in
      let limit : limit_of grid found.0.spot ≡ Some p = ap (limit_of grid) spot in
      record {
        limited = λ o j h. let w = limit-fails (λ limit. ltb p limit) (is_buy o.side) (limit_of grid o.spot) h (not_above o j) in is-some (limit_of grid o.spot) w.0 w.1;
        best = greatest-is (limits grid true os) p (limits-of grid true os found.0 p found.2 (and-left (is_buy found.0.side) (is_same_spot (At i) found.0.spot) found.1) limit) (λ q j.
            let o = limits-from grid true os q j in
            let w = limit-fails (λ limit. ltb p limit) (is_buy o.0.side) (limit_of grid o.0.spot) o.2 (not_above o.0 o.1) in
            let same : w.0 ≡ q = (let u = w.1 in let v = o.3 in cc) in
            omega (arith, ltb-false _ _ w.2, same));
        inside = first-inside Buy x xs i e s;
      }

  -- the first sell's limit is the best
  first-ask : (x : Order) (xs : List Order) (i : ℕ) → side_of b Sell ≡ x ∷ xs → x.spot ≡ At i → IsBestAsk grid os (Some i)
  first-ask x xs i e s =
      let p : ℕ = price_at grid i in
      let own : (o : Order) → is_sell_below grid p o ≡ true → not (is_buy o.side) ≡ true = λ o h. and-left (not (is_buy o.side)) (is_market_or (λ limit. ltb limit p) (limit_of grid o.spot)) h in
      let at : is_market_or (λ limit. ltb limit p) (limit_of grid x.spot) ≡ false = ap (λ t. is_market_or (λ limit. ltb limit p) (limit_of grid t)) s ∙ grind (arith, nat_tests) in
      let fail : is_sell_below grid p x ≡ false = fails (is_sell_below grid p x) (λ h. let r = and-right (not (is_buy x.side)) (is_market_or (λ limit. ltb limit p) (limit_of grid x.spot)) h in cc) in
      let rest : filter (is_sell_below grid p) xs ≡ [] = none-behind (Ahead grid Sell) (is_sell_below grid p) (λ y z r h. sell_below-respects grid p y z r h) x xs (ranked Sell x xs e).0 fail in
      let none : filter (is_sell_below grid p) (side_of b Sell) ≡ [] = ap (filter (is_sell_below grid p)) e ∙ ap (λ c. cond c (x ∷ filter (is_sell_below grid p) xs) (filter (is_sell_below grid p) xs)) fail ∙ rest in
      let not_below = none-of Sell (is_sell_below grid p) own none in
      let there : is_same_spot (At i) x.spot ≡ true = ap (is_same_spot (At i)) s ∙ same-position i in
      let found = some-of Sell (is_on_level Sell (At i)) (λ o h. and-left (not (is_buy o.side)) (is_same_spot (At i) o.spot) h) x xs e (and-true (not (is_buy x.side)) (is_same_spot (At i) x.spot) (first-side Sell x xs e) there) in
      let spot : found.0.spot ≡ At i = at-position i found.0.spot (and-right (not (is_buy found.0.side)) (is_same_spot (At i) found.0.spot) found.1) in
      let limit : limit_of grid found.0.spot ≡ Some p = ap (limit_of grid) spot in
      record {
        limited = λ o j h. let w = limit-fails (λ limit. ltb limit p) (not (is_buy o.side)) (limit_of grid o.spot) (not-of (is_buy o.side) h) (not_below o j) in is-some (limit_of grid o.spot) w.0 w.1;
        best = least-is (limits grid false os) p (limits-of grid false os found.0 p found.2 (of-not (is_buy found.0.side) (and-left (not (is_buy found.0.side)) (is_same_spot (At i) found.0.spot) found.1)) limit) (λ q j.
            let o = limits-from grid false os q j in
            let w = limit-fails (λ limit. ltb limit p) (not (is_buy o.0.side)) (limit_of grid o.0.spot) (not-of (is_buy o.0.side) o.2) (not_below o.0 o.1) in
            let same : w.0 ≡ q = (let u = w.1 in let v = o.3 in cc) in
            omega (arith, ltb-false _ _ w.2, same));
        inside = first-inside Sell x xs i e s;
      }

  -- the best limits, where no side has a market order first
  pub bid-found : (found : Option Spot) → best_spot b Buy ≡ found → (found ≡ Some Market → ⊥) → IsBestBid grid os (position_of found)
  bid-found found e limited = at (side_of b Buy) refl
    where
      first : List Order → Option Spot
      first xs = option_map (λ o. o.spot) (slice_get xs 0)

      by : (x : Order) (xs : List Order) (s : Spot) → side_of b Buy ≡ x ∷ xs → x.spot ≡ s → IsBestBid grid os (position_of found)
      by x xs Market f s = absurd (limited (sym e ∙ ap first f ∙ ap Some s))
      by x xs (At i) f s = subst (λ o. IsBestBid grid os (position_of o)) (sym (ap first f ∙ ap Some s) ∙ e) (first-bid x xs i f s)

      at : (xs : List Order) → side_of b Buy ≡ xs → IsBestBid grid os (position_of found)
      at [] f = subst (λ o. IsBestBid grid os (position_of o)) (sym (ap first f) ∙ e) (no-bid f)
      at (x ∷ xs) f = by x xs x.spot f refl

  -- and so for the sells
  pub ask-found : (found : Option Spot) → best_spot b Sell ≡ found → (found ≡ Some Market → ⊥) → IsBestAsk grid os (position_of found)
  ask-found found e limited = at (side_of b Sell) refl
    where
      first : List Order → Option Spot
      first xs = option_map (λ o. o.spot) (slice_get xs 0)

      by : (x : Order) (xs : List Order) (s : Spot) → side_of b Sell ≡ x ∷ xs → x.spot ≡ s → IsBestAsk grid os (position_of found)
      by x xs Market f s = absurd (limited (sym e ∙ ap first f ∙ ap Some s))
      by x xs (At i) f s = subst (λ o. IsBestAsk grid os (position_of o)) (sym (ap first f ∙ ap Some s) ∙ e) (first-ask x xs i f s)

      at : (xs : List Order) → side_of b Sell ≡ xs → IsBestAsk grid os (position_of found)
      at [] f = subst (λ o. IsBestAsk grid os (position_of o)) (sym (ap first f) ∙ e) (no-ask f)
      at (x ∷ xs) f = by x xs x.spot f refl

  -- a side whose best order is a market order
  pub market-found : (side : Side) → best_spot b side ≡ Some Market → is_calm grid os ≡ false
  market-found side e = at (side_of b side) refl
    where
      first : List Order → Option Spot
      first xs = option_map (λ o. o.spot) (slice_get xs 0)

      at : (xs : List Order) → side_of b side ≡ xs → is_calm grid os ≡ false
      at [] f = let w = sym (ap first f) ∙ e in absurd (cc)
      at (x ∷ xs) f = let w = sym (ap first f) ∙ e in let s : x.spot ≡ Market = cc in market-first side x xs f s

module _ (grid : List Price) (os : List Order) (bid ask : Option ℕ) (bids : IsBestBid grid os bid) (asks : IsBestAsk grid os ask) where
  -- the best limits cross
  abbrev pub crosses_at : Bool
  crosses_at = crosses (option_map (price_at grid) bid) (option_map (price_at grid) ask)

  -- each order of such a book has a limit
  limited : (o : Order) → IsIn o os → is_some (limit_of grid o.spot) ≡ true
  limited o i = at (is_buy o.side) refl
    where
      at : (side : Bool) → is_buy o.side ≡ side → is_some (limit_of grid o.spot) ≡ true
      at true e = bids.limited o i e
      at false e = asks.limited o i e

  -- a book without market orders is calm where they do not
  pub calm-where : is_calm grid os ≡ not crosses_at
  calm-where =
      calm-by_best grid os (best_bid grid os) (best_ask grid os) true crosses_at refl refl (all-limited grid os limited)
      (ap (λ o. crosses o (option_map (price_at grid) ask)) (sym (number-of_price (greatest (limits grid true os)) ∙ bids.best))
      ∙ ap (crosses (option_map (λ p. p.0) (best_bid grid os))) (sym (number-of_price (least (limits grid false os)) ∙ asks.best)))

  -- positions as prices
  prices-of : (o : Option ℕ) → option_map (price_there grid) o ≡ option_map {T = ℕ} {U = Price} (λ q. record { 0 = q }) (option_map (price_at grid) o)
  prices-of None = refl
  prices-of (Some i) = refl

  -- and these are its best limits
  pub calm-answer : crosses_at ≡ false → IsCalmAnswer grid os (Calm bid ask)
  calm-answer e = record {
    calm = calm-where ∙ ap not e;
    positions = (bids.inside, asks.inside);
    outcome = λ lo hi.
        ap (λ o. outcomes.Calm o (option_map (price_there grid) ask)) (prices-of bid ∙ ap (option_map (λ q. record { 0 = q })) (sym bids.best))
        ∙ ap (outcomes.Calm (best_bid grid os)) (prices-of ask ∙ ap (option_map (λ q. record { 0 = q })) (sym asks.best));
    unread = refl;
  }
