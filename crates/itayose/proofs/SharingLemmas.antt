-- The orders that share, one after another by place: where a level stands in its side, and what handles name.
use Rattle.std.proofs.Common.{◌≡◌, ℕ, zero, suc, ◌+◌, ◌-◌, ◌<◌, ◌≤◌, Bool, true, false, cond, eqb, ltb, not, ◌&&◌, ◌||◌, ◌⊎◌, inl, inr, List, [], ◌∷◌, ◌++◌, map, filter, Option, Some, None, All, IfSome, refl, sym, ap, subst, ◌∙◌, arith, append_assoc, append-nil}
use Rattle.std.specs.List.{AllByRecursion, flat_map, range_with_len, slice_get}
use Rattle.std.proofs.lemmas.Bool.Decides.{nat_tests}
use Rattle.std.proofs.lemmas.List.{map-append}
use Rattle.std.proofs.lemmas.List.Concat.{flat_map-append}
use Rattle.std.proofs.lemmas.List.Elements.{All-from_recursion, All-head, filter-append, recursion_from_All}
use Rattle.mkt_base.specs.Book.{total_left}
use Rattle.mkt_base.specs.Fills.{quantity}
use Rattle.mkt_base.specs.Priority.{falling, in_priority, is_on_level, is_same_side, is_same_spot, level_of, spots}
use Rattle.mkt_base.specs.declared.order.Order.{Order}
use Rattle.mkt_base.specs.declared.order.Side.{Side}
use Rattle.mkt_base.specs.declared.order.Side.TheVariants.{Buy, Sell}
use Rattle.mkt_base.specs.declared.order.Spot.{Spot}
use Rattle.mkt_base.specs.declared.order.Spot.TheVariants.{Market, At}
use Rattle.book_law.specs.BookView.{BookView, IsBookView, IsLive, IsSpotBelow, Names, NamesFirst, orders, side_of, taken}
use Rattle.book_law.specs.Sides.{has_place, total}
use Rattle.book_law.proofs.AheadLemmas.{and-left, in_priority-side}
use Rattle.book_law.proofs.FrontLemmas.{first-of, orders-below, orders-left, orders-rising}
use Rattle.book_law.proofs.Pairs.{Pairs, all-append, pairs-from_AllPairs, weaken}
use Rattle.book_law.proofs.TakenLemmas.{total-cons, total-filter, total-passing}
use Rattle.itayose.specs.Sharing.{AreByPlace, AreLeft, IsCursor, KeepsOthers, in_front, is_ahead, is_beyond, is_sharing, passed, sharing_of, with_left}
use Rattle.itayose.specs.declared.sharing.Sharers.{Sharers}
use Rattle.itayose.proofs.FillingLemmas.{filter-taken, side-some, taken-absent, taken-append}
use Rattle.itayose.proofs.TradingLemmas.{names-one}

-- ---- filters

pub filter-none : (t : Order → Bool) (os : List Order) → AllByRecursion (λ o. t o ≡ false) os → filter t os ≡ []
filter-none t [] all = refl
filter-none t (o ∷ os) all = ap (λ b. cond b (o ∷ filter t os) (filter t os)) all.0 ∙ filter-none t os all.1

pub filter-all : (t : Order → Bool) (os : List Order) → AllByRecursion (λ o. t o ≡ true) os → filter t os ≡ os
filter-all t [] all = refl
filter-all t (o ∷ os) all = ap (λ b. cond b (o ∷ filter t os) (filter t os)) all.0 ∙ ap (λ xs. o ∷ xs) (filter-all t os all.1)

pub filter-passes : (t : Order → Bool) (os : List Order) → AllByRecursion (λ o. t o ≡ true) (filter t os)
filter-passes t [] = tt
filter-passes t (o ∷ os) = step (t o) refl (filter-passes t os)
  where
    step : (b : Bool) → t o ≡ b → AllByRecursion (λ x. t x ≡ true) (filter t os) → AllByRecursion (λ x. t x ≡ true) (cond b (o ∷ filter t os) (filter t os))
    step true e rest = (e, rest)
    step false e rest = rest

-- what holds of all holds of those that pass
pub filter-keeps : (P : Order → Type 0) (t : Order → Bool) (os : List Order) → AllByRecursion P os → AllByRecursion P (filter t os)
filter-keeps P t [] all = tt
filter-keeps P t (o ∷ os) all = step (t o) (filter-keeps P t os all.1)
  where
    step : (b : Bool) → AllByRecursion P (filter t os) → AllByRecursion P (cond b (o ∷ filter t os) (filter t os))
    step true rest = (all.0, rest)
    step false rest = rest

-- those that pass a test among those that pass a wider one
pub filter-within : (t u : Order → Bool) → ((o : Order) → t o ≡ true → u o ≡ true) → (os : List Order) → filter t (filter u os) ≡ filter t os
filter-within t u wider [] = refl
filter-within t u wider (o ∷ os) = step (t o) (u o) refl refl (filter-within t u wider os)
  where
    step : (a b : Bool) → t o ≡ a → u o ≡ b → filter t (filter u os) ≡ filter t os → filter t (cond b (o ∷ filter u os) (filter u os)) ≡ cond a (o ∷ filter t os) (filter t os)
    step true true e f rest = rw e (ap (λ xs. o ∷ xs) rest)
    step true false e f rest = let g = wider o e in absurd (cc)
    step false true e f rest = rw e rest
    step false false e f rest = rest

-- tests that agree on all elements keep the same ones
pub filter-alike : (t u : Order → Bool) (os : List Order) → AllByRecursion (λ o. t o ≡ u o) os → filter t os ≡ filter u os
filter-alike t u [] all = refl
filter-alike t u (o ∷ os) all = ap (λ b. cond b (o ∷ filter t os) (filter t os)) all.0 ∙ ap (λ xs. cond (u o) (o ∷ xs) xs) (filter-alike t u os all.1)

-- ---- where a level stands in its side

-- the spots of a side around one of them
record AreAround (side : Side) (n : ℕ) (spot : Spot) : Type 0 where
  before : List Spot
  after : List Spot
  split : spots n side ≡ before ++ spot ∷ after
  others_before : AllByRecursion (λ s. is_same_spot spot s ≡ false) before
  others_after : AllByRecursion (λ s. is_same_spot spot s ≡ false) after

-- a level in its side, in front of which and behind which no order stands on it
pub record StandsIn (n : ℕ) (side : Side) (os : List Order) (spot : Spot) : Type 0 where
  pub front : List Order
  pub back : List Order
  pub split : in_priority n side os ≡ front ++ (level_of side spot os ++ back)
  pub front_others : AllByRecursion (λ o. is_same_spot spot o.spot ≡ false) front
  pub back_others : AllByRecursion (λ o. is_same_spot spot o.spot ≡ false) back

same-spot : (s t : Spot) → is_same_spot s t ≡ true → t ≡ s
same-spot Market Market e = refl
same-spot Market (At j) e = absurd (cc)
same-spot (At i) Market e = absurd (cc)
same-spot (At i) (At j) e = let same : j ≡ i = grind (arith, nat_tests, e) in ap (λ n. At n) same

and-right : (a b : Bool) → (a && b) ≡ true → b ≡ true
and-right true b e = e
and-right false b e = absurd (cc)

-- what holds of the spots of some levels holds of the spots of their orders
levels-hold : (P : Spot → Type 0) (side : Side) (os : List Order) (ss : List Spot) → AllByRecursion P ss → AllByRecursion (λ o. P o.spot) (flat_map (λ s. level_of side s os) ss)
levels-hold P side os [] all = tt
levels-hold P side os (s ∷ ss) all =
    all-append (λ o. P o.spot) (level_of side s os) (flat_map (λ t. level_of side t os) ss)
    (weaken (λ o. is_on_level side s o ≡ true) (λ o. P o.spot) (λ o e. subst P (sym (same-spot s o.spot (and-right (is_same_side side o.side) (is_same_spot s o.spot) e))) all.0) (level_of side s os) (filter-passes (is_on_level side s) os))
    (levels-hold P side os ss all.1)

stands-around : (n : ℕ) (side : Side) (os : List Order) (spot : Spot) → AreAround side n spot → StandsIn n side os spot
unfolding in_priority
stands-around n side os spot w = record {
  front = flat_map (λ s. level_of side s os) w.before;
  back = flat_map (λ s. level_of side s os) w.after;
  split = ap (flat_map (λ s. level_of side s os)) w.split ∙ flat_map-append (λ s. level_of side s os) w.before (spot ∷ w.after);
  front_others = levels-hold (λ s. is_same_spot spot s ≡ false) side os w.before w.others_before;
  back_others = levels-hold (λ s. is_same_spot spot s ≡ false) side os w.after w.others_after;
}

no-market : (is : List ℕ) → AllByRecursion (λ s. is_same_spot Market s ≡ false) (map (λ i. At i) is)
no-market [] = tt
no-market (i ∷ is) = (refl, no-market is)

-- the positions of a list around one of them
record AreApart (at : ℕ) (is : List ℕ) (B A : ℕ → Type 0) : Type 0 where
  before : List ℕ
  after : List ℕ
  split : is ≡ before ++ at ∷ after
  others_before : AllByRecursion B before
  others_after : AllByRecursion A after

falling-below : (at n : ℕ) → n ≤ at → AllByRecursion (λ i. i < at) (falling n)
falling-below at zero h = tt
falling-below at (suc n) h = (omega (arith, h), falling-below at n (omega (arith, h)))

falling-apart : (at n : ℕ) → at < n → AreApart at (falling n) (λ i. at < i) (λ i. i < at)
falling-apart at zero h = absurd (omega (arith, h))
falling-apart at (suc n) h = by (eqb at n) refl (falling-apart at n)
  where
    by : (b : Bool) → eqb at n ≡ b → (at < n → AreApart at (falling n) (λ i. at < i) (λ i. i < at)) → AreApart at (n ∷ falling n) (λ i. at < i) (λ i. i < at)
    by true e rest =
        let same : n ≡ at = grind (arith, nat_tests, e) in
        record { before = []; after = falling n; split = ap (λ k. k ∷ falling n) same; others_before = tt; others_after = falling-below at n (omega arith) }
    by false e rest =
        let less : at < n = grind (arith, nat_tests, e, h) in
        let w = rest less in
        record { before = n ∷ w.before; after = w.after; split = ap (λ ks. n ∷ ks) w.split; others_before = (less, w.others_before); others_after = w.others_after }

range-above : (at a n : ℕ) → at < a → AllByRecursion (λ i. at < i) (range_with_len a n)
range-above at a zero h = tt
range-above at a (suc n) h = (h, range-above at (a + 1) n (omega (arith, h)))

range-apart : (at a n : ℕ) → a ≤ at → at < a + n → AreApart at (range_with_len a n) (λ i. i < at) (λ i. at < i)
range-apart at a zero h k = absurd (omega (arith, h, k))
range-apart at a (suc n) h k = by (eqb at a) refl (λ l. range-apart at (a + 1) n l (omega (arith, k)))
  where
    by : (b : Bool) → eqb at a ≡ b → (a + 1 ≤ at → AreApart at (range_with_len (a + 1) n) (λ i. i < at) (λ i. at < i)) → AreApart at (a ∷ range_with_len (a + 1) n) (λ i. i < at) (λ i. at < i)
    by true e rest =
        let same : a ≡ at = grind (arith, nat_tests, e) in
        record { before = []; after = range_with_len (a + 1) n; split = ap (λ m. m ∷ range_with_len (a + 1) n) same; others_before = tt; others_after = range-above at (a + 1) n (omega (arith, same)) }
    by false e rest =
        let less : a < at = grind (arith, nat_tests, e, h) in
        let w = rest (omega (arith, less)) in
        record { before = a ∷ w.before; after = w.after; split = ap (λ ks. a ∷ ks) w.split; others_before = (less, w.others_before); others_after = w.others_after }

-- positions that are apart from one are other spots
module _ (at : ℕ) (P : ℕ → Type 0) (Q : Spot → Type 0) (other : (i : ℕ) → P i → Q (At i)) where
  as-spots : (is : List ℕ) → AllByRecursion P is → AllByRecursion Q (map (λ i. At i) is)
  as-spots [] all = tt
  as-spots (i ∷ is) all = (other i all.0, as-spots is all.1)

-- A position's level in its side: all in front of it is beyond the position, and nothing behind it.
pub record StandsAt (n : ℕ) (side : Side) (os : List Order) (at : ℕ) : Type 0 where
  pub front : List Order
  pub back : List Order
  pub split : in_priority n side os ≡ front ++ (level_of side (At at) os ++ back)
  pub front_beyond : AllByRecursion (λ o. is_beyond side at o.spot ≡ true) front
  pub back_not : AllByRecursion (λ o. (is_beyond side at o.spot ≡ false) × (is_same_spot (At at) o.spot ≡ false)) back

market-around : (side : Side) (n : ℕ) → AreAround side n Market
market-around Buy n = record { before = []; after = map (λ i. At i) (falling n); split = refl; others_before = tt; others_after = no-market (falling n) }
market-around Sell n = record { before = []; after = map (λ i. At i) (range_with_len 0 n); split = refl; others_before = tt; others_after = no-market (range_with_len 0 n) }

pub stands-market : (n : ℕ) (side : Side) (os : List Order) → StandsIn n side os Market
stands-market n side os = stands-around n side os Market (market-around side n)

-- nothing is in front of the market orders
pub market-first : (n : ℕ) (side : Side) (os : List Order) → (stands-market n side os).front ≡ []
unfolding stands-market stands-around market-around
market-first n Buy os = refl
market-first n Sell os = refl

pub stands-at : (n : ℕ) (side : Side) (os : List Order) (at : ℕ) → at < n → StandsAt n side os at
unfolding in_priority
stands-at n Buy os at h =
    let w = falling-apart at n h in
    record {
      front = flat_map (λ s. level_of Buy s os) (Market ∷ map (λ i. At i) w.before);
      back = flat_map (λ s. level_of Buy s os) (map (λ i. At i) w.after);
      split =
          ap (λ is. flat_map (λ s. level_of Buy s os) (Market ∷ map (λ i. At i) is)) w.split
          ∙ ap (λ ss. flat_map (λ s. level_of Buy s os) (Market ∷ ss)) (map-append (λ i. At i) w.before (at ∷ w.after))
          ∙ flat_map-append (λ s. level_of Buy s os) (Market ∷ map (λ i. At i) w.before) (At at ∷ map (λ i. At i) w.after);
      front_beyond =
          levels-hold (λ s. is_beyond Buy at s ≡ true) Buy os (Market ∷ map (λ i. At i) w.before)
          (refl, as-spots at (λ i. at < i) (λ s. is_beyond Buy at s ≡ true) (λ i l. grind (arith, nat_tests, l)) w.before w.others_before);
      back_not =
          levels-hold (λ s. (is_beyond Buy at s ≡ false) × (is_same_spot (At at) s ≡ false)) Buy os (map (λ i. At i) w.after)
          (as-spots at (λ i. i < at) (λ s. (is_beyond Buy at s ≡ false) × (is_same_spot (At at) s ≡ false)) (λ i l. (grind (arith, nat_tests, l), grind (arith, nat_tests, l))) w.after w.others_after);
    }
stands-at n Sell os at h =
    let w = range-apart at 0 n (omega arith) (omega (arith, h)) in
    record {
      front = flat_map (λ s. level_of Sell s os) (Market ∷ map (λ i. At i) w.before);
      back = flat_map (λ s. level_of Sell s os) (map (λ i. At i) w.after);
      split =
          ap (λ is. flat_map (λ s. level_of Sell s os) (Market ∷ map (λ i. At i) is)) w.split
          ∙ ap (λ ss. flat_map (λ s. level_of Sell s os) (Market ∷ ss)) (map-append (λ i. At i) w.before (at ∷ w.after))
          ∙ flat_map-append (λ s. level_of Sell s os) (Market ∷ map (λ i. At i) w.before) (At at ∷ map (λ i. At i) w.after);
      front_beyond =
          levels-hold (λ s. is_beyond Sell at s ≡ true) Sell os (Market ∷ map (λ i. At i) w.before)
          (refl, as-spots at (λ i. i < at) (λ s. is_beyond Sell at s ≡ true) (λ i l. grind (arith, nat_tests, l)) w.before w.others_before);
      back_not =
          levels-hold (λ s. (is_beyond Sell at s ≡ false) × (is_same_spot (At at) s ≡ false)) Sell os (map (λ i. At i) w.after)
          (as-spots at (λ i. at < i) (λ s. (is_beyond Sell at s ≡ false) × (is_same_spot (At at) s ≡ false)) (λ i l. (grind (arith, nat_tests, l), grind (arith, nat_tests, l))) w.after w.others_after);
    }

beyond-other : (side : Side) (at : ℕ) (s : Spot) → is_beyond side at s ≡ true → is_same_spot (At at) s ≡ false
beyond-other side at Market e = refl
beyond-other Buy at (At i) e = grind (arith, nat_tests, e)
beyond-other Sell at (At i) e = grind (arith, nat_tests, e)

pub stands-there : (n : ℕ) (side : Side) (os : List Order) (at : ℕ) → at < n → StandsIn n side os (At at)
stands-there n side os at h =
    let w = stands-at n side os at h in
    record {
      front = w.front;
      back = w.back;
      split = w.split;
      front_others = weaken (λ o. is_beyond side at o.spot ≡ true) (λ o. is_same_spot (At at) o.spot ≡ false) (λ o e. beyond-other side at o.spot e) w.front w.front_beyond;
      back_others = weaken (λ o. (is_beyond side at o.spot ≡ false) × (is_same_spot (At at) o.spot ≡ false)) (λ o. is_same_spot (At at) o.spot ≡ false) (λ o e. e.1) w.back w.back_not;
    }

and-none : (a b : Bool) → b ≡ false → (a && b) ≡ false
and-none true b e = e
and-none false b e = refl

-- so the orders of a side that stand on a level are the level
pub level-is : (n : ℕ) (side : Side) (os : List Order) (spot : Spot) → StandsIn n side os spot → filter (is_on_level side spot) (in_priority n side os) ≡ level_of side spot os
level-is n side os spot w =
    ap (filter (is_on_level side spot)) w.split
    ∙ filter-append (is_on_level side spot) w.front (level_of side spot os ++ w.back)
    ∙ ap (λ xs. xs ++ filter (is_on_level side spot) (level_of side spot os ++ w.back)) (filter-none (is_on_level side spot) w.front (others w.front w.front_others))
    ∙ filter-append (is_on_level side spot) (level_of side spot os) w.back
    ∙ ap (λ xs. filter (is_on_level side spot) (level_of side spot os) ++ xs) (filter-none (is_on_level side spot) w.back (others w.back w.back_others))
    ∙ append-nil (filter (is_on_level side spot) (level_of side spot os))
    ∙ filter-all (is_on_level side spot) (level_of side spot os) (filter-passes (is_on_level side spot) os)
  where
    others : (xs : List Order) → AllByRecursion (λ o. is_same_spot spot o.spot ≡ false) xs → AllByRecursion (λ o. is_on_level side spot o ≡ false) xs
    others xs all = weaken (λ o. is_same_spot spot o.spot ≡ false) (λ o. is_on_level side spot o ≡ false) (λ o e. and-none (is_same_side side o.side) (is_same_spot spot o.spot) e) xs all

-- ---- behind so many shares

pub passed-front : (xs ys : List Order) → AllByRecursion (λ o. 0 < o.left) (xs ++ ys) → passed (total xs) (xs ++ ys) ≡ ys
unfolding passed quantity
passed-front [] [] some = refl
passed-front [] (y ∷ ys) some = refl
passed-front (x ∷ xs) ys some =
    let all : total (x ∷ xs) ≡ x.left + total xs = total-cons x xs in
    let not : eqb (total (x ∷ xs)) 0 ≡ false = grind (arith, nat_tests, all, some.0) in
    let rest : total (x ∷ xs) - x.left ≡ total xs = omega arith in
    ap (λ b. cond b (x ∷ (xs ++ ys)) (passed (total (x ∷ xs) - x.left) (xs ++ ys))) not ∙ ap (λ n. passed n (xs ++ ys)) rest ∙ passed-front xs ys some.1

pub in_front-of : (xs ys : List Order) → AllByRecursion (λ o. 0 < o.left) (xs ++ ys) → in_front (total xs) (xs ++ ys) ≡ xs
unfolding in_front quantity
in_front-of [] [] some = refl
in_front-of [] (y ∷ ys) some = refl
in_front-of (x ∷ xs) ys some =
    let all : total (x ∷ xs) ≡ x.left + total xs = total-cons x xs in
    let not : eqb (total (x ∷ xs)) 0 ≡ false = grind (arith, nat_tests, all, some.0) in
    let rest : total (x ∷ xs) - x.left ≡ total xs = omega arith in
    ap (λ b. cond b [] (x ∷ in_front (total (x ∷ xs) - x.left) (xs ++ ys))) not
    ∙ ap (λ n. x ∷ in_front n (xs ++ ys)) rest ∙ ap (λ zs. x ∷ zs) (in_front-of xs ys some.1)

-- ---- handles

pub named-live : (b : BookView) (h : ℕ) (x : Order) → Names b h x → IsLive b h
named-live b h x e = rw e refl

pub first-live : (b : BookView) (xs : List Order) (found : Option ℕ) → NamesFirst b xs found → IfSome found (IsLive b)
first-live b xs None w = tt
first-live b xs (Some h) w = named-live b h w.0 w.1

-- the order that was found is the first
pub found-first : (b : BookView) (xs : List Order) (found : Option ℕ) (h : ℕ) (x : Order) → NamesFirst b xs found → found ≡ Some h → Names b h x → slice_get xs 0 ≡ Some x
found-first b xs found h x w e named =
    let v : (o : Order) × Names b h o × (slice_get xs 0 ≡ Some o) = subst (NamesFirst b xs) e w in
    v.2 ∙ ap Some (names-one b h v.0 x v.1 named)

pub found-none : (b : BookView) (xs : List Order) (found : Option ℕ) → NamesFirst b xs found → found ≡ None → xs ≡ []
found-none b xs found w e = let v : xs ≡ [] = subst (NamesFirst b xs) e w in v

none-left : (xs ys : List Order) → xs ++ ys ≡ [] → xs ≡ []
none-left [] ys e = refl
none-left (x ∷ xs) ys e = absurd (cc)

module _ (b : BookView) (spot : Spot) (level others : List Order) (found : Option ℕ) (w : NamesFirst b (level ++ others) found)
    (own : All (λ o. is_same_spot spot o.spot ≡ true) level) (not : All (λ o. is_same_spot spot o.spot ≡ false) others) where
  pub level-none : found ≡ None → level ≡ []
  level-none e = none-left level others (found-none b (level ++ others) found w e)

  first-there : (xs ys : List Order) (x : Order) → All (λ o. is_same_spot spot o.spot ≡ false) ys → slice_get (xs ++ ys) 0 ≡ Some x → is_same_spot spot x.spot ≡ true → slice_get xs 0 ≡ Some x
  first-there (z ∷ xs) ys x not e here = e
  first-there [] [] x not e here = absurd (cc)
  first-there [] (y ∷ ys) x not e here =
      let same : y ≡ x = cc in
      let other : is_same_spot spot x.spot ≡ false = subst (λ o. is_same_spot spot o.spot ≡ false) same (All-head (λ o. is_same_spot spot o.spot ≡ false) y ys not) in
      absurd (cc)

  pub level-first : (h : ℕ) (x : Order) → found ≡ Some h → Names b h x → is_same_spot spot x.spot ≡ true → slice_get level 0 ≡ Some x
  level-first h x e named here = first-there level others x not (found-first b (level ++ others) found h x w e named) here

  empty-there : (xs ys : List Order) (x : Order) → All (λ o. is_same_spot spot o.spot ≡ true) xs → slice_get (xs ++ ys) 0 ≡ Some x → is_same_spot spot x.spot ≡ false → xs ≡ []
  empty-there [] ys x own e here = refl
  empty-there (z ∷ xs) ys x own e here =
      let same : z ≡ x = cc in
      let other : is_same_spot spot x.spot ≡ true = subst (λ o. is_same_spot spot o.spot ≡ true) same (All-head (λ o. is_same_spot spot o.spot ≡ true) z xs own) in
      absurd (cc)

  pub level-empty : (h : ℕ) (x : Order) → found ≡ Some h → Names b h x → is_same_spot spot x.spot ≡ false → level ≡ []
  level-empty h x e named here = empty-there level others x own (found-first b (level ++ others) found h x w e named) here

-- ---- the walk past the front

-- An order of a side that a handle names, behind which what is passed is what is passed of the whole side.
pub record IsPassing (b : BookView) (side : Side) (shares left handle : ℕ) : Type 0 where
  pub order : Order
  pub front : List Order
  pub back : List Order
  pub names : Names b handle order
  pub split : side_of b side ≡ front ++ order ∷ back
  pub passes : passed left (order ∷ back) ≡ passed shares (side_of b side)

module _ (b : BookView) (side : Side) (shares : ℕ) where
  pub passing-starts : (found : Option ℕ) (h : ℕ) → NamesFirst b (side_of b side) found → found ≡ Some h → IsPassing b side shares shares h
  passing-starts found h w e =
      let v : (o : Order) × Names b h o × (slice_get (side_of b side) 0 ≡ Some o) = subst (NamesFirst b (side_of b side)) e w in
      let u = first-of (side_of b side) v.0 v.2 in
      record { order = v.0; front = []; back = u.0; names = v.1; split = u.1; passes = ap (passed shares) (sym u.1) }

  passed-nothing : (v : ℕ) → passed v [] ≡ []
  unfolding passed
  passed-nothing v = refl

  pub passing-empty : (found : Option ℕ) → NamesFirst b (side_of b side) found → found ≡ None → NamesFirst b (passed shares (side_of b side)) None
  passing-empty found w e = ap (passed shares) (found-none b (side_of b side) found w e) ∙ passed-nothing shares

  module _ (left h : ℕ) (s : IsPassing b side shares left h) where
    -- the order behind it
    past : 0 < left → passed (left - s.order.left) s.back ≡ passed shares (side_of b side)
    unfolding passed
    past some =
        let not : eqb left 0 ≡ false = grind (arith, nat_tests, some) in
        ap (λ c. cond c (s.order ∷ s.back) (passed (left - s.order.left) s.back)) (sym not) ∙ s.passes

    pub passing-more : (x : Order) (next : Option ℕ) (k rest : ℕ) → 0 < left → Names b h x → rest ≡ left - x.left → NamesFirst b s.back next → next ≡ Some k → IsPassing b side shares rest k
    passing-more x next k rest some named less w e =
        let v : (o : Order) × Names b k o × (slice_get s.back 0 ≡ Some o) = subst (NamesFirst b s.back) e w in
        let u = first-of s.back v.0 v.2 in
        let same : rest ≡ left - s.order.left = less ∙ ap (λ o. left - o.left) (names-one b h x s.order named s.names) in
        record {
          order = v.0;
          front = s.front ++ s.order ∷ [];
          back = u.0;
          names = v.1;
          split = s.split ∙ ap (λ xs. s.front ++ s.order ∷ xs) u.1 ∙ sym (append_assoc s.front (s.order ∷ []) (v.0 ∷ u.0));
          passes = ap (passed rest) (sym u.1) ∙ ap (λ n. passed n s.back) same ∙ past some;
        }

    pub passing-ends : (next : Option ℕ) → 0 < left → NamesFirst b s.back next → next ≡ None → NamesFirst b (passed shares (side_of b side)) None
    passing-ends next some w e = sym (past some) ∙ ap (passed (left - s.order.left)) (found-none b s.back next w e) ∙ passed-nothing (left - s.order.left)

    pub passing-some : IsBookView b → 0 < s.order.left
    passing-some stands =
        let all : AllByRecursion (λ o. 0 < o.left) (s.front ++ s.order ∷ s.back) = subst (AllByRecursion (λ o. 0 < o.left)) s.split (side-some b stands side) in
        here s.front all
      where
        here : (xs : List Order) → AllByRecursion (λ o. 0 < o.left) (xs ++ s.order ∷ s.back) → 0 < s.order.left
        here [] all = all.0
        here (x ∷ xs) all = here xs all.1

    pub passing-done : left ≡ 0 → NamesFirst b (passed shares (side_of b side)) (Some h)
    unfolding passed
    passing-done none =
        let at : passed shares (side_of b side) ≡ s.order ∷ s.back = sym s.passes ∙ ap (λ n. passed n (s.order ∷ s.back)) none in
        (s.order, s.names, ap (λ xs. slice_get xs 0) at)

-- ---- the first by place

cursor-empty : (b : BookView) (side : Side) (spot : Spot) (rest : List Order) (found : Option ℕ) → IsCursor b side spot rest found → found ≡ None → filter (is_on_level side spot) rest ≡ []
cursor-empty b side spot rest found w e = found-none b (filter (is_on_level side spot) rest) found w.first e

-- a cursor goes by the orders of its level alone
cursor-same : (b : BookView) (side : Side) (spot : Spot) (rest others : List Order) (found : Option ℕ) → filter (is_on_level side spot) rest ≡ filter (is_on_level side spot) others
    → IsCursor b side spot rest found → IsCursor b side spot others found
cursor-same b side spot rest others found e w = record {
  first = subst (λ xs. NamesFirst b xs found) e w.first;
  last = λ o os f. w.last o os (e ∙ f);
}

-- behind an order of the level
cursor-next : (b : BookView) (side : Side) (spot : Spot) (x : Order) (others : List Order) (found next : Option ℕ) → is_on_level side spot x ≡ true → IsCursor b side spot (x ∷ others) found
    → NamesFirst b (filter (is_on_level side spot) others) next → IsCursor b side spot others next
cursor-next b side spot x others found next here w first =
    let split : filter (is_on_level side spot) (x ∷ others) ≡ x ∷ filter (is_on_level side spot) others = ap (λ c. cond c (x ∷ filter (is_on_level side spot) others) (filter (is_on_level side spot) others)) here in
    let all = w.last x (filter (is_on_level side spot) others) split in
    record {
      first = first;
      last = λ o os e. (all.0 ++ x ∷ [], all.1 ∙ ap (λ xs. all.0 ++ x ∷ xs) e ∙ sym (append_assoc all.0 (x ∷ []) (o ∷ os)));
    }

or-cases : (a b : Bool) → (a || b) ≡ true → (a ≡ true) ⊎ (b ≡ true)
or-cases true b e = inl refl
or-cases false b e = inr e

-- no order stands on two levels
levels-apart : (side : Side) (at : ℕ) (o : Order) → is_on_level side Market o ≡ true → is_on_level side (At at) o ≡ false
levels-apart side at o e =
    let spot : o.spot ≡ Market = same-spot Market o.spot (and-right (is_same_side side o.side) (is_same_spot Market o.spot) e) in
    and-none (is_same_side side o.side) (is_same_spot (At at) o.spot) (ap (is_same_spot (At at)) spot)

true-is : (b : Bool) → (b ≡ true → ⊥) → b ≡ false
true-is true h = absurd (h refl)
true-is false h = refl

apart-levels : (side : Side) (at : ℕ) (o : Order) → is_on_level side (At at) o ≡ true → is_on_level side Market o ≡ false
apart-levels side at o e = true-is (is_on_level side Market o) (λ f. let g = levels-apart side at o f in cc)

nothing-total : total [] ≡ 0
unfolding quantity
nothing-total = refl

module _ (b : BookView) (side : Side) (at : ℕ) (rest : List Order) (s : Sharers) (w : AreLeft b side at rest s) (some : 0 < s.left) where
  -- one is left
  pub one-left : (x : Order) × (others : List Order) × (rest ≡ x ∷ others)
  one-left = by rest refl
    where
      by : (xs : List Order) → rest ≡ xs → (x : Order) × (others : List Order) × (rest ≡ x ∷ others)
      by [] e = let none = ap total e in absurd (omega (arith, none, nothing-total, w.left, some))
      by (x ∷ xs) e = (x, xs, e)

  module _ (x : Order) (others : List Order) (split : rest ≡ x ∷ others) where
    abbrev onm : Order → Bool
    onm = is_on_level side Market

    abbrev onl : Order → Bool
    onl = is_on_level side (At at)

    market : IsCursor b side Market (x ∷ others) s.market
    market = subst (λ xs. IsCursor b side Market xs s.market) split w.market

    limit : IsCursor b side (At at) (x ∷ others) s.limit
    limit = subst (λ xs. IsCursor b side (At at) xs s.limit) split w.limit

    pub later : AllByRecursion (λ o. x.place < o.place) others
    later = let all : AreByPlace (x ∷ others) = subst AreByPlace split w.places in all.0

    -- the one that a handle of a level with this order names is this order
    own-of : (spot : Spot) (found : Option ℕ) (h : ℕ) (y : Order) → is_on_level side spot x ≡ true → IsCursor b side spot (x ∷ others) found → found ≡ Some h → Names b h y → y ≡ x
    own-of spot found h y here c e named =
        let split : filter (is_on_level side spot) (x ∷ others) ≡ x ∷ filter (is_on_level side spot) others = ap (λ d. cond d (x ∷ filter (is_on_level side spot) others) (filter (is_on_level side spot) others)) here in
        let first : slice_get (filter (is_on_level side spot) (x ∷ others)) 0 ≡ Some y = found-first b (filter (is_on_level side spot) (x ∷ others)) found h y c.first e named in
        let same : Some x ≡ Some y = sym (ap (λ xs. slice_get xs 0) split) ∙ first in
        cc

    -- the one that a handle of the other level names is later
    later-of : (spot : Spot) (found : Option ℕ) (h : ℕ) (y : Order) → is_on_level side spot x ≡ false → IsCursor b side spot (x ∷ others) found → found ≡ Some h → Names b h y → x.place < y.place
    later-of spot found h y here c e named =
        let split : filter (is_on_level side spot) (x ∷ others) ≡ filter (is_on_level side spot) others = ap (λ d. cond d (x ∷ filter (is_on_level side spot) others) (filter (is_on_level side spot) others)) here in
        let first : slice_get (filter (is_on_level side spot) others) 0 ≡ Some y = ap (λ xs. slice_get xs 0) (sym split) ∙ found-first b (filter (is_on_level side spot) (x ∷ others)) found h y c.first e named in
        let u = first-of (filter (is_on_level side spot) others) y first in
        let all : AllByRecursion (λ o. x.place < o.place) (y ∷ u.0) = subst (AllByRecursion (λ o. x.place < o.place)) u.1 (filter-keeps (λ o. x.place < o.place) (is_on_level side spot) others later) in
        all.0

    -- a level with this order has a handle
    some-of : (spot : Spot) (found : Option ℕ) → is_on_level side spot x ≡ true → IsCursor b side spot (x ∷ others) found → (h : ℕ) × (found ≡ Some h)
    some-of spot None here c =
        let split : filter (is_on_level side spot) (x ∷ others) ≡ x ∷ filter (is_on_level side spot) others = ap (λ d. cond d (x ∷ filter (is_on_level side spot) others) (filter (is_on_level side spot) others)) here in
        let none = cursor-empty b side spot (x ∷ others) None c refl in
        absurd (cc)
    some-of spot (Some h) here c = (h, refl)

    module _ (r : Bool) (both : (m l : ℕ) (y z : Order) → s.market ≡ Some m → s.limit ≡ Some l → Names b m y → Names b l z → r ≡ ltb y.place z.place) (none : s.market ≡ None → r ≡ false) (alone : (m : ℕ) → s.market ≡ Some m → s.limit ≡ None → r ≡ true) where
      names-of : (xs : List Order) (found : Option ℕ) (h : ℕ) → NamesFirst b xs found → found ≡ Some h → (y : Order) × Names b h y
      names-of xs found h v e = let u : (o : Order) × Names b h o × (slice_get xs 0 ≡ Some o) = subst (NamesFirst b xs) e v in (u.0, u.1)

      market-then : onm x ≡ true → r ≡ true
      market-then here =
          let m = some-of Market s.market here market in
          let y = names-of (filter onm (x ∷ others)) s.market m.0 market.first m.1 in
          by s.limit refl m.0 m.1 y.0 y.1
        where
          by : (found : Option ℕ) → s.limit ≡ found → (m : ℕ) → s.market ≡ Some m → (y : Order) → Names b m y → r ≡ true
          by None e m f y named = alone m f e
          by (Some l) e m f y named =
              let z = names-of (filter onl (x ∷ others)) s.limit l limit.first e in
              let same : y.place ≡ x.place = ap (λ o. o.place) (own-of Market s.market m y here market f named) in
              let after : x.place < z.0.place = later-of (At at) s.limit l z.0 (levels-apart side at x here) limit e z.1 in
              both m l y z.0 f e named z.1 ∙ grind (arith, nat_tests, same, after)

      limit-then : onl x ≡ true → r ≡ false
      limit-then here =
          let l = some-of (At at) s.limit here limit in
          let z = names-of (filter onl (x ∷ others)) s.limit l.0 limit.first l.1 in
          by s.market refl l.0 l.1 z.0 z.1
        where
          by : (found : Option ℕ) → s.market ≡ found → (l : ℕ) → s.limit ≡ Some l → (z : Order) → Names b l z → r ≡ false
          by None e l f z named = none e
          by (Some m) e l f z named =
              let y = names-of (filter onm (x ∷ others)) s.market m market.first e in
              let same : z.place ≡ x.place = ap (λ o. o.place) (own-of (At at) s.limit l z here limit f named) in
              let after : x.place < y.0.place = later-of Market s.market m y.0 (apart-levels side at x here) market e y.1 in
              both m l y.0 z e f y.1 named ∙ grind (arith, nat_tests, same, after)

      here-or : (onl x ≡ true) ⊎ (onm x ≡ true)
      here-or = let all : AllByRecursion (λ o. is_sharing side at true o ≡ true) (x ∷ others) = subst (AllByRecursion (λ o. is_sharing side at true o ≡ true)) split w.each in or-cases (onl x) (onm x) all.0

      pub is-market : r ≡ true → onm x ≡ true
      is-market e = elim here-or [ inl h ↦ (let f = limit-then h in absurd (cc)) | inr h ↦ h ]

      pub is-limit : r ≡ false → onl x ≡ true
      is-limit e = elim here-or [ inl h ↦ h | inr h ↦ (let f = market-then h in absurd (cc)) ]

      pub limit-some : r ≡ false → (h : ℕ) × (s.limit ≡ Some h)
      limit-some e = some-of (At at) s.limit (is-limit e) limit

      pub market-some : r ≡ true → (h : ℕ) × (s.market ≡ Some h)
      market-some e = some-of Market s.market (is-market e) market

    -- what is told of the order behind one
    abbrev IsBehind : Order → Option ℕ → Type 0
    IsBehind y next =
        (side : Side) (before rest others : List Order) → side_of b side ≡ before ++ y ∷ (rest ++ others) → All (λ o. is_same_spot y.spot o.spot ≡ true) rest
        → All (λ o. is_same_spot y.spot o.spot ≡ false) others → NamesFirst b rest next

    next-first : (spot : Spot) (found next : Option ℕ) → is_on_level side spot x ≡ true → IsCursor b side spot (x ∷ others) found → StandsIn b.prices side (orders b) spot → IsBehind x next
        → NamesFirst b (filter (is_on_level side spot) others) next
    next-first spot found next here c stands behind =
        let os : List Order = filter (is_on_level side spot) others in
        let split : filter (is_on_level side spot) (x ∷ others) ≡ x ∷ os = ap (λ d. cond d (x ∷ os) os) here in
        let level = c.last x os split in
        let spots : x.spot ≡ spot = same-spot spot x.spot (and-right (is_same_side side x.side) (is_same_spot spot x.spot) here) in
        let own : AllByRecursion (λ o. is_same_spot x.spot o.spot ≡ true) os =
        weaken (λ o. is_on_level side spot o ≡ true) (λ o. is_same_spot x.spot o.spot ≡ true) (λ o e. ap (λ t. is_same_spot t o.spot) spots ∙ and-right (is_same_side side o.side) (is_same_spot spot o.spot) e) os (filter-passes (is_on_level side spot) others) in
        let not : AllByRecursion (λ o. is_same_spot x.spot o.spot ≡ false) stands.back =
        weaken (λ o. is_same_spot spot o.spot ≡ false) (λ o. is_same_spot x.spot o.spot ≡ false) (λ o e. ap (λ t. is_same_spot t o.spot) spots ∙ e) stands.back stands.back_others in
        behind side (stands.front ++ level.0) os stands.back
        (stands.split ∙ ap (λ xs. stands.front ++ (xs ++ stands.back)) level.1 ∙ ap (λ xs. stands.front ++ xs) (append_assoc level.0 (x ∷ os) stands.back) ∙ sym (append_assoc stands.front level.0 (x ∷ (os ++ stands.back))))
        (All-from_recursion (λ o. is_same_spot x.spot o.spot ≡ true) os own) (All-from_recursion (λ o. is_same_spot x.spot o.spot ≡ false) stands.back not)

    others-some : AllByRecursion (λ o. 0 < o.left) others
    others-some = let all : AllByRecursion (λ o. 0 < o.left) (x ∷ others) = subst (AllByRecursion (λ o. 0 < o.left)) split w.some in all.1

    others-places : AreByPlace others
    others-places = let all : AreByPlace (x ∷ others) = subst AreByPlace split w.places in all.1

    others-each : AllByRecursion (λ o. is_sharing side at true o ≡ true) others
    others-each = let all : AllByRecursion (λ o. is_sharing side at true o ≡ true) (x ∷ others) = subst (AllByRecursion (λ o. is_sharing side at true o ≡ true)) split w.each in all.1

    -- past a market order
    pub past-market : (next : Option ℕ) → onm x ≡ true → IsBehind x next → AreLeft b side at others (record { market = next; limit = s.limit; left = total others })
    past-market next here behind = record {
      inside = w.inside;
      market = cursor-next b side Market x others s.market next here market (next-first Market s.market next here market (stands-market b.prices side (orders b)) behind);
      limit = cursor-same b side (At at) (x ∷ others) others s.limit (ap (λ c. cond c (x ∷ filter onl others) (filter onl others)) (levels-apart side at x here)) limit;
      left = refl;
      some = others-some;
      places = others-places;
      each = others-each;
    }

    -- past an order at the limit
    pub past-limit : (next : Option ℕ) → onl x ≡ true → IsBehind x next → AreLeft b side at others (record { market = s.market; limit = next; left = total others })
    past-limit next here behind = record {
      inside = w.inside;
      market = cursor-same b side Market (x ∷ others) others s.market (ap (λ c. cond c (x ∷ filter onm others) (filter onm others)) (apart-levels side at x here)) market;
      limit = cursor-next b side (At at) x others s.limit next here limit (next-first (At at) s.limit next here limit (stands-there b.prices side (orders b) at w.inside) behind);
      left = refl;
      some = others-some;
      places = others-places;
      each = others-each;
    }

    pub own-market : (h : ℕ) (y : Order) → onm x ≡ true → s.market ≡ Some h → Names b h y → y ≡ x
    own-market h y here e named = own-of Market s.market h y here market e named

    pub own-limit : (h : ℕ) (y : Order) → onl x ≡ true → s.limit ≡ Some h → Names b h y → y ≡ x
    own-limit h y here e named = own-of (At at) s.limit h y here limit e named

-- the same with what is left as a number
pub left-is : (b : BookView) (side : Side) (at left : ℕ) (rest : List Order) (s : Sharers) → AreLeft b side at rest (with_left (total rest) s) → left ≡ total rest → AreLeft b side at rest (with_left left s)
left-is b side at left rest s w e = record { inside = w.inside; market = w.market; limit = w.limit; left = e; some = w.some; places = w.places; each = w.each }

-- ---- all that share

pub by-place : (os : List Order) → Pairs (λ a b. a.place < b.place) os → AreByPlace os
by-place [] pairs = tt
by-place (o ∷ os) pairs = (pairs.0, by-place os pairs.1)

pub filter-by_place : (t : Order → Bool) (os : List Order) → AreByPlace os → AreByPlace (filter t os)
filter-by_place t [] places = tt
filter-by_place t (o ∷ os) places = step (t o) (filter-by_place t os places.1)
  where
    step : (b : Bool) → AreByPlace (filter t os) → AreByPlace (cond b (o ∷ filter t os) (filter t os))
    step true rest = (filter-keeps (λ x. o.place < x.place) t os places.0, rest)
    step false rest = rest

level-spots : (os : List Order) (side : Side) (spot : Spot) → AllByRecursion (λ o. is_same_spot spot o.spot ≡ true) (level_of side spot os)
level-spots os side spot = weaken (λ o. is_on_level side spot o ≡ true) (λ o. is_same_spot spot o.spot ≡ true) (λ o e. and-right (is_same_side side o.side) (is_same_spot spot o.spot) e) (level_of side spot os) (filter-passes (is_on_level side spot) os)

pub sharing-by_place : (b : BookView) → IsBookView b → (side : Side) (at : ℕ) (m : Bool) → AreByPlace (sharing_of b side at m)
sharing-by_place b stands side at m = filter-by_place (is_sharing side at m) (orders b) (by-place (orders b) (pairs-from_AllPairs (λ x y. x.place < y.place) (orders b) (orders-rising b stands)))

-- at a limit no market order stands
pub no-market-shares : (os : List Order) (side : Side) (at : ℕ) → filter (is_on_level side Market) (level_of side (At at) os) ≡ []
no-market-shares os side at =
    filter-none (is_on_level side Market) (level_of side (At at) os)
    (weaken (λ o. is_on_level side (At at) o ≡ true) (λ o. is_on_level side Market o ≡ false) (λ o e. apart-levels side at o e) (level_of side (At at) os) (filter-passes (is_on_level side (At at)) os))

-- what orders better than a position have left is what stands in front of its level
module _ (n : ℕ) (side : Side) (os : List Order) (at : ℕ) (w : StandsAt n side os at) where
  front-holds : (P : Order → Type 0) → AllByRecursion P (in_priority n side os) → AllByRecursion P w.front
  front-holds P all = by w.front (subst (AllByRecursion P) w.split all)
    where
      by : (xs : List Order) → AllByRecursion P (xs ++ (level_of side (At at) os ++ w.back)) → AllByRecursion P xs
      by [] all = tt
      by (x ∷ xs) all = (all.0, by xs all.1)

  not-beyond : (s : Side) → is_beyond s at (At at) ≡ false
  not-beyond Buy = grind (arith, nat_tests)
  not-beyond Sell = grind (arith, nat_tests)

  pub ahead-is : filter (is_ahead side at) (in_priority n side os) ≡ w.front
  ahead-is =
      let own : AllByRecursion (λ o. is_same_side side o.side ≡ true) w.front = front-holds (λ o. is_same_side side o.side ≡ true) (in_priority-side side os n) in
      let level : AllByRecursion (λ o. is_ahead side at o ≡ false) (level_of side (At at) os) =
      weaken (λ o. is_on_level side (At at) o ≡ true) (λ o. is_ahead side at o ≡ false)
      (λ o e. and-none (is_same_side side o.side) (is_beyond side at o.spot) (ap (is_beyond side at) (same-spot (At at) o.spot (and-right (is_same_side side o.side) (is_same_spot (At at) o.spot) e)) ∙ not-beyond side)) (level_of side (At at) os)
      (filter-passes (is_on_level side (At at)) os) in
      let back : AllByRecursion (λ o. is_ahead side at o ≡ false) w.back =
      weaken (λ o. (is_beyond side at o.spot ≡ false) × (is_same_spot (At at) o.spot ≡ false)) (λ o. is_ahead side at o ≡ false) (λ o e. and-none (is_same_side side o.side) (is_beyond side at o.spot) e.0) w.back w.back_not in
      ap (filter (is_ahead side at)) w.split
      ∙ filter-append (is_ahead side at) w.front (level_of side (At at) os ++ w.back)
      ∙ ap (λ xs. filter (is_ahead side at) w.front ++ xs) (filter-none (is_ahead side at) (level_of side (At at) os ++ w.back) (all-append (λ o. is_ahead side at o ≡ false) (level_of side (At at) os) w.back level back))
      ∙ append-nil (filter (is_ahead side at) w.front)
      ∙ filter-all (is_ahead side at) w.front (both w.front own w.front_beyond)
    where
      both : (xs : List Order) → AllByRecursion (λ o. is_same_side side o.side ≡ true) xs → AllByRecursion (λ o. is_beyond side at o.spot ≡ true) xs → AllByRecursion (λ o. is_ahead side at o ≡ true) xs
      both [] e f = tt
      both (x ∷ xs) e f = (rw (e.0, f.0) refl, both xs e.1 f.1)

  pub front-total : All (λ o. IsSpotBelow n o.spot) os → total w.front ≡ total_left (is_ahead side at) os
  front-total below =
      ap total (sym ahead-is) ∙ total-filter (is_ahead side at) (in_priority n side os)
      ∙ total-passing (is_ahead side at) n side os below (λ o e. and-left (is_same_side side o.side) (is_beyond side at o.spot) e)

or-second : (a c : Bool) → c ≡ true → (a || c) ≡ true
or-second true c e = refl
or-second false c e = e

pub market-is : (b : BookView) (side : Side) (at : ℕ) → filter (is_on_level side Market) (sharing_of b side at true) ≡ level_of side Market (orders b)
market-is b side at = filter-within (is_on_level side Market) (is_sharing side at true) (λ o e. or-second (is_on_level side (At at) o) (is_on_level side Market o) e) (orders b)

module _ (b : BookView) (stands : IsBookView b) (side : Side) (at : ℕ) (inside : at < b.prices) where
  abbrev there : StandsAt b.prices side (orders b) at
  there = stands-at b.prices side (orders b) at inside

  abbrev ahead : ℕ
  ahead = total_left (is_ahead side at) (orders b)

  split-some : AllByRecursion (λ o. 0 < o.left) (there.front ++ (level_of side (At at) (orders b) ++ there.back))
  split-some = subst (AllByRecursion (λ o. 0 < o.left)) there.split (side-some b stands side)

  -- behind what is better stands the level
  pub behind-ahead : passed ahead (side_of b side) ≡ level_of side (At at) (orders b) ++ there.back
  behind-ahead =
      ap (passed ahead) there.split
      ∙ ap (λ v. passed v (there.front ++ (level_of side (At at) (orders b) ++ there.back))) (sym (front-total b.prices side (orders b) at there (orders-below b stands)))
      ∙ passed-front there.front (level_of side (At at) (orders b) ++ there.back) split-some

  -- and in front of it what is better
  pub front-ahead : in_front ahead (side_of b side) ≡ filter (is_ahead side at) (side_of b side)
  front-ahead =
      ap (in_front ahead) there.split
      ∙ ap (λ v. in_front v (there.front ++ (level_of side (At at) (orders b) ++ there.back))) (sym (front-total b.prices side (orders b) at there (orders-below b stands)))
      ∙ in_front-of there.front (level_of side (At at) (orders b) ++ there.back) split-some
      ∙ sym (ahead-is b.prices side (orders b) at there)

  pub front-whole : total (in_front ahead (side_of b side)) ≡ ahead
  front-whole = ap total (front-ahead ∙ ahead-is b.prices side (orders b) at there) ∙ front-total b.prices side (orders b) at there (orders-below b stands)

  limit-sharing : (m : Bool) (o : Order) → is_on_level side (At at) o ≡ true → is_sharing side at m o ≡ true
  limit-sharing true o e = ap (λ c. c || is_on_level side Market o) e
  limit-sharing false o e = e

  pub limit-is : (m : Bool) → filter (is_on_level side (At at)) (sharing_of b side at m) ≡ level_of side (At at) (orders b)
  limit-is m = filter-within (is_on_level side (At at)) (is_sharing side at m) (limit-sharing m) (orders b)

  module _ (m : Bool) (s : Sharers) where
    each-sharing : (c : Bool) (os : List Order) → AllByRecursion (λ o. is_sharing side at c o ≡ true) os → AllByRecursion (λ o. is_sharing side at true o ≡ true) os
    each-sharing true os all = all
    each-sharing false os all = weaken (λ o. is_sharing side at false o ≡ true) (λ o. is_sharing side at true o ≡ true) (λ o e. limit-sharing true o e) os all

    market-last : (c : Bool) (o : Order) (os : List Order) → filter (is_on_level side Market) (sharing_of b side at c) ≡ o ∷ os → (before : List Order) × (level_of side Market (orders b) ≡ before ++ o ∷ os)
    market-last true o os e = ([], sym (market-is b side at) ∙ e)
    market-last false o os e = let none = no-market-shares (orders b) side at in absurd (cc)

    pub all-left : NamesFirst b (filter (is_on_level side Market) (sharing_of b side at m)) s.market → NamesFirst b (level_of side (At at) (orders b)) s.limit → s.left ≡ total (sharing_of b side at m)
        → AreLeft b side at (sharing_of b side at m) s
    all-left market limit left = record {
      inside = inside;
      market = record { first = market; last = λ o os e. market-last m o os e };
      limit = record { first = subst (λ xs. NamesFirst b xs s.limit) (sym (limit-is m)) limit; last = λ o os e. ([], sym (limit-is m) ∙ e) };
      left = left;
      some = filter-keeps (λ o. 0 < o.left) (is_sharing side at m) (orders b) (recursion_from_All (λ o. 0 < o.left) (orders b) (orders-left b stands));
      places = filter-by_place (is_sharing side at m) (orders b) (by-place (orders b) (pairs-from_AllPairs (λ x y. x.place < y.place) (orders b) (orders-rising b stands)));
      each = each-sharing m (sharing_of b side at m) (filter-passes (is_sharing side at m) (orders b));
    }

  -- the limit orders behind what is better
  pub limit-first : (behind found : Option ℕ) (v : ℕ) → v ≡ ahead → NamesFirst b (passed v (side_of b side)) behind
      → ((level others : List Order) → NamesFirst b (level ++ others) behind → All (λ o. is_same_spot (At at) o.spot ≡ true) level → All (λ o. is_same_spot (At at) o.spot ≡ false) others → NamesFirst b level found)
      → NamesFirst b (level_of side (At at) (orders b)) found
  limit-first behind found v e w kept =
      kept (level_of side (At at) (orders b)) there.back (subst (λ xs. NamesFirst b xs behind) (ap (λ n. passed n (side_of b side)) e ∙ behind-ahead) w)
      (All-from_recursion (λ o. is_same_spot (At at) o.spot ≡ true) (level_of side (At at) (orders b)) (level-spots (orders b) side (At at)))
      (All-from_recursion (λ o. is_same_spot (At at) o.spot ≡ false) there.back
      (weaken (λ o. (is_beyond side at o.spot ≡ false) × (is_same_spot (At at) o.spot ≡ false)) (λ o. is_same_spot (At at) o.spot ≡ false) (λ o f. f.1) there.back there.back_not))

-- the market orders at the front of a side
pub market-kept : (b : BookView) (side : Side) (best found : Option ℕ) → NamesFirst b (side_of b side) best
    → ((level others : List Order) → NamesFirst b (level ++ others) best → All (λ o. is_same_spot Market o.spot ≡ true) level → All (λ o. is_same_spot Market o.spot ≡ false) others → NamesFirst b level found)
    → NamesFirst b (level_of side Market (orders b)) found
market-kept b side best found w kept =
    let there = stands-market b.prices side (orders b) in
    kept (level_of side Market (orders b)) there.back
    (subst (λ xs. NamesFirst b xs best) (there.split ∙ ap (λ xs. xs ++ (level_of side Market (orders b) ++ there.back)) (market-first b.prices side (orders b))) w)
    (All-from_recursion (λ o. is_same_spot Market o.spot ≡ true) (level_of side Market (orders b)) (level-spots (orders b) side Market))
    (All-from_recursion (λ o. is_same_spot Market o.spot ≡ false) there.back there.back_others)

-- ---- after a fill

-- Shares taken from an order leave the later orders of its side as they are, and what their handles name.
module _ (old new : BookView) (side : Side) (at q : ℕ) (x : Order) (prices : new.prices ≡ old.prices) (own : side_of new side ≡ taken x.place q (side_of old side)) (of : x.side ≡ side) (others : KeepsOthers x old new) where
  level-new : (spot : Spot) → ((n : ℕ) (os : List Order) → at < n → filter (is_on_level side spot) (in_priority n side os) ≡ level_of side spot os) → at < old.prices
      → level_of side spot (orders new) ≡ taken x.place q (level_of side spot (orders old))
  level-new spot is inside =
      sym (is new.prices (orders new) (subst (λ n. at < n) (sym prices) inside)) ∙ ap (filter (is_on_level side spot)) own
      ∙ filter-taken (is_on_level side spot) (λ n o. refl) x.place q (side_of old side) ∙ ap (taken x.place q) (is old.prices (orders old) inside)

  absent-later : (os : List Order) → AllByRecursion (λ o. x.place < o.place) os → filter (has_place x.place) os ≡ []
  absent-later os later = filter-none (has_place x.place) os (weaken (λ o. x.place < o.place) (λ o. eqb x.place o.place ≡ false) (λ o l. grind (arith, nat_tests, l)) os later)

  cursor-kept : (spot : Spot) (rest : List Order) (found : Option ℕ) → level_of side spot (orders new) ≡ taken x.place q (level_of side spot (orders old)) → AllByRecursion (λ o. x.place < o.place) rest
      → AllByRecursion (λ o. 0 < o.left) rest → IsCursor old side spot rest found → IsCursor new side spot rest found
  cursor-kept spot rest found level later some w = record {
    first = kept found w.first;
    last = λ o os e.
        let all = w.last o os e in
        let after : AllByRecursion (λ y. x.place < y.place) (o ∷ os) = subst (AllByRecursion (λ y. x.place < y.place)) e (filter-keeps (λ y. x.place < y.place) (is_on_level side spot) rest later) in
        let left : AllByRecursion (λ y. 0 < y.left) (o ∷ os) = subst (AllByRecursion (λ y. 0 < y.left)) e (filter-keeps (λ y. 0 < y.left) (is_on_level side spot) rest some) in
        (taken x.place q all.0, level ∙ ap (taken x.place q) all.1 ∙ taken-append x.place q all.0 (o ∷ os) ∙ ap (λ ys. taken x.place q all.0 ++ ys) (taken-absent x.place q (o ∷ os) (absent-later (o ∷ os) after) left));
  }
    where
      kept : (f : Option ℕ) → NamesFirst old (filter (is_on_level side spot) rest) f → NamesFirst new (filter (is_on_level side spot) rest) f
      kept None v = v
      kept (Some h) v =
          let u = first-of (filter (is_on_level side spot) rest) v.0 v.2 in
          let passes : AllByRecursion (λ y. is_on_level side spot y ≡ true) (v.0 ∷ u.0) = subst (AllByRecursion (λ y. is_on_level side spot y ≡ true)) u.1 (filter-passes (is_on_level side spot) rest) in
          let after : AllByRecursion (λ y. x.place < y.place) (v.0 ∷ u.0) = subst (AllByRecursion (λ y. x.place < y.place)) u.1 (filter-keeps (λ y. x.place < y.place) (is_on_level side spot) rest later) in
          let apart : eqb x.place v.0.place ≡ false = grind (arith, nat_tests, after.0) in
          (v.0, others h v.0 v.1 (ap (λ t. is_same_side t v.0.side) of ∙ and-left (is_same_side side v.0.side) (is_same_spot spot v.0.spot) passes.0) apart, v.2)

  pub left-kept : (rest : List Order) (s : Sharers) → AllByRecursion (λ o. x.place < o.place) rest → AreLeft old side at rest s → AreLeft new side at rest s
  left-kept rest s later w = record {
    inside = subst (λ n. at < n) (sym prices) w.inside;
    market = cursor-kept Market rest s.market (level-new Market (λ n os inside. level-is n side os Market (stands-market n side os)) w.inside) later w.some w.market;
    limit = cursor-kept (At at) rest s.limit (level-new (At at) (λ n os inside. level-is n side os (At at) (stands-there n side os at inside)) w.inside) later w.some w.limit;
    left = w.left;
    some = w.some;
    places = w.places;
    each = w.each;
  }

-- the first that shares is of the side
pub sharing-side : (side : Side) (at : ℕ) (o : Order) → is_sharing side at true o ≡ true → is_same_side side o.side ≡ true
sharing-side side at o e = elim (or-cases (is_on_level side (At at) o) (is_on_level side Market o) e) [
  | inl h ↦ and-left (is_same_side side o.side) (is_same_spot (At at) o.spot) h
  | inr h ↦ and-left (is_same_side side o.side) (is_same_spot Market o.spot) h
]
