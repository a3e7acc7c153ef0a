-- Demands that can share, and the shares of an allotment as their participants' orders fill them.
use Rattle.std.proofs.Common.{◌≡◌, ◌≢◌, ℕ, zero, suc, ◌+◌, ◌-◌, ◌%◌, ◌<◌, ◌≤◌, min, Bool, true, false, cond, eqb, leb, ltb, ◌&&◌, List, [], ◌∷◌, ◌++◌, map, filter, length, get_or, set, Some, None, All, inl, inr, refl, sym, ap, subst, ◌∙◌, arith}
use Rattle.std.specs.List.Sorted.{IsPermutation}
use Rattle.std.specs.List.{AllByRecursion, AllPairs, find, last_or, flat_map, range_with_len, sum_by}
use Rattle.std.specs.Option.{option_map_or}
use Rattle.std.proofs.Math.Nat.{dvd-add, dvd-sub, zero-mod}
use Rattle.std.proofs.lemmas.Nat.Gcd.{dvd_of_mod-eq-zero, mod-eq-zero_of_dvd}
use Rattle.std.proofs.lemmas.Bool.Decides.{leb_tells, nat_tests}
use Rattle.std.proofs.lemmas.List.{length-set}
use Rattle.std.proofs.lemmas.List.Elements.{All-from_recursion, recursion_from_All}
use Rattle.std.proofs.lemmas.List.FromFn.{length-map-range_with_len}
use Rattle.std.proofs.lemmas.List.Sorted.{All-permutation, sum_by-IsPermutation}
use Rattle.std.proofs.lemmas.List.Sums.{sum_by-append, sum_by-cons, sum_by-set}
use Rattle.mkt_base.specs.Book.{total_left}
use Rattle.mkt_base.specs.Fills.{Fill, filled_at, from_front, quantity, whole}
use Rattle.mkt_base.specs.declared.order.Order.{Order}
use Rattle.allotment.specs.Allotment.{allot, asked_in_all, shared}
use Rattle.allotment.specs.Laws.{before_shares}
use Rattle.allotment.specs.Rounds.{AreRounds}
use Rattle.allotment.specs.declared.demand.Demand.{Demand}
use Rattle.allotment.specs.declared.round.Round.{Round}
use Rattle.allotment.specs.declared.round.Round.TheVariants as R
use Rattle.allotment.proofs.LawLemmas.{accepted_rounds_serve}
use Rattle.allotment.proofs.OrderLemmas.{demands_in_order}
use Rattle.book_law.specs.Sides.{total}
use Rattle.book_law.proofs.Pairs.{Pairs, weaken}
use Rattle.book_law.proofs.TakenLemmas.{total-cons, total-filter, total-sum}
use Rattle.itayose.specs.Fills.{demand_of, demands_by_number, demands_of, fill_in, is_by, own_fills, shared_fills}
use Rattle.itayose.specs.Sharing.{AreByPlace, CanShare, fill_of, own_shares, share_of, shares_by_number}
use Rattle.itayose.proofs.FillingLemmas.{quantity-cons, quantity-none}
use Rattle.itayose.proofs.RoundsLemmas.{at-number, counts, none-shares, numbers-add_up, range-once, set-by_number, sum-alike}
use Rattle.itayose.proofs.SharingLemmas.{filter-keeps}

-- ---- numbers in units

pub units-add : (unit a b : ℕ) → a % unit ≡ 0 → b % unit ≡ 0 → (a + b) % unit ≡ 0
units-add unit a b s t = mod-eq-zero_of_dvd unit (dvd-add unit (dvd_of_mod-eq-zero unit s) (dvd_of_mod-eq-zero unit t))

pub units-sub : (unit a b : ℕ) → a % unit ≡ 0 → b % unit ≡ 0 → (a - b) % unit ≡ 0
units-sub unit a b s t = mod-eq-zero_of_dvd unit (dvd-sub unit (dvd_of_mod-eq-zero unit s) (dvd_of_mod-eq-zero unit t))

pub units-min : (unit a b : ℕ) → a % unit ≡ 0 → b % unit ≡ 0 → min a b % unit ≡ 0
units-min unit a b s t = elim (leb_tells a b) [
  | inl h ↦ let e : min a b ≡ a = omega arith in ap (λ n. n % unit) e ∙ s
  | inr h ↦ let e : min a b ≡ b = omega arith in ap (λ n. n % unit) e ∙ t
]

pub units-none : (unit : ℕ) → 0 % unit ≡ 0
units-none unit = zero-mod unit

nothing-total : total [] ≡ 0
unfolding quantity
nothing-total = refl

pub total-units : (unit : ℕ) (os : List Order) → AllByRecursion (λ o. o.left % unit ≡ 0) os → total os % unit ≡ 0
total-units unit [] all = ap (λ n. n % unit) nothing-total ∙ units-none unit
total-units unit (o ∷ os) all = ap (λ n. n % unit) (total-cons o os) ∙ units-add unit o.left (total os) all.0 (total-units unit os all.1)

-- ---- demands

pub allpairs-from : {X : Type 0} (R : X → X → Type 0) (xs : List X) → Pairs R xs → AllPairs R xs
allpairs-from R [] p i j d h k = absurd (omega (arith, k))
allpairs-from R (x ∷ xs) p zero zero d h k = absurd (omega (arith, h))
allpairs-from R (x ∷ xs) p zero (suc j) d h k = All-from_recursion (R x) xs p.0 j d (omega (arith, k))
allpairs-from R (x ∷ xs) p (suc i) zero d h k = absurd (omega (arith, h))
allpairs-from R (x ∷ xs) p (suc i) (suc j) d h k = allpairs-from R xs p.1 i j d (omega (arith, h)) (omega (arith, k))

abbrev first_place : (Order → Bool) → List Order → ℕ
first_place t os = option_map_or (λ o. o.place) (find t os) 0

-- the first place of some orders behind another one is later
first-later : (t : Order → Bool) (place : ℕ) (os : List Order) → AllByRecursion (λ o. place < o.place) os → 0 < total (filter t os) → place < first_place t os
first-later t place [] later some = absurd (omega (arith, some, nothing-total))
first-later t place (o ∷ os) later some = step (t o) (λ h. first-later t place os later.1 h) some
  where
    step : (b : Bool) → (0 < total (filter t os) → place < first_place t os) → 0 < total (cond b (o ∷ filter t os) (filter t os)) → place < option_map_or (λ y. y.place) (cond b (Some o) (find t os)) 0
    step true rest h = later.0
    step false rest h = rest h

-- participants with the same first place are one
firsts-apart : (q r : ℕ) (os : List Order) → AreByPlace os → 0 < total (filter (is_by q) os) → 0 < total (filter (is_by r) os) → first_place (is_by q) os ≡ first_place (is_by r) os → q ≡ r
firsts-apart q r [] places a b e = absurd (omega (arith, a, nothing-total))
firsts-apart q r (o ∷ os) places a b e = step (is_by q o) (is_by r o) refl refl (λ g h f. firsts-apart q r os places.1 g h f) a b e
  where
    step : (c d : Bool) → is_by q o ≡ c → is_by r o ≡ d → (0 < total (filter (is_by q) os) → 0 < total (filter (is_by r) os) → first_place (is_by q) os ≡ first_place (is_by r) os → q ≡ r)
        → 0 < total (cond c (o ∷ filter (is_by q) os) (filter (is_by q) os)) → 0 < total (cond d (o ∷ filter (is_by r) os) (filter (is_by r) os))
        → option_map_or (λ y. y.place) (cond c (Some o) (find (is_by q) os)) 0 ≡ option_map_or (λ y. y.place) (cond d (Some o) (find (is_by r) os)) 0 → q ≡ r
    step true true f g rest a b e = grind (arith, nat_tests, f, g)
    step true false f g rest a b e = absurd (omega (arith, e, first-later (is_by r) o.place os places.0 b))
    step false true f g rest a b e = absurd (omega (arith, e, first-later (is_by q) o.place os places.0 a))
    step false false f g rest a b e = rest a b e

abbrev asks : Demand → Bool
asks d = ltb 0 d.asked

-- a demand of one of the participants of a range, for something
abbrev IsOf : List Order → ℕ → ℕ → Demand → Type 0
IsOf os a n d = (r : ℕ) × (d ≡ demand_of os r) × (a ≤ r) × (r < n) × (0 < d.asked)

module _ (os : List Order) where
  abbrev some_of : ℕ → ℕ → List Demand
  some_of a n = filter asks (map (demand_of os) (range_with_len a n))

  of-range : (a n m : ℕ) → a + n ≤ m → AllByRecursion (IsOf os a m) (some_of a n)
  of-range a zero m h = tt
  of-range a (suc n) m h =
      step (asks (demand_of os a)) refl
      (weaken (IsOf os (a + 1) m) (IsOf os a m) (λ d w. (w.0, w.1, omega (arith, w.2), w.3, w.4)) (some_of (a + 1) n) (of-range (a + 1) n m (omega (arith, h))))
    where
      step : (b : Bool) → asks (demand_of os a) ≡ b → AllByRecursion (IsOf os a m) (some_of (a + 1) n) → AllByRecursion (IsOf os a m) (cond b (demand_of os a ∷ some_of (a + 1) n) (some_of (a + 1) n))
      step true e rest = ((a, refl, omega arith, omega (arith, h), grind (arith, nat_tests, e)), rest)
      step false e rest = rest

  module _ (places : AreByPlace os) where
    firsts-of : (a n m : ℕ) → a + n ≤ m → Pairs (λ d e. d.first ≢ e.first) (some_of a n)
    firsts-of a zero m h = tt
    firsts-of a (suc n) m h = step (asks (demand_of os a)) refl (firsts-of (a + 1) n m (omega (arith, h)))
      where
        other : 0 < (demand_of os a).asked → (d : Demand) → IsOf os (a + 1) m d → (demand_of os a).first ≢ d.first
        other some d w e =
            let asked : 0 < (demand_of os w.0).asked = subst (λ x. 0 < x.asked) w.1 w.4 in
            let same : a ≡ w.0 = firsts-apart a w.0 os places some asked (e ∙ ap (λ x. x.first) w.1) in
            absurd (omega (arith, same, w.2))

        step : (b : Bool) → asks (demand_of os a) ≡ b → Pairs (λ d e. d.first ≢ e.first) (some_of (a + 1) n) → Pairs (λ d e. d.first ≢ e.first) (cond b (demand_of os a ∷ some_of (a + 1) n) (some_of (a + 1) n))
        step true e rest =
            let some : 0 < (demand_of os a).asked = grind (arith, nat_tests, e) in
            (weaken (IsOf os (a + 1) m) (λ d. (demand_of os a).first ≢ d.first) (other some) (some_of (a + 1) n) (of-range (a + 1) n m (omega (arith, h))), rest)
        step false e rest = rest

filter-short : {X : Type 0} (t : X → Bool) (xs : List X) → length (filter t xs) ≤ length xs
filter-short t [] = omega arith
filter-short t (x ∷ xs) = step (t x) (filter-short t xs)
  where
    step : (b : Bool) → length (filter t xs) ≤ length xs → length (cond b (x ∷ filter t xs) (filter t xs)) ≤ length (x ∷ xs)
    step true rest = omega (arith, rest)
    step false rest = omega (arith, rest)

-- a sum over those that pass is no more, and all of it where the others have nothing
sum-filter-le : {X : Type 0} (f : X → ℕ) (t : X → Bool) (xs : List X) → sum_by f (filter t xs) ≤ sum_by f xs
sum-filter-le f t [] = omega arith
sum-filter-le f t (x ∷ xs) = step (t x) (sum-filter-le f t xs)
  where
    step : (b : Bool) → sum_by f (filter t xs) ≤ sum_by f xs → sum_by f (cond b (x ∷ filter t xs) (filter t xs)) ≤ sum_by f (x ∷ xs)
    step true rest = omega (arith, rest, sum_by-cons f x xs, sum_by-cons f x (filter t xs))
    step false rest = omega (arith, rest, sum_by-cons f x xs)

sum-filter-all : (ds : List Demand) → sum_by (λ d. d.asked) (filter asks ds) ≡ sum_by (λ d. d.asked) ds
sum-filter-all [] = refl
sum-filter-all (d ∷ ds) = step (asks d) refl (sum-filter-all ds)
  where
    step : (b : Bool) → asks d ≡ b → sum_by (λ e. e.asked) (filter asks ds) ≡ sum_by (λ e. e.asked) ds → sum_by (λ e. e.asked) (cond b (d ∷ filter asks ds) (filter asks ds)) ≡ sum_by (λ e. e.asked) (d ∷ ds)
    step true e rest = omega (arith, rest, sum_by-cons (λ x. x.asked) d ds, sum_by-cons (λ x. x.asked) d (filter asks ds))
    step false e rest =
        let none : d.asked ≡ 0 = grind (arith, nat_tests, e) in
        omega (arith, rest, none, sum_by-cons (λ x. x.asked) d ds)

sum-map : {X Y : Type 0} (f : Y → ℕ) (g : X → Y) (xs : List X) → sum_by f (map g xs) ≡ sum_by (λ x. f (g x)) xs
sum-map f g [] = refl
sum-map f g (x ∷ xs) = omega (arith, sum_by-cons f (g x) (map g xs), sum_by-cons (λ y. f (g y)) x xs, sum-map f g xs)

-- all that some orders have is asked for
pub asked-total : (os : List Order) → AllByRecursion (λ o. o.participant.0 < 64) os → asked_in_all (demands_of os) ≡ total os
unfolding demands_by_number total_left
asked-total os below =
    sum-filter-all (map (demand_of os) (range_with_len 0 64))
    ∙ sum-map (λ d. d.asked) (demand_of os) (range_with_len 0 64)
    ∙ sum-alike (λ q. total (filter (is_by q) os)) (λ q. sum_by (λ o. cond (eqb q o.participant.0) o.left 0) os) (λ q. total-filter (is_by q) os) (range_with_len 0 64)
    ∙ numbers-add_up (λ o. o.participant.0) (λ o. o.left) 64 os below
    ∙ sym (total-sum os)

eq-swap : (a b : ℕ) → eqb a b ≡ eqb b a
eq-swap a b = by (eqb a b) refl
  where
    by : (c : Bool) → eqb a b ≡ c → c ≡ eqb b a
    by true e = grind (arith, nat_tests, e)
    by false e = grind (arith, nat_tests, e)

most-one : (b : Bool) → cond {A = ℕ} b 1 0 ≤ 1
most-one true = omega arith
most-one false = omega arith

pub asked-once : (os : List Order) (q : ℕ) → counts q (demands_of os) ≤ 1
unfolding demands_by_number
asked-once os q =
    let all : sum_by (λ d. cond {A = ℕ} (eqb q d.participant.0) 1 0) (map (demand_of os) (range_with_len 0 64)) ≡ cond (leb 0 q && ltb q (0 + 64)) 1 0 =
    sum-map (λ d. cond {A = ℕ} (eqb q d.participant.0) 1 0) (demand_of os) (range_with_len 0 64)
    ∙ sum-alike (λ r. cond {A = ℕ} (eqb q r) 1 0) (λ r. cond {A = ℕ} (eqb r q) 1 0) (λ r. ap (λ b. cond {A = ℕ} b 1 0) (eq-swap q r)) (range_with_len 0 64)
    ∙ range-once q 1 0 64 in
    let most = sum-filter-le (λ d. cond {A = ℕ} (eqb q d.participant.0) 1 0) asks (map (demand_of os) (range_with_len 0 64)) in
    omega (arith, all, most, most-one (leb 0 q && ltb q (0 + 64)))

pub asked-unshared : (os : List Order) → All (λ d. d.share ≡ 0) (demands_of os)
unfolding demands_by_number
asked-unshared os = All-from_recursion (λ d. d.share ≡ 0) (some_of os 0 64) (weaken (IsOf os 0 64) (λ d. d.share ≡ 0) (λ d w. ap (λ x. x.share) w.1) (some_of os 0 64) (of-range os 0 64 64 (omega arith)))

pub asked-units : (os : List Order) (unit : ℕ) → AllByRecursion (λ o. o.left % unit ≡ 0) os → All (λ d. d.asked % unit ≡ 0) (demands_of os)
unfolding demands_by_number
asked-units os unit units =
    All-from_recursion (λ d. d.asked % unit ≡ 0) (some_of os 0 64)
    (weaken (IsOf os 0 64) (λ d. d.asked % unit ≡ 0)
    (λ d w. ap (λ x. x.asked % unit) w.1 ∙ total-units unit (filter (is_by w.0) os) (filter-keeps (λ o. o.left % unit ≡ 0) (is_by w.0) os units)) (some_of os 0 64) (of-range os 0 64 64 (omega arith)))

-- the demands of orders in units can share what no more than the orders have
pub can-share : (os : List Order) (unit given : ℕ) → AreByPlace os → AllByRecursion (λ o. o.participant.0 < 64) os → AllByRecursion (λ o. o.left % unit ≡ 0) os → given % unit ≡ 0 → given ≤ total os
    → CanShare unit given (demands_of os)
unfolding demands_by_number
can-share os unit given places below units in_units most = record {
  few = omega (arith, filter-short asks (map (demand_of os) (range_with_len 0 64)), length-map-range_with_len (demand_of os) 0 64);
  places = allpairs-from (λ a b. a.first ≢ b.first) (some_of os 0 64) (firsts-of os places 0 64 64 (omega arith));
  asked =
      All-from_recursion (λ d. (0 < d.asked) × (d.asked % unit ≡ 0)) (some_of os 0 64)
      (weaken (IsOf os 0 64) (λ d. (0 < d.asked) × (d.asked % unit ≡ 0))
      (λ d w. (w.4, ap (λ x. x.asked % unit) w.1 ∙ total-units unit (filter (is_by w.0) os) (filter-keeps (λ o. o.left % unit ≡ 0) (is_by w.0) os units))) (some_of os 0 64) (of-range os 0 64 64 (omega arith)));
  unshared = All-from_recursion (λ d. d.share ≡ 0) (some_of os 0 64) (weaken (IsOf os 0 64) (λ d. d.share ≡ 0) (λ d w. ap (λ x. x.share) w.1) (some_of os 0 64) (of-range os 0 64 64 (omega arith)));
  in_units = in_units;
  within = omega (arith, most, asked-total os below);
  participants =
      All-from_recursion (λ d. d.participant.0 < 64) (some_of os 0 64)
      (weaken (IsOf os 0 64) (λ d. d.participant.0 < 64) (λ d w. let e : d.participant.0 ≡ w.0 = ap (λ x. x.participant.0) w.1 in omega (arith, e, w.3)) (some_of os 0 64) (of-range os 0 64 64 (omega arith)));
  once = asked-once os;
}

-- ---- after the allotment

pub last-round : (rounds : List Round) → AreRounds rounds → last_or None rounds ≡ Some R.All
last-round rounds are = (accepted_rounds_serve rounds are).1

before-all : (ds : List Demand) → AllByRecursion (λ d. d.participant.0 < 64) (map before_shares ds) → AllByRecursion (λ d. d.participant.0 < 64) ds
before-all [] all = tt
before-all (d ∷ ds) all = (all.0, before-all ds all.1)

module _ (rounds : List Round) (unit given : ℕ) (ds : List Demand) (unshared : All (λ d. d.share ≡ 0) ds) where
  abbrev after : List Demand
  after = allot rounds unit ds given

  permuted : IsPermutation ds (map before_shares after)
  permuted = (demands_in_order rounds unit ds given unshared).0

  pub allot-participants : All (λ d. d.participant.0 < 64) ds → All (λ d. d.participant.0 < 64) after
  allot-participants all =
      All-from_recursion (λ d. d.participant.0 < 64) after
      (before-all after (recursion_from_All (λ d. d.participant.0 < 64) (map before_shares after) (All-permutation (λ d. d.participant.0 < 64) ds (map before_shares after) permuted all)))

  pub allot-once : (q : ℕ) → counts q ds ≤ 1 → counts q after ≤ 1
  allot-once q once =
      let f : Demand → ℕ = λ d. cond {A = ℕ} (eqb q d.participant.0) 1 0 in
      omega (arith, once, sum_by-IsPermutation f ds (map before_shares after) permuted, sum-map f before_shares after)

-- ---- what orders fill of shares

abbrev by_number : List Demand → ℕ → ℕ
by_number shares q = share_of shares q

at-cons : (place : ℕ) (f : Fill) (fs : List Fill) → filled_at place (f ∷ fs) ≡ cond (eqb place f.place) f.qty 0 + filled_at place fs
unfolding filled_at
at-cons place f fs = sum_by-cons (λ g. cond (eqb place g.place) g.qty 0) f fs

at-none : (place : ℕ) → filled_at place [] ≡ 0
unfolding filled_at
at-none place = refl

at-append : (place : ℕ) (fs gs : List Fill) → filled_at place (fs ++ gs) ≡ filled_at place fs + filled_at place gs
unfolding filled_at
at-append place fs gs = sum_by-append (λ g. cond (eqb place g.place) g.qty 0) fs gs

-- orders at later places fill nothing at a place
later-none : (place n : ℕ) (os : List Order) → AllByRecursion (λ o. place < o.place) os → filled_at place (from_front n (whole os)) ≡ 0
unfolding from_front
later-none place n [] later = at-none place
later-none place n (o ∷ os) later =
    let apart : eqb place o.place ≡ false = grind (arith, nat_tests, later.0) in
    let here : cond (eqb place o.place) (min n o.left) 0 ≡ 0 = ap (λ b. cond b (min n o.left) 0) apart in
    omega (arith, here, at-cons place (fill_of o.place (min n o.left)) (from_front (n - o.left) (whole os)), later-none place (n - o.left) os later.1)

-- nothing from the front fills nothing
front-nothing : (place : ℕ) (fs : List Fill) → filled_at place (from_front 0 fs) ≡ 0
unfolding from_front
front-nothing place [] = at-none place
front-nothing place (f ∷ fs) =
    let none : min 0 f.qty ≡ 0 = grind (arith, nat_tests) in
    let rest : 0 - f.qty ≡ 0 = omega arith in
    let here : cond (eqb place f.place) (min 0 f.qty) 0 ≡ 0 = nothing (eqb place f.place) (min 0 f.qty) none in
    omega (arith, here, at-cons place (record f { qty = min 0 f.qty }) (from_front (0 - f.qty) fs), ap (λ n. filled_at place (from_front n fs)) rest, front-nothing place fs)
  where
    nothing : (b : Bool) (n : ℕ) → n ≡ 0 → cond b n 0 ≡ 0
    nothing true n e = e
    nothing false n e = refl

-- what the order o fills where its participant has so much
abbrev own_fill : (ℕ → ℕ) → List Order → Order → ℕ
own_fill has os o = filled_at o.place (from_front (has o.participant.0) (whole (filter (is_by o.participant.0) os)))

abbrev fill_by : (Order → ℕ) → Order → Fill
fill_by f o = fill_of o.place (f o)

map-alike : (f g : Order → Fill) (os : List Order) → AllByRecursion (λ o. f o ≡ g o) os → map f os ≡ map g os
map-alike f g [] all = refl
map-alike f g (o ∷ os) all = ap (λ x. x ∷ map f os) all.0 ∙ ap (λ xs. g o ∷ xs) (map-alike f g os all.1)

-- an order in front takes from what those of its own participant have alone
own-behind : (has next : ℕ → ℕ) (x : Order) (xs : List Order) (o : Order) → x.place < o.place → next x.participant.0 ≡ has x.participant.0 - x.left → ((q : ℕ) → eqb q x.participant.0 ≡ false → next q ≡ has q)
    → own_fill next xs o ≡ own_fill has (x ∷ xs) o
unfolding from_front
own-behind has next x xs o after own others = by (eqb o.participant.0 x.participant.0) refl
  where
    q : ℕ
    q = o.participant.0

    by : (b : Bool) → eqb o.participant.0 x.participant.0 ≡ b
        → filled_at o.place (from_front (next o.participant.0) (whole (filter (is_by o.participant.0) xs))) ≡ filled_at o.place (from_front (has o.participant.0) (whole (cond b (x ∷ filter (is_by o.participant.0) xs) (filter (is_by o.participant.0) xs))))
    by true e =
        let same : o.participant.0 ≡ x.participant.0 = grind (arith, nat_tests, e) in
        let apart : eqb o.place x.place ≡ false = grind (arith, nat_tests, after) in
        let here : cond (eqb o.place x.place) (min (has o.participant.0) x.left) 0 ≡ 0 = ap (λ b. cond b (min (has o.participant.0) x.left) 0) apart in
        let left : next o.participant.0 ≡ has o.participant.0 - x.left = ap next same ∙ own ∙ ap (λ n. has n - x.left) (sym same) in
        omega (
          arith,
          here,
          at-cons o.place (fill_of x.place (min (has o.participant.0) x.left)) (from_front (has o.participant.0 - x.left) (whole (filter (is_by o.participant.0) xs))),
          ap (λ n. filled_at o.place (from_front n (whole (filter (is_by o.participant.0) xs)))) left,
        )
    by false e = ap (λ n. filled_at o.place (from_front n (whole (filter (is_by o.participant.0) xs)))) (others o.participant.0 e)

-- orders in turn fill what each fills of its participant's share
pub own-shares-are : (has : ℕ → ℕ) (shares : List ℕ) (os : List Order) → shares ≡ map has (range_with_len 0 64) → AreByPlace os → AllByRecursion (λ o. o.participant.0 < 64) os
    → own_shares shares os ≡ map (fill_by (own_fill has os)) os
unfolding own_shares from_front
own-shares-are has shares [] is places below = refl
own-shares-are has shares (x ∷ xs) is places below =
    let q = x.participant.0 in
    let got : get_or shares q 0 ≡ has q = at-number has 64 q shares 0 is below.0 in
    let next : ℕ → ℕ = λ r. has r - cond (eqb r q) x.left 0 in
    let own : next q ≡ has q - x.left = ap (λ b. has q - cond b x.left 0) (same-number q) in
    let others : (r : ℕ) → eqb r q ≡ false → next r ≡ has r = λ r e. ap (λ b. has r - cond b x.left 0) e ∙ less-none (has r) in
    let spent : get_or shares q 0 - min x.left (get_or shares q 0) ≡ next q = ap (λ n. n - min x.left n) got ∙ sym (own ∙ less-min (has q) x.left) in
    let rest = own-shares-are next (set shares q (get_or shares q 0 - min x.left (get_or shares q 0))) xs (set-by_number has next 64 q shares (get_or shares q 0 - min x.left (get_or shares q 0)) is below.0 spent others) places.1 below.1 in
    let first : min x.left (get_or shares q 0) ≡ own_fill has (x ∷ xs) x = ap (min x.left) got ∙ sym (first-fill (has q)) in
    ap (λ n. fill_of x.place n ∷ own_shares (set shares q (get_or shares q 0 - min x.left (get_or shares q 0))) xs) first
    ∙ ap (λ fs. fill_of x.place (own_fill has (x ∷ xs) x) ∷ fs)
    (rest ∙ map-alike (fill_by (own_fill next xs)) (fill_by (own_fill has (x ∷ xs))) xs
    (weaken (λ o. x.place < o.place) (λ o. fill_by (own_fill next xs) o ≡ fill_by (own_fill has (x ∷ xs)) o) (λ o after. ap (fill_of o.place) (own-behind has next x xs o after own others)) xs places.0))
  where
    same-number : (n : ℕ) → eqb n n ≡ true
    same-number n = grind (arith, nat_tests)

    less-none : (n : ℕ) → n - 0 ≡ n
    less-none n = omega arith

    less-min : (n m : ℕ) → n - m ≡ n - min m n
    less-min n m = omega arith

    first-fill : (n : ℕ) → filled_at x.place (from_front n (whole (filter (is_by x.participant.0) (x ∷ xs)))) ≡ min x.left n
    first-fill n =
        let here : eqb x.place x.place ≡ true = same-number x.place in
        let own : is_by x.participant.0 x ≡ true = same-number x.participant.0 in
        let all : filter (is_by x.participant.0) (x ∷ xs) ≡ x ∷ filter (is_by x.participant.0) xs = ap (λ b. cond b (x ∷ filter (is_by x.participant.0) xs) (filter (is_by x.participant.0) xs)) own in
        let qty : cond (eqb x.place x.place) (min n x.left) 0 ≡ min n x.left = ap (λ b. cond b (min n x.left) 0) here in
        ap (λ os. filled_at x.place (from_front n (whole os))) all
        ∙ omega (
          arith,
          qty,
          at-cons x.place (fill_of x.place (min n x.left)) (from_front (n - x.left) (whole (filter (is_by x.participant.0) xs))),
          later-none x.place (n - x.left) (filter (is_by x.participant.0) xs) (filter-keeps (λ o. x.place < o.place) (is_by x.participant.0) xs places.0),
        )

-- what another participant's orders fill at an order's place
abbrev IsForeign : List Order → Order → Type 0
IsForeign os o = (q n : ℕ) → eqb q o.participant.0 ≡ false → filled_at o.place (from_front n (whole (filter (is_by q) os))) ≡ 0

foreign-none : (os : List Order) → AreByPlace os → AllByRecursion (IsForeign os) os
unfolding from_front
foreign-none [] places = tt
foreign-none (x ∷ xs) places = (first, others xs places.0 (foreign-none xs places.1))
  where
    first : IsForeign (x ∷ xs) x
    first q n e =
        ap (λ b. filled_at x.place (from_front n (whole (cond b (x ∷ filter (is_by q) xs) (filter (is_by q) xs))))) e
        ∙ later-none x.place n (filter (is_by q) xs) (filter-keeps (λ o. x.place < o.place) (is_by q) xs places.0)

    behind : (o : Order) → x.place < o.place → IsForeign xs o → (b : Bool) (q n : ℕ) → eqb q o.participant.0 ≡ false → filled_at o.place (from_front n (whole (cond b (x ∷ filter (is_by q) xs) (filter (is_by q) xs)))) ≡ 0
    behind o after rest true q n e =
        let apart : eqb o.place x.place ≡ false = grind (arith, nat_tests, after) in
        let here : cond (eqb o.place x.place) (min n x.left) 0 ≡ 0 = ap (λ b. cond b (min n x.left) 0) apart in
        omega (arith, here, at-cons o.place (fill_of x.place (min n x.left)) (from_front (n - x.left) (whole (filter (is_by q) xs))), rest q (n - x.left) e)
    behind o after rest false q n e = rest q n e

    others : (ys : List Order) → AllByRecursion (λ o. x.place < o.place) ys → AllByRecursion (IsForeign xs) ys → AllByRecursion (IsForeign (x ∷ xs)) ys
    others [] later rest = tt
    others (y ∷ ys) later rest = (λ q n e. behind y later.0 rest.0 (is_by q x) q n e, others ys later.1 rest.1)

-- an order fills of the shares what it fills of its participant's
shared-at : (os : List Order) (o : Order) (ds : List Demand) → counts o.participant.0 ds ≤ 1 → IsForeign os o → filled_at o.place (flat_map (own_fills os) ds) ≡ own_fill (share_of ds) os o
shared-at os o [] once foreign = at-none o.place ∙ sym (front-nothing o.place (whole (filter (is_by o.participant.0) os)))
shared-at os o (d ∷ ds) once foreign = by (eqb o.participant.0 d.participant.0) refl (λ h. shared-at os o ds h foreign)
  where
    F : ℕ → ℕ
    F n = filled_at o.place (from_front n (whole (filter (is_by o.participant.0) os)))

    parts : filled_at o.place (flat_map (own_fills os) (d ∷ ds)) ≡ filled_at o.place (own_fills os d) + filled_at o.place (flat_map (own_fills os) ds)
    parts = at-append o.place (own_fills os d) (flat_map (own_fills os) ds)

    count : counts o.participant.0 (d ∷ ds) ≡ cond {A = ℕ} (eqb o.participant.0 d.participant.0) 1 0 + counts o.participant.0 ds
    count = sum_by-cons (λ e. cond {A = ℕ} (eqb o.participant.0 e.participant.0) 1 0) d ds

    share : share_of (d ∷ ds) o.participant.0 ≡ cond (eqb o.participant.0 d.participant.0) d.share 0 + share_of ds o.participant.0
    share = sum_by-cons (λ e. cond (eqb o.participant.0 e.participant.0) e.share 0) d ds

    by : (b : Bool) → eqb o.participant.0 d.participant.0 ≡ b → (counts o.participant.0 ds ≤ 1 → filled_at o.place (flat_map (own_fills os) ds) ≡ F (share_of ds o.participant.0))
        → filled_at o.place (flat_map (own_fills os) (d ∷ ds)) ≡ F (share_of (d ∷ ds) o.participant.0)
    by true e rest =
        let same : d.participant.0 ≡ o.participant.0 = grind (arith, nat_tests, e) in
        let one : cond {A = ℕ} (eqb o.participant.0 d.participant.0) 1 0 ≡ 1 = ap (λ b. cond b 1 0) e in
        let none : counts o.participant.0 ds ≡ 0 = omega (arith, one, count, once) in
        let nothing : share_of ds o.participant.0 ≡ 0 = none-shares o.participant.0 ds none in
        let here : cond (eqb o.participant.0 d.participant.0) d.share 0 ≡ d.share = ap (λ b. cond b d.share 0) e in
        let all : share_of (d ∷ ds) o.participant.0 ≡ d.share = omega (arith, share, here, nothing) in
        let own : filled_at o.place (own_fills os d) ≡ F d.share = ap (λ n. filled_at o.place (from_front d.share (whole (filter (is_by n) os)))) same in
        let others : filled_at o.place (flat_map (own_fills os) ds) ≡ 0 = rest (omega (arith, none)) ∙ ap F nothing ∙ front-nothing o.place (whole (filter (is_by o.participant.0) os)) in
        let sum : F (share_of (d ∷ ds) o.participant.0) ≡ F d.share = ap F all in
        omega (arith, parts, own, others, sum)
    by false e rest =
        let apart : eqb d.participant.0 o.participant.0 ≡ false = grind (arith, nat_tests, e) in
        let zero' : cond {A = ℕ} (eqb o.participant.0 d.participant.0) 1 0 ≡ 0 = ap (λ b. cond b 1 0) e in
        let here : cond (eqb o.participant.0 d.participant.0) d.share 0 ≡ 0 = ap (λ b. cond b d.share 0) e in
        let all : share_of (d ∷ ds) o.participant.0 ≡ share_of ds o.participant.0 = omega (arith, share, here) in
        let sum : F (share_of (d ∷ ds) o.participant.0) ≡ F (share_of ds o.participant.0) = ap F all in
        omega (arith, parts, foreign d.participant.0 d.share apart, rest (omega (arith, count, once, zero')), sum)

-- so what each order fills in turn is what the rounds give it
pub shares-fill : (os : List Order) (ds : List Demand) → AreByPlace os → AllByRecursion (λ o. o.participant.0 < 64) os → ((q : ℕ) → counts q ds ≤ 1) → own_shares (shares_by_number ds) os ≡ shared_fills os ds
unfolding shares_by_number
shares-fill os ds places below once =
    own-shares-are (share_of ds) (map (share_of ds) (range_with_len 0 64)) os refl places below
    ∙ map-alike (fill_by (own_fill (share_of ds) os)) (fill_in (flat_map (own_fills os) ds)) os
    (weaken (IsForeign os) (λ o. fill_by (own_fill (share_of ds) os) o ≡ fill_in (flat_map (own_fills os) ds) o) (λ o foreign. ap (fill_of o.place) (sym (shared-at os o ds (once o.participant.0) foreign))) os (foreign-none os places))

-- no more is filled than was given out
own-shares-le : (shares : List ℕ) (os : List Order) → length shares ≡ 64 → AllByRecursion (λ o. o.participant.0 < 64) os → quantity (own_shares shares os) ≤ sum_by (λ n. n) shares
unfolding own_shares
own-shares-le shares [] size below = omega (arith, quantity-none)
own-shares-le shares (x ∷ xs) size below =
    let q = x.participant.0 in
    let has = get_or shares q 0 in
    let qty = min x.left has in
    let rest = own-shares-le (set shares q (has - qty)) xs (length-set shares q (has - qty) ∙ size) below.1 in
    let least : qty ≤ has = omega arith in
    let inside : q < length shares = omega (arith, size, below.0) in
    omega (arith, quantity-cons (fill_of x.place qty) (own_shares (set shares q (has - qty)) xs), rest, least, sum_by-set (λ (n : ℕ). n) shares q (has - qty) 0 inside)

pub shares-within : (os : List Order) (ds : List Demand) (given : ℕ) → AllByRecursion (λ o. o.participant.0 < 64) os → All (λ d. d.participant.0 < 64) ds → shared ds ≤ given → quantity (own_shares (shares_by_number ds) os) ≤ given
unfolding shares_by_number
shares-within os ds given below participants most =
    let all : sum_by (λ (n : ℕ). n) (map (share_of ds) (range_with_len 0 64)) ≡ shared ds =
    sum-map (λ (n : ℕ). n) (share_of ds) (range_with_len 0 64)
    ∙ numbers-add_up (λ d. d.participant.0) (λ d. d.share) 64 ds (recursion_from_All (λ d. d.participant.0 < 64) ds participants) in
    omega (arith, all, most, own-shares-le (map (share_of ds) (range_with_len 0 64)) os (length-map-range_with_len (share_of ds) 0 64) below)
