-- The laws of an arrival's prices and stops.
use Rattle.std.proofs.Common.{◌≡◌, ℕ, ◌+◌, ◌-◌, ◌*◌, ◌%◌, ◌<◌, ◌≤◌, min, Bool, true, false, cond, eqb, leb, ◌||◌, ◌⊎◌, inl, inr, List, [], ◌∷◌, length, filter, Some, refl, sym, ap, subst, ◌∙◌, arith}
use Rattle.std.specs.List.{AllByRecursion}
use Rattle.std.specs.Option.{option_map_or}
use Rattle.std.proofs.Math.Nat.{dvd-add, dvd-sub}
use Rattle.std.proofs.lemmas.Bool.{or_parts}
use Rattle.std.proofs.lemmas.Bool.Decides.{nat_tests}
use Rattle.std.proofs.lemmas.List.Elements.{All-from_recursion, recursion_from_All}
use Rattle.std.proofs.lemmas.Nat.Gcd.{dvd-zero, dvd_of_mod-eq-zero, mod-eq-zero_of_dvd}
use Rattle.mkt_base.specs.Book.{is_better, is_buy, is_market_or, limit_of, price_at}
use Rattle.mkt_base.specs.Fills.{after_trades, traded_at}
use Rattle.mkt_base.specs.Priority.{in_priority}
use Rattle.mkt_base.specs.declared.auction.Trade.{Trade}
use Rattle.mkt_base.specs.declared.order.Order.{Order}
use Rattle.mkt_base.specs.declared.order.Side.{Side}
use Rattle.mkt_base.specs.declared.order.Side.TheVariants.{Buy, Sell}
use Rattle.mkt_base.specs.declared.order.Spot.{Spot}
use Rattle.mkt_base.specs.declared.order.Spot.TheVariants.{Market, At}
use Rattle.mkt_base.specs.declared.units.Price.{Price}
use Rattle.auction_law.specs.Nearness.{distance}
use Rattle.book_law.specs.BookView.{IsSpotBelow}
use Rattle.book_law.proofs.AheadLemmas.{Ahead, never-better, side-ahead}
use Rattle.book_law.proofs.Pairs.{Pairs}
use Rattle.zaraba.specs.Arrival.{Arrival, arrival, arrival_over, crossed, crosses, crosses_at, cut_stop, ended_stop, is_beyond, is_gap, limit_price, opposite, trade_with, way}
use Rattle.zaraba.specs.Laws.{IsArriving, IsBeyond, IsGridPrice, LastIsNear, SequenceIsBeyond, StoppedHasLeft, TradesStand}
use Rattle.zaraba.specs.Walk.{is_too_far, jump_to, with_left, with_trades}
use Rattle.zaraba.specs.declared.stop.Stop.{Stop}
use Rattle.zaraba.specs.declared.stop.Stop.TheVariants.{Done, Gap, Sequence}
use Rattle.zaraba.proofs.DoneLemmas.{kept-after, traded-cons}
use Rattle.zaraba.proofs.EachLemmas.{both, crossed-all, each-trade, each-walk, filtered, halt}
use Rattle.zaraba.proofs.WalkLemmas.{trade-price}

-- ---- the orders that are crossed

-- an order that is crossed has a limit, which is a price of the grid
crossed-price : (grid : List Price) (o x : Order) → IsSpotBelow (length grid) x.spot → crosses grid o x ≡ true → IsGridPrice grid (limit_price grid x)
crossed-price grid o x below passes = by x.spot below passes
  where
    by : (s : Spot) → IsSpotBelow (length grid) s → option_map_or (λ price. is_market_or (crosses_at o.side price) (limit_of grid o.spot)) (limit_of grid s) false ≡ true → IsGridPrice grid (option_map_or (λ p. p) (limit_of grid s) 0)
    by Market h e = absurd (cc)
    by (At i) h e = (i, h, refl)

-- it has something left, and a price of the grid
abbrev Stands : List Price → Order → Type 0
Stands grid x = (0 < x.left) × IsGridPrice grid (limit_price grid x)

crossed-stand : (grid : List Price) (orders : List Order) (o : Order) → IsArriving grid orders o → AllByRecursion (Stands grid) (crossed grid o orders)
crossed-stand grid orders o is =
    crossed-all grid o (λ x. (0 < x.left) × IsSpotBelow (length grid) x.spot) (Stands grid) (λ x h e. (h.0, crossed-price grid o x h.1 e)) orders
    (both (λ x. 0 < x.left) (λ x. IsSpotBelow (length grid) x.spot) orders (recursion_from_All (λ x. 0 < x.left) orders is.book.book.left)
    (recursion_from_All (λ x. IsSpotBelow (length grid) x.spot) orders is.book.spots))

-- ---- the last price

module _ (grid : List Price) (range : ℕ → ℕ) (first : ℕ) where
  abbrev Near : List Order → Order → ℕ → Arrival → Type 0
  Near xs o now a = (distance first now ≤ 2 * range first → distance first a.last ≤ 2 * range first) × ((a.last ≡ now) ⊎ IsGridPrice grid a.last)

  -- a price that is not too far is within the range of the one before it, and within twice the range of the first
  near-parts : (now : ℕ) (x : Order) → is_too_far grid range first now x ≡ false → (distance now (limit_price grid x) ≤ range now) × (distance first (limit_price grid x) ≤ 2 * range first)
  near-parts now x e =
      let parts = or_parts (is_gap range (jump_to grid now x)) (is_beyond range first (jump_to grid now x)) e in
      (grind (arith, nat_tests, parts.0), grind (arith, nat_tests, parts.1))

  last-on_grid : (now p q : ℕ) → IsGridPrice grid p → ((q ≡ p) ⊎ IsGridPrice grid q) → (q ≡ now) ⊎ IsGridPrice grid q
  last-on_grid now p q here (inl e) = inr (here.0, here.1, e ∙ here.2)
  last-on_grid now p q here (inr on) = inr on

  near-more : (x : Order) (xs : List Order) (o : Order) (now : ℕ) (a : Arrival) → 0 < o.left → Stands grid x → is_too_far grid range first now x ≡ false
      → Near xs (with_left o (o.left - min o.left x.left)) (limit_price grid x) a → Near (x ∷ xs) o now (with_trades (trade_with grid o x (min o.left x.left) ∷ []) a)
  near-more x xs o now a some stands e rest = (λ near. rest.0 (near-parts now x e).1, last-on_grid now (limit_price grid x) a.last stands.1 rest.1)

  near : (xs : List Order) → AllByRecursion (Stands grid) xs → (o : Order) (now : ℕ) → Near xs o now (arrival_over grid range first xs o now)
  near xs all o now = each-trade grid range first (Stands grid) (λ x h. h.0) Near (λ ys p last stop. (λ h. h, inl refl)) near-more xs all o now

  same-price : (last : ℕ) → distance last last ≤ 2 * range last
  same-price last = omega arith

pub last_is_near : LastIsNear
last_is_near grid range orders o last is =
    let all = near grid range last (crossed grid o orders) (crossed-stand grid orders o is) o last in
    (all.0 (same-price grid range last last), all.1)

-- ---- the trades

module _ (grid : List Price) (range : ℕ → ℕ) (first : ℕ) where
  abbrev Whole : List Order → Order → ℕ → Arrival → Type 0
  Whole xs o now a = AllByRecursion (λ t. (1 ≤ t.qty) × IsGridPrice grid t.price.0) a.trades

  either-qty : (b : Bool) (t u : Trade) (q : ℕ) → t.qty ≡ q → u.qty ≡ q → (cond {A = Trade} b t u).qty ≡ q
  either-qty true t u q e f = e
  either-qty false t u q e f = f

  pub trade-qty : (o x : Order) (q : ℕ) → (trade_with grid o x q).qty ≡ q
  trade-qty o x q =
      let p = limit_price grid x in
      either-qty (is_buy o.side) (record { price = record { 0 = p }; qty = q; buy = o.place; sell = x.place }) (record { price = record { 0 = p }; qty = q; buy = x.place; sell = o.place }) q refl refl

  whole-more : (x : Order) (xs : List Order) (o : Order) (now : ℕ) (a : Arrival) → 0 < o.left → Stands grid x → is_too_far grid range first now x ≡ false
      → Whole xs (with_left o (o.left - min o.left x.left)) (limit_price grid x) a → Whole (x ∷ xs) o now (with_trades (trade_with grid o x (min o.left x.left) ∷ []) a)
  whole-more x xs o now a some stands e rest =
      let q = min o.left x.left in
      let has : 0 < x.left = stands.0 in
      let pos : 1 ≤ q = omega arith in
      let same-qty = trade-qty o x q in
      let same-price = trade-price grid range first o x q in
      ((omega arith, subst (IsGridPrice grid) (sym same-price) stands.1), rest)

  pub whole-trades : (xs : List Order) → AllByRecursion (Stands grid) xs → (o : Order) (now : ℕ) → Whole xs o now (arrival_over grid range first xs o now)
  whole-trades xs all o now = each-trade grid range first (Stands grid) (λ x h. h.0) Whole (λ ys p last stop. tt) whole-more xs all o now

  module _ (unit : ℕ) where
    abbrev InUnits : List Order → Order → ℕ → Arrival → Type 0
    InUnits xs o now a = o.left % unit ≡ 0 → AllByRecursion (λ t. t.qty % unit ≡ 0) a.trades × (a.left % unit ≡ 0)

    abbrev Unit-order : Order → Type 0
    Unit-order x = (0 < x.left) × (x.left % unit ≡ 0)

    least-in : (m n : ℕ) → m % unit ≡ 0 → n % unit ≡ 0 → min m n % unit ≡ 0
    least-in m n e f = by (leb m n) refl
      where
        by : (b : Bool) → leb m n ≡ b → min m n % unit ≡ 0
        by true h = let same : min m n ≡ m = grind (arith, nat_tests, h) in ap (λ k. k % unit) same ∙ e
        by false h = let same : min m n ≡ n = grind (arith, nat_tests, h) in ap (λ k. k % unit) same ∙ f

    less-in : (m n : ℕ) → m % unit ≡ 0 → n % unit ≡ 0 → (m - n) % unit ≡ 0
    less-in m n e f = mod-eq-zero_of_dvd unit (dvd-sub unit (dvd_of_mod-eq-zero unit e) (dvd_of_mod-eq-zero unit f))

    -- what trades in units take from a place is in units
    taken-in : (ts : List Trade) → AllByRecursion (λ t. t.qty % unit ≡ 0) ts → (place : ℕ) → traded_at ts place % unit ≡ 0
    unfolding traded_at
    taken-in [] all place = mod-eq-zero_of_dvd unit (dvd-zero unit)
    taken-in (t ∷ ts) all place =
        ap (λ n. n % unit) (traded-cons place t ts)
        ∙ mod-eq-zero_of_dvd unit (dvd-add unit (dvd_of_mod-eq-zero unit (here (eqb place t.buy || eqb place t.sell))) (dvd_of_mod-eq-zero unit (taken-in ts all.1 place)))
      where
        here : (b : Bool) → cond b t.qty 0 % unit ≡ 0
        here true = all.0
        here false = mod-eq-zero_of_dvd unit (dvd-zero unit)

    -- and so is what they leave of orders in units
    after-in : (ts : List Trade) → AllByRecursion (λ t. t.qty % unit ≡ 0) ts → (os : List Order) → AllByRecursion (λ x. x.left % unit ≡ 0) os → AllByRecursion (λ x. x.left % unit ≡ 0) (after_trades ts os)
    after-in ts all os units = kept-after ts (λ x. x.left % unit ≡ 0) (λ x. x.left % unit ≡ 0) (λ x h e. less-in x.left (traded_at ts x.place) h (taken-in ts all x.place)) os units

    units-more : (x : Order) (xs : List Order) (o : Order) (now : ℕ) (a : Arrival) → 0 < o.left → Unit-order x → is_too_far grid range first now x ≡ false
        → InUnits xs (with_left o (o.left - min o.left x.left)) (limit_price grid x) a → InUnits (x ∷ xs) o now (with_trades (trade_with grid o x (min o.left x.left) ∷ []) a)
    units-more x xs o now a some has e rest = λ own.
        let q = min o.left x.left in
        let traded : q % unit ≡ 0 = least-in o.left x.left own has.1 in
        let others = rest (less-in o.left q own traded) in
        ((ap (λ k. k % unit) (trade-qty o x q) ∙ traded, others.0), others.1)

    pub in-units : (xs : List Order) → AllByRecursion Unit-order xs → (o : Order) (now : ℕ) → InUnits xs o now (arrival_over grid range first xs o now)
    in-units xs all o now = each-trade grid range first Unit-order (λ x h. h.0) InUnits (λ ys p last stop own. (tt, own)) units-more xs all o now

pub trades_stand : TradesStand
trades_stand grid range orders o last is =
    let a = arrival grid range orders o last in (
      All-from_recursion (λ t. (1 ≤ t.qty) × IsGridPrice grid t.price.0) a.trades (whole-trades grid range last (crossed grid o orders) (crossed-stand grid orders o is) o last),
      λ unit some units own.
          let has = both (λ x. 0 < x.left) (λ x. x.left % unit ≡ 0) orders (recursion_from_All (λ x. 0 < x.left) orders is.book.book.left) (recursion_from_All (λ x. x.left % unit ≡ 0) orders units) in
          let all = in-units grid range last unit (crossed grid o orders) (crossed-all grid o (λ x. (0 < x.left) × (x.left % unit ≡ 0)) (λ x. (0 < x.left) × (x.left % unit ≡ 0)) (λ x h e. h) orders has) o last own in
          let after = after-in grid range last unit a.trades all.0 orders (recursion_from_All (λ x. x.left % unit ≡ 0) orders units) in
          (All-from_recursion (λ t. t.qty % unit ≡ 0) a.trades all.0, all.1, All-from_recursion (λ x. x.left % unit ≡ 0) (after_trades a.trades orders) after),
    )

-- ---- why it stops

module _ (grid : List Price) (range : ℕ → ℕ) (first : ℕ) where
  abbrev Left : List Order → Order → ℕ → Arrival → Type 0
  Left xs o now a = (side : Side) → (a.stop ≡ Gap side → 1 ≤ a.left) × (a.stop ≡ Sequence side → 1 ≤ a.left)

  left-done : (xs : List Order) (o : Order) (now : ℕ) → o.left ≡ 0 → Left xs o now (halt 0 now Done)
  left-done xs o now e = λ side. (λ stop. absurd (cc), λ stop. absurd (cc))

  pub has-left : (xs : List Order) → AllByRecursion (λ x. 0 < x.left) xs → (o : Order) (now : ℕ) → Left xs o now (arrival_over grid range first xs o now)
  has-left xs all o now =
      each-walk grid range first (λ x. 0 < x.left) (λ x h. h) Left left-done (λ p last some side. (λ stop. some, λ stop. some))
      (λ y ys p last some h e side. (λ stop. some, λ stop. some)) (λ y ys p last a some h e rest. rest) xs all o now

pub stopped_has_left : StoppedHasLeft
stopped_has_left grid range orders o last is =
    has-left grid range last (crossed grid o orders)
    (crossed-all grid o (λ x. 0 < x.left) (λ x. 0 < x.left) (λ x h e. h) orders (recursion_from_All (λ x. 0 < x.left) orders is.book.book.left)) o last

-- ---- a sequence

-- the second price is no less far to the side's way than the first
abbrev IsToward : Side → ℕ → ℕ → Type 0
IsToward Buy p q = p ≤ q
IsToward Sell p q = q ≤ p

-- the limits of two orders
abbrev AreToward : List Price → Side → Order → Order → Type 0
AreToward grid side a b = IsToward side (limit_price grid a) (limit_price grid b)

toward-from : (grid : List Price) (side : Side) (own s t : Spot)
    → option_map_or (λ price. is_market_or (crosses_at side price) (limit_of grid own)) (limit_of grid s) false ≡ true → option_map_or (λ price. is_market_or (crosses_at side price) (limit_of grid own)) (limit_of grid t) false ≡ true
    → is_better grid (opposite side) t s ≡ false → IsToward side (option_map_or (λ p. p) (limit_of grid s) 0) (option_map_or (λ p. p) (limit_of grid t) 0)
toward-from grid side own Market t e f g = absurd (cc)
toward-from grid side own (At i) Market e f g = absurd (cc)
toward-from grid Buy own (At i) (At j) e f g = grind (arith, nat_tests, g)
toward-from grid Sell own (At i) (At j) e f g = grind (arith, nat_tests, g)

pairs-filter : (R S : Order → Order → Type 0) (t : Order → Bool) → ((a b : Order) → R a b → t a ≡ true → t b ≡ true → S a b) → (xs : List Order) → Pairs R xs → Pairs S (filter t xs)
pairs-filter R S t passes [] pairs = tt
pairs-filter R S t passes (x ∷ xs) pairs = step (t x) refl (pairs-filter R S t passes xs pairs.1)
  where
    step : (b : Bool) → t x ≡ b → Pairs S (filter t xs) → Pairs S (cond b (x ∷ filter t xs) (filter t xs))
    step true e rest = (filtered (R x) (S x) t (λ y r f. passes x y r e f) xs pairs.0, rest)
    step false e rest = rest

-- the crossed orders go the order's way
crossed-toward : (grid : List Price) (orders : List Order) (o : Order) → IsArriving grid orders o → Pairs (AreToward grid o.side) (crossed grid o orders)
crossed-toward grid orders o is =
    pairs-filter (Ahead grid (opposite o.side)) (AreToward grid o.side) (crosses grid o)
    (λ a b ahead e f. toward-from grid o.side o.spot a.spot b.spot e f (never-better grid (opposite o.side) a b ahead)) (in_priority (length grid) (opposite o.side) orders)
    (side-ahead grid (opposite o.side) orders is.rising is.book.book.by_place)

module _ (grid : List Price) (range : ℕ → ℕ) (first : ℕ) where
  -- the last price is no farther than the range from the first, against the side's way
  abbrev IsAlong : Side → ℕ → Type 0
  IsAlong Buy now = first ≤ now + range first
  IsAlong Sell now = now ≤ first + range first

  -- the last price is the first, or a price from which the resting orders go on to the side's way
  abbrev From : Side → ℕ → List Order → Type 0
  From side now xs = (now ≡ first) ⊎ (IsAlong side now × AllByRecursion (λ x. IsToward side now (limit_price grid x)) xs)

  along-start : (side : Side) (p : ℕ) → distance first p ≤ range first → IsAlong side p
  along-start Buy p near = omega (arith, near)
  along-start Sell p near = omega (arith, near)

  along-more : (side : Side) (now p : ℕ) → IsAlong side now → IsToward side now p → IsAlong side p
  along-more Buy now p along to = omega (arith, along, to)
  along-more Sell now p along to = omega (arith, along, to)

  -- the first price after the last one
  along-next : (side : Side) (now : ℕ) (x : Order) (xs : List Order) → From side now (x ∷ xs) → distance now (limit_price grid x) ≤ range now → IsAlong side (limit_price grid x)
  along-next side now x xs (inl e) near = along-start side (limit_price grid x) (subst (λ n. distance n (limit_price grid x) ≤ range n) e near)
  along-next side now x xs (inr on) near = along-more side now (limit_price grid x) on.0 on.1.0

  beyond-along : (side : Side) (p : ℕ) → IsAlong side p → 2 * range first < distance first p → IsBeyond side (2 * range first) first p
  beyond-along Buy p along far = omega (arith, along, far)
  beyond-along Sell p along far = omega (arith, along, far)

  abbrev Beyond : List Order → Order → ℕ → Arrival → Type 0
  Beyond xs o now a =
      Pairs (AreToward grid o.side) xs → From o.side now xs → (side : Side) → a.stop ≡ Sequence side
      → (side ≡ o.side) × (k : ℕ) × (k < length grid) × IsBeyond side (2 * range first) first (price_at grid k)

  no-sequence : (o : Order) (side : Side) → ended_stop o.side o.spot ≡ Sequence side → ⊥
  no-sequence o side e = by o.spot e
    where
      by : (s : Spot) → ended_stop o.side s ≡ Sequence side → ⊥
      by Market f = absurd (cc)
      by (At i) f = absurd (cc)

  beyond-cut : (x : Order) (xs : List Order) (o : Order) (now : ℕ) → 0 < o.left → Stands grid x → is_too_far grid range first now x ≡ true → Beyond (x ∷ xs) o now (halt o.left now (cut_stop range o (Some (jump_to grid now x))))
  beyond-cut x xs o now some stands e = λ pairs from side stop. by (is_gap range (jump_to grid now x)) refl e from side stop
    where
      by : (b : Bool) → is_gap range (jump_to grid now x) ≡ b → (b || is_beyond range first (jump_to grid now x)) ≡ true → From o.side now (x ∷ xs) → (side : Side)
          → cond {A = Stop} b (Gap (way (jump_to grid now x))) (Sequence o.side) ≡ Sequence side → (side ≡ o.side) × (k : ℕ) × (k < length grid) × IsBeyond side (2 * range first) first (price_at grid k)
      by true f g from side stop = absurd (cc)
      by false f g from side stop =
          let same : side ≡ o.side = cc in
          let near : distance now (limit_price grid x) ≤ range now = grind (arith, nat_tests, f) in
          let far : 2 * range first < distance first (limit_price grid x) = grind (arith, nat_tests, g) in
          let beyond = beyond-along o.side (limit_price grid x) (along-next o.side now x xs from near) far in
          (same, stands.1.0, stands.1.1, subst (λ s. IsBeyond s (2 * range first) first (price_at grid stands.1.0)) (sym same) (subst (IsBeyond o.side (2 * range first) first) stands.1.2 beyond))

  beyond-more : (x : Order) (xs : List Order) (o : Order) (now : ℕ) (a : Arrival) → 0 < o.left → Stands grid x → is_too_far grid range first now x ≡ false
      → Beyond xs (with_left o (o.left - min o.left x.left)) (limit_price grid x) a → Beyond (x ∷ xs) o now (with_trades (trade_with grid o x (min o.left x.left) ∷ []) a)
  beyond-more x xs o now a some stands e rest = λ pairs from.
      rest pairs.1 (inr (along-next o.side now x xs from (near-parts grid range first now x e).0, pairs.0))

  pub sequence-beyond : (xs : List Order) → AllByRecursion (Stands grid) xs → (o : Order) (now : ℕ) → Beyond xs o now (arrival_over grid range first xs o now)
  sequence-beyond xs all o now =
      each-walk grid range first (Stands grid) (λ x h. h.0) Beyond (λ ys p last e pairs from side stop. absurd (cc)) (λ p last some pairs from side stop. absurd (no-sequence p side stop)) beyond-cut beyond-more xs all o now

pub sequence_is_beyond : SequenceIsBeyond
sequence_is_beyond grid range orders o last is side stop =
    sequence-beyond grid range last (crossed grid o orders) (crossed-stand grid orders o is) o last (crossed-toward grid orders o is) (inl refl) side stop
