-- The first order of a level, and what it is the first of.
use Rattle.std.proofs.Common.{◌≡◌, ◌≢◌, ℕ, suc, ◌<◌, ◌≤◌, ◌&&◌, Bool, true, false, cond, eqb, ltb, List, [], ◌∷◌, length, map, filter, get_or, Some, refl, sym, ◌∙◌, ap, subst, inl, inr, arith}
use Rattle.std.specs.List.{All, AllByRecursion, AllPairs, Contains, after_first, find}
use Rattle.std.proofs.lemmas.Bool.{eq-eqb, false≢true, ne_eqb}
use Rattle.std.proofs.lemmas.Bool.Decides.{nat_tests}
use Rattle.std.proofs.lemmas.List.{get_or-map, length-map}
use Rattle.std.proofs.lemmas.List.Elements.{All-from_recursion, All-map, filter_agree, recursion_from_All}
use Rattle.order_list.specs.Lists.{Linked, is_at as is_link_at}
use Rattle.mkt_base.specs.Book.{total_left}
use Rattle.mkt_base.specs.Priority.{is_on_level, is_same_side, is_same_spot}
use Rattle.mkt_base.specs.declared.order.Side.{Side}
use Rattle.mkt_base.specs.declared.order.Side.TheVariants.{Buy, Sell}
use Rattle.mkt_base.specs.declared.order.Spot.{Spot}
use Rattle.mkt_base.specs.declared.order.Spot.TheVariants.{Market, At}
use Rattle.mkt_base.specs.declared.order.Order.{Order}
use Rattle.book_law.specs.BookView.{IsBookView, IsSpotBelow, is_of, slot_of}
use Rattle.order_book.specs.Linked.{AreApart, filed_at, level_key, level_no, orders_in, slot_at}
use Rattle.order_book.specs.Plain.{plain}
use Rattle.order_book.specs.declared.held.Held.{Held}
use Rattle.order_book.proofs.DepthLemmas.{total-cons}
use Rattle.order_book.proofs.FiledLemmas.{each-weaker, filter-same, find-cases, find-holds}
use Rattle.order_book.proofs.OwnLemmas.{after-here, after-later}

-- pairs before and behind a map
AllPairs-of : {X Y : Type 0} (R : Y → Y → Type 0) (f : X → Y) (xs : List X) → AllPairs (λ x y. R (f x) (f y)) xs → (d : X) → AllPairs R (map f xs)
AllPairs-of R f xs all e i j d h k =
    let within : j < length xs = omega (arith, length-map xs f, k) in
    let first = get_or-map f xs i e d (omega (arith, h, within)) in
    let second = get_or-map f xs j e d within in
    subst (λ x. R x (get_or (map f xs) j d)) (sym first) (subst (λ y. R (f (get_or xs i e)) y) (sym second) (all i j e h within))

AllPairs-before : {X Y : Type 0} (R : Y → Y → Type 0) (f : X → Y) (xs : List X) → AllPairs R (map f xs) → AllPairs (λ x y. R (f x) (f y)) xs
AllPairs-before R f xs all i j d h k =
    let first = get_or-map f xs i d (f d) (omega (arith, h, k)) in
    let second = get_or-map f xs j d (f d) k in
    subst (λ x. R x (f (get_or xs j d))) first (subst (λ y. R (get_or (map f xs) i (f d)) y) second (all i j (f d) h (omega (arith, k, length-map xs f))))

-- the same orders by place, each under its place
pub plain-book : (n c : ℕ) (ns : List (Linked Held)) → IsBookView (record { prices = n; capacity = c; slots = map slot_at ns }) → IsBookView (plain n c (orders_in ns))
plain-book n c [] book =
    record {
      few = book.few;
      bound = book.bound;
      some_price = book.some_price;
      few_prices = book.few_prices;
      by_place = λ i j d h k. absurd (omega (arith, k));
      handles = λ i j d h k. absurd (omega (arith, k));
      pairs = λ i j d h k. absurd (omega (arith, k));
      some = λ k d h. absurd (omega (arith, h));
      limit = λ k d h. absurd (omega (arith, h));
      spots = λ k d h. absurd (omega (arith, h));
    }
plain-book n c (m ∷ ms) book =
    let ns = m ∷ ms in
    let order = λ (k : Linked Held). k.item.order in
    let shown = λ (o : Order). slot_of o.place o in
    let places = AllPairs-before (λ s t. s.order.place < t.order.place) slot_at ns book.by_place in
    let pairs = AllPairs-before (λ s t. is_of s.order.caller s.order.own t.order ≡ false) slot_at ns book.pairs in
    record {
      few = omega (arith, book.few, length-map ns slot_at, length-map ns order, length-map (orders_in ns) shown);
      bound = book.bound;
      some_price = book.some_price;
      few_prices = book.few_prices;
      by_place = AllPairs-of (λ s t. s.order.place < t.order.place) shown (orders_in ns) (AllPairs-of (λ (a b : Order). a.place < b.place) order ns places m) m.item.order;
      handles =
          AllPairs-of (λ s t. s.handle ≢ t.handle) shown (orders_in ns)
          (AllPairs-of (λ (a b : Order). a.place ≢ b.place) order ns (λ i j d h k same. let less = places i j d h k in omega (arith, less, same)) m) m.item.order;
      pairs = AllPairs-of (λ s t. is_of s.order.caller s.order.own t.order ≡ false) shown (orders_in ns) (AllPairs-of (λ (a b : Order). is_of a.caller a.own b ≡ false) order ns pairs m) m.item.order;
      some = All-map (λ s. 1 ≤ s.order.left) shown (orders_in ns) (All-map (λ (o : Order). 1 ≤ o.left) order ns (before (λ o. 1 ≤ o.left) ns book.some));
      limit = All-map (λ s. s.order.left ≤ 100000000) shown (orders_in ns) (All-map (λ (o : Order). o.left ≤ 100000000) order ns (before (λ o. o.left ≤ 100000000) ns book.limit));
      spots = All-map (λ s. IsSpotBelow n s.order.spot) shown (orders_in ns) (All-map (λ (o : Order). IsSpotBelow n o.spot) order ns (before (λ o. IsSpotBelow n o.spot) ns book.spots));
    }
  where
    before : (P : Order → Type 0) (ns : List (Linked Held)) → All (λ s. P s.order) (map slot_at ns) → All (λ k. P k.item.order) ns
    before P ns all k d h = subst (λ s. P s.order) (get_or-map slot_at ns k d (slot_at d) h) (all k (slot_at d) (omega (arith, h, length-map ns slot_at)))

-- the places rise
abbrev pub Rises : List (Linked Held) → Type 0
Rises [] = Unit {0}
Rises (n ∷ ns) = AllByRecursion (λ m. n.item.order.place < m.item.order.place) ns × Rises ns

rises-from : (ns : List (Linked Held)) → AllPairs (λ m k. m.item.order.place < k.item.order.place) ns → Rises ns
rises-from [] pairs = tt
rises-from (n ∷ ns) pairs = (
  recursion_from_All (λ m. n.item.order.place < m.item.order.place) ns (λ k d h. pairs 0 (suc k) d (omega arith) (omega (arith, h))),
  rises-from ns (λ i j d h k. pairs (suc i) (suc j) d (omega (arith, h)) (omega (arith, k))),
)

pub rises : (n c : ℕ) (ns : List (Linked Held)) → IsBookView (record { prices = n; capacity = c; slots = map slot_at ns }) → Rises ns
rises n c ns book = rises-from ns (AllPairs-before (λ s t. s.order.place < t.order.place) slot_at ns book.by_place)

-- the first that passes is the earliest
pub earliest : (p : Linked Held → Bool) (ns : List (Linked Held)) (n : Linked Held) (rest : List (Linked Held)) → Rises ns → filter p ns ≡ n ∷ rest
    → AllByRecursion (λ m. p m ≡ true → n.item.order.place ≤ m.item.order.place) ns
earliest p [] n rest up e = tt
earliest p (m ∷ ms) n rest up e = by_test (p m) refl e (earliest p ms n rest up.1)
  where
    by_test : (b : Bool) → p m ≡ b → cond b (m ∷ filter p ms) (filter p ms) ≡ n ∷ rest → (filter p ms ≡ n ∷ rest → AllByRecursion (λ m. p m ≡ true → n.item.order.place ≤ m.item.order.place) ms)
        → AllByRecursion (λ m. p m ≡ true → n.item.order.place ≤ m.item.order.place) (m ∷ ms)
    by_test true is e later =
        let same : m ≡ n = cc in
        let place : m.item.order.place ≡ n.item.order.place = ap (λ (k : Linked Held). k.item.order.place) same in (
          λ _. omega (arith, place),
          each-weaker (λ k. m.item.order.place < k.item.order.place) (λ k. p k ≡ true → n.item.order.place ≤ k.item.order.place) (λ k less _. omega (arith, less, place)) ms up.0,
        )
    by_test false is e later = (λ so. absurd (false≢true (sym is ∙ so)), later e)

-- nothing passes where nothing is kept
pub none-kept : (p : Linked Held → Bool) (ns : List (Linked Held)) → filter p ns ≡ [] → AllByRecursion (λ m. p m ≡ false) ns
none-kept p [] e = tt
none-kept p (m ∷ ms) e = by_test (p m) refl e (none-kept p ms)
  where
    by_test : (b : Bool) → p m ≡ b → cond b (m ∷ filter p ms) (filter p ms) ≡ [] → (filter p ms ≡ [] → AllByRecursion (λ m. p m ≡ false) ms) → AllByRecursion (λ m. p m ≡ false) (m ∷ ms)
    by_test true is e later = absurd (cc)
    by_test false is e later = (is, later e)

pub on-orders : (P : Order → Type 0) (ns : List (Linked Held)) → AllByRecursion (λ m. P m.item.order) ns → All P (orders_in ns)
on-orders P ns all = All-map P (λ (m : Linked Held). m.item.order) ns (All-from_recursion (λ m. P m.item.order) ns all)

pub nothing-total : (p : Order → Bool) (ns : List (Linked Held)) → AllByRecursion (λ m. p m.item.order ≡ false) ns → total_left p (orders_in ns) ≡ 0
unfolding total_left
nothing-total p [] all = refl
nothing-total p (n ∷ ns) all = omega (arith, total-cons p n.item.order (orders_in ns), ap (λ b. cond b n.item.order.left 0) all.0, nothing-total p ns all.1)

-- what is found stands in the list
pub found-in : (p : Linked Held → Bool) (ns : List (Linked Held)) (n : Linked Held) → find p ns ≡ Some n → Contains (orders_in ns) n.item.order
found-in p [] n e = absurd (cc)
found-in p (m ∷ ms) n e =
    elim (find-cases p m ms n e) [
      | inl here ↦ (0, omega arith, ap (λ (k : Linked Held). k.item.order) here.1)
      | inr there ↦ let rest = found-in p ms n there.1 in (suc rest.0, omega (arith, rest.1), rest.2)
    ]

-- the orders with a level's number are those on the level
pub key-test : (side : Side) (spot : Spot) (s : Side) (t : Spot) → eqb (level_no s t) (level_no side spot) ≡ is_same_side side s && is_same_spot spot t
key-test Buy Market Buy Market = refl
key-test Buy Market Sell Market = refl
key-test Buy Market Buy (At j) = grind (arith, nat_tests)
key-test Buy Market Sell (At j) = grind (arith, nat_tests)
key-test Sell Market Buy Market = refl
key-test Sell Market Sell Market = refl
key-test Sell Market Buy (At j) = grind (arith, nat_tests)
key-test Sell Market Sell (At j) = grind (arith, nat_tests)
key-test Buy (At i) Buy Market = grind (arith, nat_tests)
key-test Buy (At i) Sell Market = grind (arith, nat_tests)
key-test Buy (At i) Buy (At j) = grind (arith, nat_tests)
key-test Buy (At i) Sell (At j) = grind (arith, nat_tests)
key-test Sell (At i) Buy Market = grind (arith, nat_tests)
key-test Sell (At i) Sell Market = grind (arith, nat_tests)
key-test Sell (At i) Buy (At j) = grind (arith, nat_tests)
key-test Sell (At i) Sell (At j) = grind (arith, nat_tests)

pub on-level : (side : Side) (spot : Spot) (ns : List (Linked Held)) → filter (λ m. eqb (level_key m.item.order) (level_no side spot)) ns ≡ filter (λ m. is_on_level side spot m.item.order) ns
on-level side spot ns = filter_agree (λ (m : Linked Held). eqb (level_key m.item.order) (level_no side spot)) (λ m. is_on_level side spot m.item.order) (λ m. key-test side spot m.item.order.side m.item.order.spot) ns

-- what stands on the level behind an order of it are the later ones
pub behind-is : (at : Held → ℕ) (q : Order → Bool) (h : ℕ) (t : Linked Held) (ns : List (Linked Held)) → AreApart (λ m. at m.item) ns → Rises ns → q t.item.order ≡ true → find (is_link_at h) ns ≡ Some t
    → after_first (is_link_at (at t.item)) (map (filed_at at) (filter (λ m. q m.item.order) ns)) ≡ map (filed_at at) (filter (λ m. q m.item.order && ltb t.item.order.place m.item.order.place) ns)
behind-is at q h t [] apart up so e = absurd (cc)
behind-is at q h t (m ∷ ms) apart up so e =
    elim (find-cases (is_link_at h) m ms t e) [
      | inl here ↦
          let mine : q m.item.order ≡ true = ap (λ (k : Linked Held). q k.item.order) here.1 ∙ so in
          let not_later : (q m.item.order && ltb t.item.order.place m.item.order.place) ≡ false =
          let place : t.item.order.place ≡ m.item.order.place = ap (λ (k : Linked Held). k.item.order.place) (sym here.1) in not-both (q m.item.order) (ltb t.item.order.place m.item.order.place) (grind (arith, nat_tests, place)) in
          ap (λ b. after_first (is_link_at (at t.item)) (map (filed_at at) (cond b (m ∷ filter (λ k. q k.item.order) ms) (filter (λ k. q k.item.order) ms)))) mine
          ∙ after-here (is_link_at (at t.item)) (filed_at at m) (map (filed_at at) (filter (λ k. q k.item.order) ms)) (eq-eqb (at m.item) (at t.item) (ap (λ (k : Linked Held). at k.item) here.1))
          ∙ ap (map (filed_at at))
          (filter-same (λ k. q k.item.order) (λ k. q k.item.order && ltb t.item.order.place k.item.order.place) ms
          (each-weaker (λ k. m.item.order.place < k.item.order.place) (λ k. q k.item.order ≡ q k.item.order && ltb t.item.order.place k.item.order.place)
          (λ k less.
          let place : t.item.order.place ≡ m.item.order.place = ap (λ (j : Linked Held). j.item.order.place) (sym here.1) in
          both-same (q k.item.order) (ltb t.item.order.place k.item.order.place) (grind (arith, nat_tests, place, less))) ms up.0))
          ∙ sym (ap (λ b. map (filed_at at) (cond b (m ∷ filter (λ k. q k.item.order && ltb t.item.order.place k.item.order.place) ms) (filter (λ k. q k.item.order && ltb t.item.order.place k.item.order.place) ms))) not_later)
      | inr there ↦
          let later : m.item.order.place < t.item.order.place = find-holds (λ k. m.item.order.place < k.item.order.place) (is_link_at h) ms t up.0 there.1 in
          let other : at m.item ≢ at t.item = find-holds (λ k. at m.item ≢ at k.item) (is_link_at h) ms t apart.0 there.1 in
          let not_later : (q m.item.order && ltb t.item.order.place m.item.order.place) ≡ false = not-both (q m.item.order) (ltb t.item.order.place m.item.order.place) (grind (arith, nat_tests, later)) in
          by_test (q m.item.order) (ne_eqb (at m.item) (at t.item) other)
          ∙ behind-is at q h t ms apart.1 up.1 so there.1
          ∙ sym (ap (λ b. map (filed_at at) (cond b (m ∷ filter (λ k. q k.item.order && ltb t.item.order.place k.item.order.place) ms) (filter (λ k. q k.item.order && ltb t.item.order.place k.item.order.place) ms))) not_later)
    ]
  where
    not-both : (a b : Bool) → b ≡ false → (a && b) ≡ false
    not-both true b e = e
    not-both false b e = refl

    both-same : (a b : Bool) → b ≡ true → a ≡ (a && b)
    both-same true b e = sym e
    both-same false b e = refl

    by_test : (b : Bool) → is_link_at (at t.item) (filed_at at m) ≡ false
        → after_first (is_link_at (at t.item)) (map (filed_at at) (cond b (m ∷ filter (λ k. q k.item.order) ms) (filter (λ k. q k.item.order) ms))) ≡ after_first (is_link_at (at t.item)) (map (filed_at at) (filter (λ k. q k.item.order) ms))
    by_test true other = after-later (is_link_at (at t.item)) (filed_at at m) (map (filed_at at) (filter (λ k. q k.item.order) ms)) other
    by_test false other = refl
