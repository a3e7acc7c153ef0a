-- Filling orders against the front of the other side: one trade, and one after another.
use Rattle.std.proofs.Common.{◌≡◌, ℕ, ◌+◌, ◌-◌, ◌<◌, ◌≤◌, min, Bool, true, false, cond, eqb, ltb, ◌||◌, List, [], ◌∷◌, ◌++◌, map, filter, Some, sum_by, refl, sym, ap, subst, ◌∙◌, arith, append_assoc, append-nil}
use Rattle.std.specs.List.{AllByRecursion, find, slice_get}
use Rattle.std.proofs.lemmas.Bool.{eqb-true}
use Rattle.std.proofs.lemmas.Bool.Decides.{nat_tests}
use Rattle.std.proofs.lemmas.List.{map-append}
use Rattle.std.proofs.lemmas.List.Elements.{filter-append, recursion_from_All}
use Rattle.std.proofs.lemmas.List.Sums.{sum_by-append, sum_by-cons}
use Rattle.mkt_base.specs.Fills.{Fill, after_trades, less_traded, pair, quantity, traded_at, whole}
use Rattle.mkt_base.specs.Priority.{in_priority, is_same_side}
use Rattle.mkt_base.specs.declared.auction.Trade.{Trade}
use Rattle.mkt_base.specs.declared.order.Order.{Order}
use Rattle.mkt_base.specs.declared.order.Side.{Side}
use Rattle.mkt_base.specs.declared.order.Side.TheVariants.{Buy, Sell}
use Rattle.mkt_base.specs.declared.output.Output.{Output}
use Rattle.mkt_base.specs.declared.output.Output.TheVariants.{Traded}
use Rattle.mkt_base.proofs.TradeLemmas.{trades-twice}
use Rattle.book_law.specs.BookView.{BookView, IsBookView, Names, Slot, is_at, less, less_taken, orders, side_of, slot_of, taken}
use Rattle.book_law.specs.Paired.{trade_of}
use Rattle.book_law.specs.Sides.{count_at, has_place, total}
use Rattle.book_law.proofs.AheadLemmas.{in_priority-side}
use Rattle.book_law.proofs.FrontLemmas.{first-of, in_priority-all, orders-below, orders-left, orders-rising}
use Rattle.book_law.proofs.PairLemmas.{both-less, buy-skipped, sell-skipped}
use Rattle.book_law.proofs.Pairing.{empty-parts, others-stay}
use Rattle.book_law.proofs.PlaceLemmas.{empty-from_count, first-once, once-at, other-none, other-none_sell, single}
use Rattle.book_law.proofs.Sides.{filter-both, filter-map, in_priority-taken}
use Rattle.book_law.proofs.SideSums.{sum-priority}
use Rattle.book_law.proofs.TakenLemmas.{both-taken, first-taken, taken-traded, total-cons}
use Rattle.itayose.specs.Fills.{opposite, pair_side, trade_outputs}
use Rattle.itayose.specs.Sharing.{AreFilled, KeepsOthers, fill_of, in_front, passed, trade_side}
use Rattle.itayose.proofs.TradingLemmas.{names-one}

-- ---- shares taken from orders

map-agree : {X Y : Type 0} (f g : X → Y) → ((x : X) → f x ≡ g x) → (xs : List X) → map f xs ≡ map g xs
map-agree f g same [] = refl
map-agree f g same (x ∷ xs) = ap (λ y. y ∷ map f xs) (same x) ∙ ap (λ ys. g x ∷ ys) (map-agree f g same xs)

-- trades that take the same from each place do the same
trades-agree : (ts us : List Trade) → ((place : ℕ) → traded_at ts place ≡ traded_at us place) → (os : List Order) → after_trades ts os ≡ after_trades us os
unfolding after_trades
trades-agree ts us same os =
    ap (filter (λ o. ltb 0 o.left)) (map-agree (less_traded ts) (less_traded us) (λ o. ap (λ n. record o { left = o.left - n }) (same o.place)) os)

either-way : (a b : Bool) (q : ℕ) → 0 + cond a q 0 + cond b q 0 ≡ 0 + cond b q 0 + cond a q 0
either-way a b q = omega arith

-- it does not matter from which of two orders is taken first
pub taken-swap : (a b q : ℕ) (os : List Order) → taken a q (taken b q os) ≡ taken b q (taken a q os)
unfolding traded_at
taken-swap a b q os =
    taken-traded a q (taken b q os) ∙ ap (after_trades (trade_of 0 q a a ∷ [])) (taken-traded b q os)
    ∙ trades-twice (trade_of 0 q b b ∷ []) (trade_of 0 q a a ∷ []) os
    ∙ trades-agree (trade_of 0 q b b ∷ trade_of 0 q a a ∷ []) (trade_of 0 q a a ∷ trade_of 0 q b b ∷ [])
    (λ place. either-way (eqb place b || eqb place b) (eqb place a || eqb place a) q) os
    ∙ sym (taken-traded b q (taken a q os) ∙ ap (after_trades (trade_of 0 q b b ∷ [])) (taken-traded a q os)
    ∙ trades-twice (trade_of 0 q a a ∷ []) (trade_of 0 q b b ∷ []) os)

both-parts : (c : Bool) (a b : ℕ) → 0 + cond c a 0 + cond c b 0 ≡ 0 + cond c (a + b) 0
both-parts true a b = omega arith
both-parts false a b = refl

-- what is taken in two parts
pub taken-twice : (place a b : ℕ) (os : List Order) → taken place b (taken place a os) ≡ taken place (a + b) os
unfolding traded_at
taken-twice place a b os =
    taken-traded place b (taken place a os) ∙ ap (after_trades (trade_of 0 b place place ∷ [])) (taken-traded place a os)
    ∙ trades-twice (trade_of 0 a place place ∷ []) (trade_of 0 b place place ∷ []) os
    ∙ trades-agree (trade_of 0 a place place ∷ trade_of 0 b place place ∷ []) (trade_of 0 (a + b) place place ∷ [])
    (λ x. both-parts (eqb x place || eqb x place) a b) os
    ∙ sym (taken-traded place (a + b) os)

-- where no order stands at a place nothing is taken
pub taken-absent : (place q : ℕ) (os : List Order) → filter (has_place place) os ≡ [] → AllByRecursion (λ o. 0 < o.left) os → taken place q os ≡ os
taken-absent place q os none some = taken-traded place q os ∙ others-stay (trade_of 0 q place place) os none none some

kept-left : (os : List Order) → AllByRecursion (λ o. 0 < o.left) (filter (λ o. ltb 0 o.left) os)
kept-left [] = tt
kept-left (o ∷ os) = step (ltb 0 o.left) refl (kept-left os)
  where
    step : (b : Bool) → ltb 0 o.left ≡ b → AllByRecursion (λ x. 0 < x.left) (filter (λ x. ltb 0 x.left) os)
        → AllByRecursion (λ x. 0 < x.left) (cond b (o ∷ filter (λ x. ltb 0 x.left) os) (filter (λ x. ltb 0 x.left) os))
    step true e rest = (grind (arith, nat_tests, e), rest)
    step false e rest = rest

-- what is left has something left
pub taken-some : (place q : ℕ) (os : List Order) → AllByRecursion (λ o. 0 < o.left) (taken place q os)
unfolding taken
taken-some place q os = kept-left (map (less_taken place q) os)

-- a test that does not look at what orders have left
pub filter-taken : (t : Order → Bool) → ((n : ℕ) (o : Order) → t (less n o) ≡ t o) → (place q : ℕ) (os : List Order) → filter t (taken place q os) ≡ taken place q (filter t os)
unfolding taken
filter-taken t stays place q os =
    filter-both t (λ o. ltb 0 o.left) (map (less_taken place q) os)
    ∙ ap (filter (λ o. ltb 0 o.left)) (filter-map t (less_taken place q) (λ o. stays (cond (eqb place o.place) q 0) o) os)

-- where no order stands at a place none does afterwards
pub absent-taken : (y place q : ℕ) (os : List Order) → filter (has_place y) os ≡ [] → filter (has_place y) (taken place q os) ≡ []
unfolding taken
absent-taken y place q os none = filter-taken (has_place y) (λ n o. refl) place q os ∙ ap (taken place q) none

pub taken-append : (place q : ℕ) (xs ys : List Order) → taken place q (xs ++ ys) ≡ taken place q xs ++ taken place q ys
unfolding taken
taken-append place q xs ys =
    ap (filter (λ o. ltb 0 o.left)) (map-append (less_taken place q) xs ys) ∙ filter-append (λ o. ltb 0 o.left) (map (less_taken place q) xs) (map (less_taken place q) ys)

-- nothing taken
pub taken-nothing : (place : ℕ) (os : List Order) → AllByRecursion (λ o. 0 < o.left) os → taken place 0 os ≡ os
unfolding taken
taken-nothing place [] some = refl
taken-nothing place (o ∷ os) some =
    let none : o.left - cond (eqb place o.place) 0 0 ≡ o.left = by (eqb place o.place) in
    let here : ltb 0 o.left ≡ true = grind (arith, nat_tests, some.0) in
    ap (λ n. cond (ltb 0 n) (record o { left = n } ∷ taken place 0 os) (taken place 0 os)) none
    ∙ ap (λ b. cond b (o ∷ taken place 0 os) (taken place 0 os)) here
    ∙ ap (λ xs. o ∷ xs) (taken-nothing place os some.1)
  where
    by : (b : Bool) → o.left - cond b 0 0 ≡ o.left
    by true = omega arith
    by false = omega arith

-- ---- places

-- what an order that a handle names counts is within the sum over the book
pub named-counts : (f : Order → ℕ) (b : BookView) (h : ℕ) (x : Order) → Names b h x → f x ≤ sum_by f (orders b)
named-counts f b h x named = by b.slots named
  where
    step : (c : Bool) (s : Slot) (ss : List Slot) → (find (is_at h) ss ≡ Some (slot_of h x) → f x ≤ sum_by f (map (λ t. t.order) ss))
        → cond c (Some s) (find (is_at h) ss) ≡ Some (slot_of h x) → f x ≤ sum_by f (s.order ∷ map (λ t. t.order) ss)
    step true s ss rest e =
        let slot : s ≡ slot_of h x = cc in
        let same : f s.order ≡ f x = ap (λ t. f t.order) slot in
        omega (arith, same, sum_by-cons f s.order (map (λ t. t.order) ss))
    step false s ss rest e = omega (arith, rest e, sum_by-cons f s.order (map (λ t. t.order) ss))

    by : (ss : List Slot) → find (is_at h) ss ≡ Some (slot_of h x) → f x ≤ sum_by f (map (λ t. t.order) ss)
    by [] e = absurd (cc)
    by (s ∷ ss) e = step (is_at h s) s ss (by ss) e

same-side : (side : Side) → is_same_side side side ≡ true
same-side Buy = refl
same-side Sell = refl

-- it stands on its side
pub own-counted : (b : BookView) → IsBookView b → (h : ℕ) (x : Order) → Names b h x → 1 ≤ count_at x.place (side_of b x.side)
own-counted b stands h x named =
    let own : cond (is_same_side x.side x.side) (once-at x.place x) 0 ≡ 1 =
    ap (λ c. cond c (once-at x.place x) 0) (same-side x.side) ∙ ap (λ c. cond c 1 0) (same-place x.place) in
    omega (
      arith,
      own,
      named-counts (λ o. cond (is_same_side x.side o.side) (once-at x.place o) 0) b h x named,
      sum-priority (once-at x.place) b.prices x.side (orders b) (orders-below b stands),
    )
  where
    same-place : (n : ℕ) → eqb n n ≡ true
    same-place n = grind (arith, nat_tests)

-- and not on the other
pub own-alone : (b : BookView) → IsBookView b → (h : ℕ) (x : Order) → Names b h x → filter (has_place x.place) (side_of b (opposite x.side)) ≡ []
own-alone b stands h x named = empty-from_count x.place (side_of b (opposite x.side)) (by x.side (own-counted b stands h x named))
  where
    by : (side : Side) → 1 ≤ count_at x.place (side_of b side) → count_at x.place (side_of b (opposite side)) ≡ 0
    by Buy here = omega (arith, here, single b.prices (orders b) (orders-rising b stands) (orders-below b stands) x.place)
    by Sell here = omega (arith, here, single b.prices (orders b) (orders-rising b stands) (orders-below b stands) x.place)

-- the first of a side does not stand on the other
pub first-alone : (b : BookView) → IsBookView b → (side : Side) (y : Order) (ys : List Order) → side_of b (opposite side) ≡ y ∷ ys → filter (has_place y.place) (side_of b side) ≡ []
first-alone b stands Buy y ys e = other-none_sell b.prices (orders b) (orders-rising b stands) (orders-below b stands) y ys e
first-alone b stands Sell y ys e = other-none b.prices (orders b) (orders-rising b stands) (orders-below b stands) y ys e

-- each order of a side has something left
pub side-some : (b : BookView) → IsBookView b → (side : Side) → AllByRecursion (λ o. 0 < o.left) (side_of b side)
side-some b stands side = in_priority-all (λ o. 0 < o.left) side (orders b) (recursion_from_All (λ o. 0 < o.left) (orders b) (orders-left b stands)) b.prices

-- ---- one trade

pub quantity-one : (f : Fill) → quantity (f ∷ []) ≡ f.qty
unfolding quantity
quantity-one f = sum_by-cons (λ g. g.qty) f [] ∙ none f.qty
  where
    none : (n : ℕ) → n + 0 ≡ n
    none n = omega arith

pub quantity-none : quantity [] ≡ 0
unfolding quantity
quantity-none = refl

pub quantity-append : (fs gs : List Fill) → quantity (fs ++ gs) ≡ quantity fs + quantity gs
unfolding quantity
quantity-append fs gs = sum_by-append (λ g. g.qty) fs gs

pub quantity-cons : (f : Fill) (fs : List Fill) → quantity (f ∷ fs) ≡ f.qty + quantity fs
unfolding quantity
quantity-cons f fs = sum_by-cons (λ g. g.qty) f fs

-- the least of two that have something
pub some-least : (y v q : ℕ) → q ≡ min y v → 0 < y → 0 < v → (0 < q) × (q ≤ y) × (q ≤ v)
some-least y v q e a b = (grind (arith, nat_tests, e), grind (arith, nat_tests, e), grind (arith, nat_tests, e))

-- An order x trades q shares with the first order y of the other side, where it is to trade v.
module _ (p q v h : ℕ) (x y : Order) (ys : List Order) (old mid new : BookView) (stands : IsBookView old) (named : Names old h x) (facing : side_of old (opposite x.side) ≡ y ∷ ys)
    (least : q ≡ min y.left v) (wanted : 0 < v) (first : orders mid ≡ taken x.place q (orders old)) (then : orders new ≡ taken y.place q (orders mid))
    (same : mid.prices ≡ old.prices) (prices : new.prices ≡ mid.prices) where
  facing-some : AllByRecursion (λ o. 0 < o.left) (y ∷ ys)
  facing-some = subst (AllByRecursion (λ o. 0 < o.left)) facing (side-some old stands (opposite x.side))

  parts : (0 < q) × (q ≤ y.left) × (q ≤ v)
  parts = some-least y.left v q least facing-some.0 wanted

  -- the two stand at different places
  pub places-apart : eqb x.place y.place ≡ false
  places-apart = (empty-parts (has_place x.place) y ys (ap (filter (has_place x.place)) (sym facing) ∙ own-alone old stands h x named)).0

  pub both : orders new ≡ taken y.place q (taken x.place q (orders old))
  both = then ∙ ap (taken y.place q) first

  abbrev pub trade : Trade
  trade = trade_side p q x.side x.place y.place

  pub traded-book : orders new ≡ after_trades (trade ∷ []) (orders old)
  traded-book = both ∙ by x.side
    where
      by : (side : Side) → taken y.place q (taken x.place q (orders old)) ≡ after_trades (trade_side p q side x.place y.place ∷ []) (orders old)
      by Buy = both-taken p q x.place y.place places-apart (orders old)
      by Sell =
          let apart : eqb y.place x.place ≡ false = grind (arith, nat_tests, places-apart) in
          taken-swap y.place x.place q (orders old) ∙ both-taken p q y.place x.place apart (orders old)

  side-new : (side : Side) → side_of new side ≡ taken y.place q (taken x.place q (side_of old side))
  side-new side =
      ap (λ n. in_priority n side (orders new)) (prices ∙ same) ∙ ap (in_priority old.prices side) both
      ∙ in_priority-taken old.prices side y.place q (taken x.place q (orders old)) ∙ ap (taken y.place q) (in_priority-taken old.prices side x.place q (orders old))

  pub traded-side : side_of new x.side ≡ taken x.place q (side_of old x.side)
  traded-side =
      side-new x.side
      ∙ taken-absent y.place q (taken x.place q (side_of old x.side)) (absent-taken y.place x.place q (side_of old x.side) (first-alone old stands x.side y ys facing))
      (taken-some x.place q (side_of old x.side))

  abbrev left : List Order
  left = cond (ltb 0 (y.left - q)) (less q y ∷ ys) ys

  facing-left : side_of new (opposite x.side) ≡ left
  facing-left =
      side-new (opposite x.side)
      ∙ ap (taken y.place q) (taken-absent x.place q (side_of old (opposite x.side)) (own-alone old stands h x named) (side-some old stands (opposite x.side)))
      ∙ ap (taken y.place q) facing
      ∙ first-taken y ys q (first-once old.prices (orders old) (orders-rising old stands) (orders-below old stands) (opposite x.side) y ys facing) facing-some.1

  less-total : (b : Bool) → ltb 0 (y.left - q) ≡ b → q + total (cond b (less q y ∷ ys) ys) ≡ total (y ∷ ys)
  less-total true e = omega (arith, total-cons (less q y) ys, total-cons y ys, parts.1)
  less-total false e =
      let all : y.left ≤ q = grind (arith, nat_tests, e) in
      omega (arith, total-cons y ys, parts.1, all)

  pub traded-faced : q + total (side_of new (opposite x.side)) ≡ total (side_of old (opposite x.side))
  traded-faced = ap (λ zs. q + total zs) facing-left ∙ less-total (ltb 0 (y.left - q)) refl ∙ ap total (sym facing)

  -- what is left of the front
  sells-left : (b : Bool) (fs : List Fill) → ltb 0 (y.left - q) ≡ b → pair p fs (fill_of y.place (y.left - q) ∷ whole ys) ≡ pair p fs (whole (cond b (less q y ∷ ys) ys))
  sells-left true fs e = refl
  sells-left false fs e =
      let none : y.left - q ≡ 0 = grind (arith, nat_tests, e) in
      ap (λ n. pair p fs (fill_of y.place n ∷ whole ys)) none ∙ sell-skipped p y.place fs (whole ys)

  buys-left : (b : Bool) (fs : List Fill) → ltb 0 (y.left - q) ≡ b → pair p (fill_of y.place (y.left - q) ∷ whole ys) fs ≡ pair p (whole (cond b (less q y ∷ ys) ys)) fs
  buys-left true fs e = refl
  buys-left false fs e =
      let none : y.left - q ≡ 0 = grind (arith, nat_tests, e) in
      ap (λ n. pair p (fill_of y.place n ∷ whole ys) fs) none ∙ buy-skipped p y.place (whole ys) fs

  pairs-as : (side : Side) (more : List Fill)
      → pair_side p side (fill_of x.place v ∷ more) (whole (y ∷ ys)) ≡ trade_side p q side x.place y.place ∷ pair_side p side (fill_of x.place (v - q) ∷ more) (whole left)
  pairs-as Buy more =
      let e : q ≡ min v y.left = grind (arith, nat_tests, least) in
      both-less p x.place y.place v y.left q more (whole ys) e parts.0
      ∙ ap (λ ts. trade_of p q x.place y.place ∷ ts) (sells-left (ltb 0 (y.left - q)) (fill_of x.place (v - q) ∷ more) refl)
  pairs-as Sell more =
      both-less p y.place x.place y.left v q (whole ys) more least parts.0
      ∙ ap (λ ts. trade_of p q y.place x.place ∷ ts) (buys-left (ltb 0 (y.left - q)) (fill_of x.place (v - q) ∷ more) refl)

  pub traded-pairs : (more : List Fill) → pair_side p x.side (fill_of x.place v ∷ more) (whole (side_of old (opposite x.side)))
      ≡ trade ∷ pair_side p x.side (fill_of x.place (v - q) ∷ more) (whole (side_of new (opposite x.side)))
  traded-pairs more =
      ap (λ zs. pair_side p x.side (fill_of x.place v ∷ more) (whole zs)) facing ∙ pairs-as x.side more
      ∙ ap (λ zs. trade ∷ pair_side p x.side (fill_of x.place (v - q) ∷ more) (whole zs)) (sym facing-left)

  module _ {W : Type 0} (took : W → List Output → W → Type 0) (from to : W) (room : new.capacity ≡ old.capacity)
      (told : (start : W) (outputs : List Output) → took start outputs from → took start (outputs ++ Traded trade ∷ []) to) where
    pub traded-filled : AreFilled took p x.side (fill_of x.place v ∷ []) (fill_of x.place (v - q) ∷ []) old new from to
    traded-filled = record {
      done = trade ∷ [];
      trades = traded-pairs;
      book = traded-book;
      faced =
          let most = parts.2 in
          omega (arith, quantity-one (fill_of x.place v), quantity-one (fill_of x.place (v - q)), traded-faced, most);
      prices = prices ∙ same;
      capacity = room;
      told = told;
    }

-- the first order of a side has something left
pub first-some : (b : BookView) → IsBookView b → (side : Side) (y : Order) → slice_get (side_of b side) 0 ≡ Some y → 0 < y.left
first-some b stands side y e =
    let w = first-of (side_of b side) y e in
    let all : AllByRecursion (λ o. 0 < o.left) (y ∷ w.0) = subst (AllByRecursion (λ o. 0 < o.left)) w.1 (side-some b stands side) in
    all.0

-- the first of the other side is of the other side
facing-side : (b : BookView) (side : Side) (y : Order) (ys : List Order) → side_of b side ≡ y ∷ ys → is_same_side side y.side ≡ true
facing-side b side y ys e =
    let all : AllByRecursion (λ o. is_same_side side o.side ≡ true) (y ∷ ys) = subst (AllByRecursion (λ o. is_same_side side o.side ≡ true)) e (in_priority-side side (orders b) b.prices) in
    all.0

-- no order is of both sides
not-both : (side own : Side) → is_same_side side own ≡ true → is_same_side (opposite side) own ≡ true → ⊥
not-both Buy Buy e f = cc
not-both Buy Sell e f = cc
not-both Sell Buy e f = cc
not-both Sell Sell e f = cc

-- two handles that name orders at different places are different
pub other-handle : (b : BookView) (h k : ℕ) (x y : Order) → Names b h x → Names b k y → eqb x.place y.place ≡ false → eqb h k ≡ false
other-handle b h k x y e f apart = at (eqb h k) refl
  where
    at : (same : Bool) → eqb h k ≡ same → same ≡ false
    at false t = refl
    at true t =
        let named : Names b h y = subst (λ n. Names b n y) (sym (eqb-true h k t)) f in
        let one : x.place ≡ y.place = ap (λ o. o.place) (names-one b h x y e named) in
        absurd (grind (arith, nat_tests, one, apart))

-- an order's handle is not that of the first of the other side
pub named-apart : (b : BookView) → IsBookView b → (h k : ℕ) (x y : Order) → Names b h x → Names b k y → slice_get (side_of b (opposite x.side)) 0 ≡ Some y → eqb h k ≡ false
named-apart b stands h k x y e f first =
    let w = first-of (side_of b (opposite x.side)) y first in
    let apart = (empty-parts (has_place x.place) y w.0 (ap (filter (has_place x.place)) (sym w.1) ∙ own-alone b stands h x e)).0 in
    other-handle b h k x y e f apart

-- the handle of the first of the other side names no order of this side
pub facing-handle : (b : BookView) (k h : ℕ) (x y o : Order) (ys : List Order) → side_of b (opposite x.side) ≡ y ∷ ys → Names b k y → Names b h o → is_same_side x.side o.side ≡ true → eqb k h ≡ false
facing-handle b k h x y o ys facing e f own = at (eqb k h) refl
  where
    at : (same : Bool) → eqb k h ≡ same → same ≡ false
    at false t = refl
    at true t =
        let named : Names b k o = subst (λ n. Names b n o) (sym (eqb-true k h t)) f in
        let one : y ≡ o = names-one b k y o e named in
        let other : is_same_side (opposite x.side) o.side ≡ true = subst (λ z. is_same_side (opposite x.side) z.side ≡ true) one (facing-side b (opposite x.side) y ys facing) in
        absurd (not-both x.side o.side own other)

-- ---- fills one after another

module _ {W : Type 0} (took : W → List Output → W → Type 0) (p : ℕ) (side : Side) where
  none-traded : (place : ℕ) → traded_at [] place ≡ 0
  unfolding traded_at
  none-traded place = refl

  untouched : (os : List Order) → AllByRecursion (λ o. 0 < o.left) os → after_trades [] os ≡ os
  unfolding after_trades
  untouched [] all = refl
  untouched (o ∷ os) all =
      let same : o.left - traded_at [] o.place ≡ o.left = omega (arith, none-traded o.place) in
      let some : ltb 0 o.left ≡ true = grind (arith, nat_tests, all.0) in
      ap (λ n. cond (ltb 0 n) (record o { left = n } ∷ after_trades [] os) (after_trades [] os)) same
      ∙ ap (λ b. cond b (o ∷ after_trades [] os) (after_trades [] os)) some
      ∙ ap (λ xs. o ∷ xs) (untouched os all.1)

  -- nothing is done yet
  pub filled-none : (fills : List Fill) (b : BookView) (from : W) → IsBookView b → AreFilled took p side fills fills b b from from
  filled-none fills b from stands = record {
    done = [];
    trades = λ more. refl;
    book = sym (untouched (orders b) (recursion_from_All (λ o. 0 < o.left) (orders b) (orders-left b stands)));
    faced = refl;
    prices = refl;
    capacity = refl;
    told = λ start outputs h. rw (append-nil) h;
  }

  -- some and then others
  pub filled-more : (fills left rest : List Fill) (old mid new : BookView) (from middle to : W) → AreFilled took p side fills left old mid from middle → AreFilled took p side left rest mid new middle to
      → AreFilled took p side fills rest old new from to
  filled-more fills left rest old mid new from middle to s t = record {
    done = s.done ++ t.done;
    trades = λ more. s.trades more ∙ ap (λ ts. s.done ++ ts) (t.trades more) ∙ sym (append_assoc s.done t.done _);
    book = t.book ∙ ap (after_trades t.done) s.book ∙ trades-twice s.done t.done (orders old);
    faced = omega (arith, s.faced, t.faced);
    prices = t.prices ∙ s.prices;
    capacity = t.capacity ∙ s.capacity;
    told = λ start outputs h.
        let one = t.told start (outputs ++ trade_outputs s.done) (s.told start outputs h) in
        let same : trade_outputs (s.done ++ t.done) ≡ trade_outputs s.done ++ trade_outputs t.done = simp map-append in
        subst (λ xs. took start xs to) (append_assoc outputs (trade_outputs s.done) (trade_outputs t.done) ∙ ap (λ xs. outputs ++ xs) (sym same)) one;
  }

  -- with others behind them
  pub filled-behind : (fills left rest : List Fill) (old new : BookView) (from to : W) → AreFilled took p side fills left old new from to → AreFilled took p side (fills ++ rest) (left ++ rest) old new from to
  filled-behind fills left rest old new from to s = record {
    done = s.done;
    trades = λ more.
        ap (λ fs. pair_side p side fs (whole (side_of old (opposite side)))) (append_assoc fills rest more) ∙ s.trades (rest ++ more)
        ∙ ap (λ fs. s.done ++ pair_side p side fs (whole (side_of new (opposite side)))) (sym (append_assoc left rest more));
    book = s.book;
    faced = omega (arith, s.faced, quantity-append fills rest, quantity-append left rest);
    prices = s.prices;
    capacity = s.capacity;
    told = s.told;
  }

  skipped : (s : Side) (place : ℕ) (fs gs : List Fill) → pair_side p s (fill_of place 0 ∷ fs) gs ≡ pair_side p s fs gs
  skipped Buy place fs gs = buy-skipped p place fs gs
  skipped Sell place fs gs = sell-skipped p place gs fs

  -- a fill without shares is done
  pub filled-nothing : (fills : List Fill) (place left : ℕ) (old new : BookView) (from to : W) → left ≡ 0 → AreFilled took p side fills (fill_of place left ∷ []) old new from to → AreFilled took p side fills [] old new from to
  filled-nothing fills place left old new from to none s = record {
    done = s.done;
    trades = λ more.
        s.trades more
        ∙ ap (λ n. s.done ++ pair_side p side (fill_of place n ∷ more) (whole (side_of new (opposite side)))) none
        ∙ ap (λ ts. s.done ++ ts) (skipped side place more (whole (side_of new (opposite side))));
    book = s.book;
    faced = omega (arith, s.faced, none, quantity-one (fill_of place left), quantity-none);
    prices = s.prices;
    capacity = s.capacity;
    told = s.told;
  }

-- ---- one order

-- An order x fills so many shares: some are left, which the order that is left has.
pub record IsFilling {W : Type 0} (took : W → List Output → W → Type 0) (p : ℕ) (x : Order) (h qty left : ℕ) (rest : Order) (old new : BookView) (from to : W) : Type 0 where
  pub filled : AreFilled took p x.side (fill_of x.place qty ∷ []) (fill_of x.place left ∷ []) old new from to
  pub side : side_of new x.side ≡ taken x.place (qty - left) (side_of old x.side)
  pub within : left ≤ qty
  pub place : rest.place ≡ x.place
  pub same : rest.side ≡ x.side
  pub has : left ≤ rest.left
  pub names : 0 < left → Names new h rest
  pub others : KeepsOthers x old new

module _ {W : Type 0} (took : W → List Output → W → Type 0) (p : ℕ) (x : Order) (h qty : ℕ) (old : BookView) (from : W) where
  -- at first it has all
  pub filling-none : IsBookView old → Names old h x → qty ≤ x.left → IsFilling took p x h qty qty x old old from from
  filling-none stands named within = record {
    filled = filled-none took p x.side (fill_of x.place qty ∷ []) old from stands;
    side =
        let none : qty - qty ≡ 0 = omega arith in
        sym (ap (λ n. taken x.place n (side_of old x.side)) none ∙ taken-nothing x.place (side_of old x.side) (side-some old stands x.side));
    within = omega arith;
    place = refl;
    same = refl;
    has = within;
    names = λ some. named;
    others = λ k o named own apart. named;
  }

  -- so much of it can be traded
  pub filling-faced : (left : ℕ) (rest : Order) (mid : BookView) (middle : W) → IsFilling took p x h qty left rest old mid from middle → qty ≤ total (side_of old (opposite x.side))
      → left ≤ total (side_of mid (opposite rest.side))
  filling-faced left rest mid middle s faced =
      let same : total (side_of mid (opposite rest.side)) ≡ total (side_of mid (opposite x.side)) = ap (λ t. total (side_of mid (opposite t))) s.same in
      let parts = s.filled.faced in
      omega (arith, same, faced, s.within, quantity-one (fill_of x.place qty), quantity-one (fill_of x.place left))

  -- some more of it
  pub filling-more : (left q : ℕ) (rest : Order) (mid new : BookView) (middle to : W) → IsFilling took p x h qty left rest old mid from middle → 0 < q → q ≤ left
      → AreFilled took p rest.side (fill_of rest.place left ∷ []) (fill_of rest.place (left - q) ∷ []) mid new middle to
      → side_of new rest.side ≡ taken rest.place q (side_of mid rest.side)
      → (q < rest.left → Names new h (less q rest)) → KeepsOthers rest mid new
      → IsFilling took p x h qty (left - q) (less q rest) old new from to
  filling-more left q rest mid new middle to s some within filled side own others = record {
    filled =
        filled-more took p x.side (fill_of x.place qty ∷ []) (fill_of x.place left ∷ []) (fill_of x.place (left - q) ∷ []) old mid new from middle to s.filled
        (subst (λ n. AreFilled took p x.side (fill_of n left ∷ []) (fill_of n (left - q) ∷ []) mid new middle to) s.place
        (subst (λ t. AreFilled took p t (fill_of rest.place left ∷ []) (fill_of rest.place (left - q) ∷ []) mid new middle to) s.same filled));
    side =
        let most = s.within in
        let sum : (qty - left) + q ≡ qty - (left - q) = omega arith in
        ap (side_of new) (sym s.same) ∙ side
        ∙ ap (λ n. taken n q (side_of mid rest.side)) s.place ∙ ap (λ t. taken x.place q (side_of mid t)) s.same ∙ ap (taken x.place q) s.side
        ∙ taken-twice x.place (qty - left) q (side_of old x.side) ∙ ap (λ n. taken x.place n (side_of old x.side)) sum;
    within = omega (arith, s.within);
    place = s.place;
    same = s.same;
    has = omega (arith, s.has);
    names = λ some. own (omega (arith, some, s.has));
    others = λ k o named same apart.
        others k o (s.others k o named same apart) (ap (λ t. is_same_side t o.side) s.same ∙ same) (ap (λ n. eqb n o.place) s.place ∙ apart);
  }

  module _ (rest : Order) (new : BookView) (to : W) (left : ℕ) (none : left ≡ 0) (s : IsFilling took p x h qty left rest old new from to) where
    pub filling-done : AreFilled took p x.side (fill_of x.place qty ∷ []) [] old new from to
    filling-done = filled-nothing took p x.side (fill_of x.place qty ∷ []) x.place left old new from to none s.filled

    pub filling-side : side_of new x.side ≡ taken x.place qty (side_of old x.side)
    filling-side = let all : qty - left ≡ qty = omega arith in s.side ∙ ap (λ n. taken x.place n (side_of old x.side)) all

-- ---- the front of a side

pub in_front-none : (os : List Order) → in_front 0 os ≡ []
unfolding in_front
in_front-none [] = refl
in_front-none (o ∷ os) = refl

pub passed-none : (os : List Order) → passed 0 os ≡ os
unfolding passed
passed-none [] = refl
passed-none (o ∷ os) = refl

total-nothing : total [] ≡ 0
unfolding quantity
total-nothing = refl

-- the front has no more than all
front-le : (v : ℕ) (os : List Order) → total (in_front v os) ≤ total os
unfolding in_front
front-le v [] = omega arith
front-le v (o ∷ os) = by (eqb v 0) (front-le (v - o.left) os)
  where
    by : (b : Bool) → total (in_front (v - o.left) os) ≤ total os → total (cond b [] (o ∷ in_front (v - o.left) os)) ≤ total (o ∷ os)
    by true rest = omega (arith, total-nothing)
    by false rest = omega (arith, total-cons o os, total-cons o (in_front (v - o.left) os), rest)

pub side-is : (side own : Side) → is_same_side side own ≡ true → own ≡ side
side-is Buy Buy e = refl
side-is Buy Sell e = absurd (cc)
side-is Sell Buy e = absurd (cc)
side-is Sell Sell e = refl

-- a side in whose front something stands
front-parts : (v : ℕ) (os : List Order) → 0 < v → total (in_front v os) ≡ v → (o : Order) × (rest : List Order) × (os ≡ o ∷ rest) × (in_front v os ≡ o ∷ in_front (v - o.left) rest) × (passed v os ≡ passed (v - o.left) rest)
unfolding in_front passed
front-parts v [] some most = absurd (omega (arith, most, total-nothing, some))
front-parts v (o ∷ os) some most =
    let not : eqb v 0 ≡ false = grind (arith, nat_tests, some) in
    (o, os, refl, ap (λ b. cond b [] (o ∷ in_front (v - o.left) os)) not, ap (λ b. cond b (o ∷ os) (passed (v - o.left) os)) not)

-- So many shares of the front of a side are to be filled, and some of them are left.
pub record IsFronting {W : Type 0} (took : W → List Output → W → Type 0) (p : ℕ) (side : Side) (shares left : ℕ) (old new : BookView) (from to : W) : Type 0 where
  pub filled : AreFilled took p side (whole (in_front shares (side_of old side))) (whole (in_front left (side_of new side))) old new from to
  pub passes : passed left (side_of new side) ≡ passed shares (side_of old side)
  pub rest : total (in_front left (side_of new side)) ≡ left

module _ {W : Type 0} (took : W → List Output → W → Type 0) (p : ℕ) (side : Side) (shares : ℕ) (old : BookView) (from : W) where
  pub fronting-none : IsBookView old → total (in_front shares (side_of old side)) ≡ shares → IsFronting took p side shares shares old old from from
  fronting-none stands most = record {
    filled = filled-none took p side (whole (in_front shares (side_of old side))) old from stands;
    passes = refl;
    rest = most;
  }

  module _ (left : ℕ) (mid : BookView) (middle : W) (s : IsFronting took p side shares left old mid from middle) (some : 0 < left) where
    -- there is a first order
    pub fronting-some : 0 < total (side_of mid side)
    fronting-some =
        let w = front-parts left (side_of mid side) some s.rest in
        let all : total (side_of mid side) ≡ w.0.left + total w.1 = ap total w.2 ∙ total-cons w.0 w.1 in
        let front : total (in_front left (side_of mid side)) ≡ w.0.left + total (in_front (left - w.0.left) w.1) = ap total w.3 ∙ total-cons w.0 (in_front (left - w.0.left) w.1) in
        omega (arith, all, front, s.rest, some, front-le (left - w.0.left) w.1)

    module _ (h : ℕ) (o : Order) (first : slice_get (side_of mid side) 0 ≡ Some o) (stands : IsBookView mid) where
      -- it is of the side
      pub fronting-side : o.side ≡ side
      fronting-side = let w = first-of (side_of mid side) o first in side-is side o.side (facing-side mid side o w.0 w.1)

      first-parts : (rest : List Order) × (side_of mid side ≡ o ∷ rest) × (in_front left (side_of mid side) ≡ o ∷ in_front (left - o.left) rest) × (passed left (side_of mid side) ≡ passed (left - o.left) rest)
      first-parts =
          let w = front-parts left (side_of mid side) some s.rest in
          let v = first-of (side_of mid side) o first in
          let same : o ≡ w.0 = (let e = v.1 in let f = w.2 in cc) in
          subst (λ (x : Order). (rest : List Order) × (side_of mid side ≡ x ∷ rest) × (in_front left (side_of mid side) ≡ x ∷ in_front (left - x.left) rest) × (passed left (side_of mid side) ≡ passed (left - x.left) rest)) (sym same)
          (w.1, w.2, w.3, w.4)

      first-total : o.left + total (in_front (left - o.left) first-parts.0) ≡ left
      first-total = sym (total-cons o (in_front (left - o.left) first-parts.0)) ∙ ap total (sym first-parts.2) ∙ s.rest

      -- and fills whole
      pub fronting-within : o.left ≤ left
      fronting-within = let e = first-total in omega arith

      pub fronting-faced : shares ≤ total (side_of old (opposite side)) → total (in_front shares (side_of old side)) ≡ shares → o.left ≤ total (side_of mid (opposite o.side))
      fronting-faced faced most =
          let same : total (side_of mid (opposite o.side)) ≡ total (side_of mid (opposite side)) = ap (λ t. total (side_of mid (opposite t))) fronting-side in
          let all = s.filled.faced in
          omega (arith, same, faced, most, s.rest, fronting-within)

      module _ (new : BookView) (to : W) (filled : AreFilled took p o.side (fill_of o.place o.left ∷ []) [] mid new middle to) (own : side_of new o.side ≡ taken o.place o.left (side_of mid o.side)) where
        front-new : side_of new side ≡ first-parts.0
        front-new =
            let all : AllByRecursion (λ x. 0 < x.left) (o ∷ first-parts.0) = subst (AllByRecursion (λ x. 0 < x.left)) first-parts.1 (side-some mid stands side) in
            let gone : ltb 0 (o.left - o.left) ≡ false = grind (arith, nat_tests) in
            ap (side_of new) (sym fronting-side) ∙ own ∙ ap (λ t. taken o.place o.left (side_of mid t)) fronting-side ∙ ap (taken o.place o.left) first-parts.1
            ∙ first-taken o first-parts.0 o.left (first-once mid.prices (orders mid) (orders-rising mid stands) (orders-below mid stands) side o first-parts.0 first-parts.1) all.1
            ∙ ap (λ b. cond b (less o.left o ∷ first-parts.0) first-parts.0) gone

        pub fronting-more : IsFronting took p side shares (left - o.left) old new from to
        fronting-more = record {
          filled =
              let rest : List Order = in_front (left - o.left) first-parts.0 in
              let one = filled-behind took p side (fill_of o.place o.left ∷ []) [] (whole rest) mid new middle to
              (subst (λ t. AreFilled took p t (fill_of o.place o.left ∷ []) [] mid new middle to) fronting-side filled) in
              filled-more took p side (whole (in_front shares (side_of old side))) (whole (in_front left (side_of mid side))) (whole (in_front (left - o.left) (side_of new side))) old mid new from middle to s.filled
              (subst (λ fs. AreFilled took p side fs (whole (in_front (left - o.left) (side_of new side))) mid new middle to) (sym (ap whole first-parts.2))
              (subst (λ os. AreFilled took p side (fill_of o.place o.left ∷ whole rest) (whole (in_front (left - o.left) os)) mid new middle to) (sym front-new) one));
          passes = ap (passed (left - o.left)) front-new ∙ sym first-parts.3 ∙ s.passes;
          rest =
              let e = first-total in
              ap (λ os. total (in_front (left - o.left) os)) front-new ∙ omega arith;
        }

  module _ (left : ℕ) (new : BookView) (to : W) (none : left ≡ 0) (s : IsFronting took p side shares left old new from to) where
    pub fronting-done : AreFilled took p side (whole (in_front shares (side_of old side))) [] old new from to
    fronting-done =
        subst (λ fs. AreFilled took p side (whole (in_front shares (side_of old side))) fs old new from to)
        (ap (λ n. whole (in_front n (side_of new side))) none ∙ ap whole (in_front-none (side_of new side))) s.filled

    pub fronting-passed : side_of new side ≡ passed shares (side_of old side)
    fronting-passed = sym (passed-none (side_of new side)) ∙ ap (λ n. passed n (side_of new side)) (sym none) ∙ s.passes
