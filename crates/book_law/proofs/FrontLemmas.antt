-- The first trade of a book's two fronts.
use Rattle.std.proofs.Common.{◌≡◌, ℕ, ◌+◌, ◌-◌, ◌<◌, ◌≤◌, min, Bool, true, false, cond, eqb, ltb, List, [], ◌∷◌, length, filter, Some, refl, sym, ap, subst, ◌∙◌, arith}
use Rattle.std.specs.List.{All, AllByRecursion, AllPairs, flat_map, slice_get}
use Rattle.std.proofs.lemmas.Bool.Decides.{nat_tests}
use Rattle.std.proofs.lemmas.List.{get_or-map, length-map}
use Rattle.std.proofs.lemmas.List.Elements.{All-map, recursion_from_All}
use Rattle.mkt_base.specs.Fills.{after_trades}
use Rattle.mkt_base.specs.Priority.{in_priority, is_on_level, level_of, spots}
use Rattle.mkt_base.specs.declared.auction.Trade.{Trade}
use Rattle.mkt_base.specs.declared.order.Side.{Side}
use Rattle.mkt_base.specs.declared.order.Side.TheVariants.{Buy, Sell}
use Rattle.mkt_base.specs.declared.order.Spot.{Spot}
use Rattle.mkt_base.specs.declared.order.Order.{Order}
use Rattle.book_law.specs.BookView.{BookView, IsBookView, IsSpotBelow, asks, bids, less, orders, side_of, slot_of, taken}
use Rattle.book_law.specs.Paired.{paired, trade_of}
use Rattle.book_law.specs.Sides.{has_place, total}
use Rattle.book_law.proofs.Pairing.{AreFronts, asks-left, bids-left, empty-parts, paired-more}
use Rattle.book_law.proofs.Pairs.{all-append}
use Rattle.book_law.proofs.PlaceLemmas.{first-once, other-none, other-none_sell}
use Rattle.book_law.proofs.Sides.{in_priority-after}
use Rattle.book_law.proofs.TakenLemmas.{both-taken, total-cons}

-- what holds of all orders of a book holds of those of a side
module _ (P : Order → Type 0) (side : Side) (os : List Order) (all : AllByRecursion P os) where
  filter-all : (t : Order → Bool) (xs : List Order) → AllByRecursion P xs → AllByRecursion P (filter t xs)
  filter-all t [] all = tt
  filter-all t (x ∷ xs) all = step (t x) (filter-all t xs all.1)
    where
      step : (b : Bool) → AllByRecursion P (filter t xs) → AllByRecursion P (cond b (x ∷ filter t xs) (filter t xs))
      step true rest = (all.0, rest)
      step false rest = rest

  levels-all : (ss : List Spot) → AllByRecursion P (flat_map (λ spot. level_of side spot os) ss)
  levels-all [] = tt
  levels-all (s ∷ ss) = all-append P (level_of side s os) (flat_map (λ spot. level_of side spot os) ss) (filter-all (is_on_level side s) os all) (levels-all ss)

  pub in_priority-all : (n : ℕ) → AllByRecursion P (in_priority n side os)
  unfolding in_priority
  in_priority-all n = levels-all (spots n side)

-- the list whose first element is known
pub first-of : {X : Type 0} (xs : List X) (x : X) → slice_get xs 0 ≡ Some x → (rest : List X) × (xs ≡ x ∷ rest)
first-of [] x e = absurd (cc)
first-of (y ∷ ys) x e = let same : y ≡ x = cc in (ys, ap (λ z. z ∷ ys) same)

-- A book by place on a grid of m prices, whose orders have something left, with its best buy and its best sell.
module _ (m : ℕ) (os : List Order) (rising : AllPairs (λ a b. a.place < b.place) os) (below : All (λ o. IsSpotBelow m o.spot) os) (left : All (λ o. 0 < o.left) os)
    (x y : Order) (xs ys : List Order) (bids-are : in_priority m Buy os ≡ x ∷ xs) (asks-are : in_priority m Sell os ≡ y ∷ ys) where
  side-left : (side : Side) (z : Order) (zs : List Order) → in_priority m side os ≡ z ∷ zs → AllByRecursion (λ o. 0 < o.left) zs
  side-left side z zs e =
      let some : AllByRecursion (λ o. 0 < o.left) (z ∷ zs) =
      subst (AllByRecursion (λ o. 0 < o.left)) e (in_priority-all (λ o. 0 < o.left) side os (recursion_from_All (λ o. 0 < o.left) os left) m) in
      some.1

  pub fronts : AreFronts x y xs ys
  fronts = record {
    buy_once = first-once m os rising below Buy x xs bids-are;
    buy_alone = ap (filter (has_place x.place)) (sym asks-are) ∙ other-none m os rising below x xs bids-are;
    sell_once = first-once m os rising below Sell y ys asks-are;
    sell_alone = ap (filter (has_place y.place)) (sym bids-are) ∙ other-none_sell m os rising below y ys asks-are;
    buys_left = side-left Buy x xs bids-are;
    sells_left = side-left Sell y ys asks-are;
  }

  -- the two stand at different places
  pub fronts-apart : eqb x.place y.place ≡ false
  fronts-apart = (empty-parts (has_place x.place) y ys fronts.buy_alone).0

  module _ (p q : ℕ) where
    abbrev pub first_trade : Trade
    first_trade = trade_of p q x.place y.place

    abbrev pub after : List Order
    after = after_trades (first_trade ∷ []) os

    -- the side after the trade
    bids-after : in_priority m Buy after ≡ after_trades (first_trade ∷ []) (x ∷ xs)
    bids-after = in_priority-after m Buy (first_trade ∷ []) os ∙ ap (after_trades (first_trade ∷ [])) bids-are

    asks-after : in_priority m Sell after ≡ after_trades (first_trade ∷ []) (y ∷ ys)
    asks-after = in_priority-after m Sell (first_trade ∷ []) os ∙ ap (after_trades (first_trade ∷ [])) asks-are

    -- a pairing of v shares is one trade of the fronts, and then the pairing of the others in the book after it
    pub first-paired : (v : ℕ) → q ≡ min (min x.left y.left) v → 0 < q
        → paired p v (in_priority m Buy os) (in_priority m Sell os) ≡ first_trade ∷ paired p (v - q) (in_priority m Buy after) (in_priority m Sell after)
    first-paired v e some =
        ap (λ zs. paired p v zs (in_priority m Sell os)) bids-are
        ∙ ap (paired p v (x ∷ xs)) asks-are
        ∙ paired-more p q x y xs ys fronts v e some
        ∙ ap (λ zs. first_trade ∷ paired p (v - q) zs (after_trades (first_trade ∷ []) (y ∷ ys))) (sym bids-after)
        ∙ ap (λ zs. first_trade ∷ paired p (v - q) (in_priority m Buy after) zs) (sym asks-after)

    less-total : (b : Bool) (z : Order) (zs : List Order) → ltb 0 (z.left - q) ≡ b → q ≤ z.left → q + total (cond b (less q z ∷ zs) zs) ≡ total (z ∷ zs)
    less-total true z zs e within = omega (arith, total-cons (less q z) zs, total-cons z zs, within)
    less-total false z zs e within =
        let all : z.left ≤ q = grind (arith, nat_tests, e) in
        omega (arith, total-cons z zs, within, all)

    -- what each side has left falls by the trade's quantity
    pub first-bought : q ≤ x.left → q + total (in_priority m Buy after) ≡ total (in_priority m Buy os)
    first-bought within =
        ap (λ zs. q + total zs) (bids-after ∙ bids-left p q x y xs ys fronts)
        ∙ less-total (ltb 0 (x.left - q)) x xs refl within ∙ ap total (sym bids-are)

    pub first-sold : q ≤ y.left → q + total (in_priority m Sell after) ≡ total (in_priority m Sell os)
    first-sold within =
        ap (λ zs. q + total zs) (asks-after ∙ asks-left p q x y xs ys fronts)
        ∙ less-total (ltb 0 (y.left - q)) y ys refl within ∙ ap total (sym asks-are)

-- what holds of a book that stands, over its orders
module _ (b : BookView) (stands : IsBookView b) where
  pub orders-rising : AllPairs (λ o x. o.place < x.place) (orders b)
  orders-rising i j d h k =
      let some : j < length b.slots = omega (arith, length-map b.slots (λ s. s.order), k) in
      let early : i < length b.slots = omega arith in
      let first = get_or-map (λ s. s.order) b.slots i (slot_of 0 d) d early in
      let second = get_or-map (λ s. s.order) b.slots j (slot_of 0 d) d some in
      rw (first, second) (stands.by_place i j (slot_of 0 d) h some)

  pub orders-below : All (λ o. IsSpotBelow b.prices o.spot) (orders b)
  orders-below = All-map (λ o. IsSpotBelow b.prices o.spot) (λ s. s.order) b.slots stands.spots

  pub orders-left : All (λ o. 0 < o.left) (orders b)
  orders-left = All-map (λ o. 0 < o.left) (λ s. s.order) b.slots stands.some

-- A trade of q shares at the price p between the best buy x and the best sell y of a book, where at most v are to be traded:
-- the pairing of v shares is this trade and the pairing of the others over the new book; and each side falls by q.
pub record IsFirstTrade (p v q : ℕ) (x y : Order) (old new : BookView) : Type 0 where
  pub trades : paired p v (bids old) (asks old) ≡ trade_of p q x.place y.place ∷ paired p (v - q) (bids new) (asks new)
  pub book : orders new ≡ after_trades (trade_of p q x.place y.place ∷ []) (orders old)
  pub bought : q + total (bids new) ≡ total (bids old)
  pub sold : q + total (asks new) ≡ total (asks old)

-- a side of the new book
side-new : (x y : Order) (p q : ℕ) (old new : BookView) → new.prices ≡ old.prices → orders new ≡ after_trades (trade_of p q x.place y.place ∷ []) (orders old) → (side : Side)
    → side_of new side ≡ in_priority old.prices side (after_trades (trade_of p q x.place y.place ∷ []) (orders old))
side-new x y p q old new prices book side = ap (λ n. in_priority n side (orders new)) prices ∙ ap (in_priority old.prices side) book

-- so many shares taken from the best buy and from the best sell are such a trade
pub first-traded : (p v q : ℕ) (x y : Order) (old new : BookView) → IsBookView old → slice_get (bids old) 0 ≡ Some x → slice_get (asks old) 0 ≡ Some y
    → q ≡ min (min x.left y.left) v → 0 < q → new.prices ≡ old.prices → orders new ≡ taken y.place q (taken x.place q (orders old))
    → IsFirstTrade p v q x y old new
first-traded p v q x y old new stands buy sell least some prices book =
    let bs = first-of (bids old) x buy in
    let ss = first-of (asks old) y sell in
    let rising = orders-rising old stands in
    let below = orders-below old stands in
    let left = orders-left old stands in
    let apart = fronts-apart old.prices (orders old) rising below left x y bs.0 ss.0 bs.1 ss.1 in
    let traded = book ∙ both-taken p q x.place y.place apart (orders old) in
    let of-buy : q ≤ x.left = grind (arith, nat_tests, least) in
    let of-sell : q ≤ y.left = grind (arith, nat_tests, least) in
    let bids-new = side-new x y p q old new prices traded Buy in
    let asks-new = side-new x y p q old new prices traded Sell in
    record {
      trades =
          first-paired old.prices (orders old) rising below left x y bs.0 ss.0 bs.1 ss.1 p q v least some
          ∙ ap (λ zs. trade_of p q x.place y.place ∷ paired p (v - q) zs (in_priority old.prices Sell (after_trades (trade_of p q x.place y.place ∷ []) (orders old)))) (sym bids-new)
          ∙ ap (λ zs. trade_of p q x.place y.place ∷ paired p (v - q) (bids new) zs) (sym asks-new);
      book = traded;
      bought = ap (λ zs. q + total zs) bids-new ∙ first-bought old.prices (orders old) rising below left x y bs.0 ss.0 bs.1 ss.1 p q of-buy;
      sold = ap (λ zs. q + total zs) asks-new ∙ first-sold old.prices (orders old) rising below left x y bs.0 ss.0 bs.1 ss.1 p q of-sell;
    }
