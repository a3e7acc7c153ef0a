-- The order that is met next in a book, or the stop before it.
use Rattle.std.proofs.Common.{◌≡◌, ℕ, ◌<◌, Bool, true, false, cond, ◌||◌, List, [], ◌∷◌, length, filter, Option, Some, None, refl, sym, ap, subst, ◌∙◌, arith}
use Rattle.std.specs.List.{All, AllByRecursion, slice_get}
use Rattle.std.specs.Option.{MatchOption, is_some, option_map_or}
use Rattle.std.proofs.lemmas.List.Elements.{recursion_from_All}
use Rattle.mkt_base.specs.Book.{IsRising, is_market_or, limit_of, price_at}
use Rattle.mkt_base.specs.Priority.{in_priority}
use Rattle.mkt_base.specs.declared.order.Order.{Order}
use Rattle.mkt_base.specs.declared.order.Side.{Side}
use Rattle.mkt_base.specs.declared.order.Spot.TheVariants.{Market, At}
use Rattle.mkt_base.specs.declared.units.Price.{Price}
use Rattle.book_law.specs.BookView.{BookView, IsBookView, IsSpotBelow, Names, NamesFirst, Slot, orders, side_of, slot_of}
use Rattle.book_law.proofs.FrontLemmas.{first-of, in_priority-all, orders-below, orders-left, orders-rising}
use Rattle.zaraba.specs.Arrival.{arrival_over, crossed, crosses, crosses_at, cut_stop, ended_stop, is_beyond, is_gap, limit_price, opposite, way}
use Rattle.zaraba.specs.Walk.{Awaits, IsFront, IsStopped, is_too_far, jump, stop_before, with_left}
use Rattle.zaraba.specs.declared.next.Next.{Next}
use Rattle.zaraba.specs.declared.stop.Stop.{Stop}
use Rattle.zaraba.specs.declared.stop.Stop.TheVariants.{Gap, Sequence}
use Rattle.zaraba.proofs.CrossedLemmas.{crossed-first, crossed-none, crossed-past}
use Rattle.zaraba.proofs.WalkLemmas.{walk-cut, walk-none}

-- the order that a handle names is the first of a side, where the handle names the first
pub named-front : (b : BookView) (s t : Side) (found : Option ℕ) (h : ℕ) (x : Order) → NamesFirst b (side_of b s) found → found ≡ Some h → s ≡ t → Names b h x → slice_get (side_of b t) 0 ≡ Some x
named-front b s t found h x first is same names =
    let named : MatchOption (Some h) (side_of b s ≡ []) (λ k. (o : Order) × Names b k o × (slice_get (side_of b s) 0 ≡ Some o)) =
    subst (λ f. NamesFirst b (side_of b s) f) is first in
    let slots : Path (Option Slot) (Some (slot_of h named.0)) (Some (slot_of h x)) = sym named.1 ∙ names in
    let slot : slot_of h named.0 ≡ slot_of h x = cc in
    let order : named.0 ≡ x = ap (λ z. z.order) slot in
    subst (λ z. slice_get (side_of b z) 0 ≡ Some x) same (named.2 ∙ ap (λ o. Some o) order)

module _ (b : BookView) (stands : IsBookView b) (side : Side) (x : Order) (front : slice_get (side_of b side) 0 ≡ Some x) where
  -- what holds of all orders of a book holds of the first of a side
  pub front-holds : (P : Order → Type 0) → All P (orders b) → P x
  front-holds P all =
      let e = first-of (side_of b side) x front in
      let holds : AllByRecursion P (x ∷ e.0) = subst (AllByRecursion P) e.1 (in_priority-all P side (orders b) (recursion_from_All P (orders b) all) b.prices) in
      holds.0

  pub front-some : 0 < x.left
  front-some = front-holds (λ o. 0 < o.left) (orders-left b stands)

  pub front-inside : (grid : List Price) (at : ℕ) → length grid ≡ b.prices → x.spot ≡ At at → at < length grid
  front-inside grid at size e =
      let below : IsSpotBelow b.prices (At at) = subst (IsSpotBelow b.prices) e (front-holds (λ o. IsSpotBelow b.prices o.spot) (orders-below b stands)) in
      omega arith

-- The first order on the side against an order that a book awaits.
module _ (grid : List Price) (o : Order) (b : BookView) (stands : IsBookView b) (awaits : Awaits grid o b) (x : Order) (front : slice_get (side_of b (opposite o.side)) 0 ≡ Some x) where
  -- is no market order
  pub never-market : x.spot ≡ Market → ⊥
  never-market e =
      let limit = front-holds b stands (opposite o.side) x front (λ z. is_some (limit_of grid z.spot) ≡ true) awaits.limited in
      let none : is_some (limit_of grid x.spot) ≡ false = ap (λ s. is_some (limit_of grid s)) e in
      absurd (cc)

  pub is-front : (h at : ℕ) → Names b h x → x.spot ≡ At at → IsFront grid o b (record { handle = h; order = x; at = at })
  is-front h at names spot = record {
    names = names;
    front = front;
    spot = spot;
    inside = front-inside b stands (opposite o.side) x front grid at awaits.size spot;
    some = front-some b stands (opposite o.side) x front;
  }

-- A book over a rising grid that awaits an order.
module _ (grid : List Price) (rising : IsRising grid) (range : ℕ → ℕ) (first last : ℕ) (o : Order) (b : BookView) (stands : IsBookView b) (awaits : Awaits grid o b) where
  same-side : side_of b (opposite o.side) ≡ in_priority (length grid) (opposite o.side) (orders b)
  same-side = ap (λ n. in_priority n (opposite o.side) (orders b)) (sym awaits.size)

  pub limits : AllByRecursion (λ x. is_some (limit_of grid x.spot) ≡ true) (orders b)
  limits = recursion_from_All (λ x. is_some (limit_of grid x.spot) ≡ true) (orders b) awaits.limited

  stopped-none : crossed grid o (orders b) ≡ [] → (left : ℕ) → 0 < left → IsStopped grid range first o b left last (ended_stop o.side o.spot)
  stopped-none none left wanted = ap (λ xs. arrival_over grid range first xs (with_left o left) last) none ∙ walk-none grid range first (with_left o left) last wanted

  -- with none on the other side it stops
  pub stops-empty : side_of b (opposite o.side) ≡ [] → (stop : Stop) → stop ≡ ended_stop o.side o.spot → (left : ℕ) → 0 < left → IsStopped grid range first o b left last stop
  stops-empty empty stop is left wanted =
      subst (IsStopped grid range first o b left last) (sym is)
      (stopped-none (crossed-none grid o (orders b) rising (orders-rising b stands) limits (sym same-side ∙ empty)) left wanted)

  module _ (next : Next) (front : IsFront grid o b next) where
    pub rest : List Order
    rest = (first-of (side_of b (opposite o.side)) next.order front.front).0

    pub front-is : in_priority (length grid) (opposite o.side) (orders b) ≡ next.order ∷ rest
    unfolding rest
    front-is = sym same-side ∙ (first-of (side_of b (opposite o.side)) next.order front.front).1

    -- where the first is not crossed it stops
    pub stops-past : crosses grid o next.order ≡ false → (stop : Stop) → stop ≡ ended_stop o.side o.spot → (left : ℕ) → 0 < left → IsStopped grid range first o b left last stop
    stops-past fails stop is left wanted =
        subst (IsStopped grid range first o b left last) (sym is)
        (stopped-none (crossed-past grid o (orders b) rising (orders-rising b stands) limits next.order rest front-is fails) left wanted)

    pub own-price : limit_price grid next.order ≡ price_at grid next.at
    own-price = ap (λ s. option_map_or (λ p. p) (limit_of grid s) 0) front.spot

    -- whether it is crossed, by its price
    pub crossed-is : (answer : Bool) → answer ≡ is_market_or (crosses_at o.side (price_at grid next.at)) (limit_of grid o.spot) → crosses grid o next.order ≡ answer
    crossed-is answer is = ap (λ s. option_map_or (λ price. is_market_or (crosses_at o.side price) (limit_of grid o.spot)) (limit_of grid s) false) front.spot ∙ sym is

    abbrev if_stop : Bool → Bool → Stop → Stop → Option Stop
    if_stop g f s t = cond g (Some s) (cond f (Some t) None)

    stop-far : (g f : Bool) (stop : Stop) (s t : Stop) → (if_stop g f s t) ≡ Some stop → ((g || f) ≡ true) × (cond g s t ≡ stop)
    stop-far true f stop s t e = (refl, cc)
    stop-far false true stop s t e = (refl, cc)
    stop-far false false stop s t e = absurd (cc)

    -- where its price is too far it stops
    pub stops-cut : crosses grid o next.order ≡ true → (found : Option Stop) → found ≡ stop_before range first o.side (jump last (price_at grid next.at)) → (stop : Stop) → found ≡ Some stop
        → (left : ℕ) → 0 < left → IsStopped grid range first o b left last stop
    stops-cut passes found is stop some left wanted =
        let j = jump last (price_at grid next.at) in
        let far = stop-far (is_gap range j) (is_beyond range first j) stop (Gap (way j)) (Sequence o.side) (sym is ∙ some) in
        let beyond : is_too_far grid range first last next.order ≡ true = ap (λ p. is_gap range (jump last p) || is_beyond range first (jump last p)) own-price ∙ far.0 in
        let xs = filter (crosses grid o) rest in
        ap (λ ys. arrival_over grid range first ys (with_left o left) last) (crossed-first grid o (orders b) rising (orders-rising b stands) limits next.order rest front-is passes)
        ∙ walk-cut grid range first next.order xs (with_left o left) last wanted beyond
        ∙ ap (λ p. record { trades = []; left = left; last = last; stop = cut_stop range (with_left o left) (Some (jump last p)) }) own-price
        ∙ ap (λ s. record { trades = []; left = left; last = last; stop = s }) far.1
