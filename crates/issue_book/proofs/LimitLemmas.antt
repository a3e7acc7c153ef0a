-- A walk along a side of a book to its first limit order, and the best limit that it has.
use Rattle.std.proofs.Common.{◌≡◌, ◌≢◌, ℕ, ◌<◌, ◌≤◌, Bool, true, false, cond, eqb, not, List, [], ◌∷◌, ◌++◌, length, map, filter, Option, Some, None, append_assoc, refl, sym, ap, subst, ◌∙◌, arith}
use Rattle.std.specs.List.{cons_option, slice_get}
use Rattle.std.specs.Option.{IfSome, option_map, option_map_or}
use Rattle.std.proofs.lemmas.Bool.Decides.{nat_tests}
use Rattle.std.proofs.lemmas.List.Elements.{All-filter}
use Rattle.std.proofs.lemmas.List.Kept.{AllPairs-filter}
use Rattle.std.proofs.lemmas.List.Sums.{count_by-le-length, length-filter, sum_by-cons}
use Rattle.mkt_base.specs.Book.{is_buy, limit_of, price_at}
use Rattle.mkt_base.specs.Priority.{in_priority}
use Rattle.mkt_base.specs.declared.order.Order.{Order}
use Rattle.mkt_base.specs.declared.order.Side.{Side}
use Rattle.mkt_base.specs.declared.order.Side.TheVariants.{Buy, Sell}
use Rattle.mkt_base.specs.declared.order.Spot.{Spot}
use Rattle.mkt_base.specs.declared.order.Spot.TheVariants.{Market, At}
use Rattle.mkt_base.specs.declared.units.Price.{Price}
use Rattle.auction_law.specs.Attempt.{best_ask, best_bid, greatest, least, limits, side_limit}
use Rattle.book_law.specs.BookView.{BookView, IsBookView, IsGridOf, IsSpotBelow, Names, NamesFirst, Slot, is_of, orders, side_of}
use Rattle.book_law.specs.Sides.{count_at}
use Rattle.book_law.proofs.FrontLemmas.{first-of, orders-below, orders-rising}
use Rattle.book_law.proofs.PlaceLemmas.{length-single}
use Rattle.book_law.proofs.Sides.{in_priority-filter}
use Rattle.itayose.specs.Answer.{best_spot, position_of, price_there}
use Rattle.itayose.proofs.BestLemmas.{ask-found, bid-found}
use Rattle.itayose.proofs.TradingLemmas.{names-one}
use Rattle.issue_book.specs.Limits.{IsAlong, first_limit, from_handle, from_place, is_limit, is_position}

-- ---- the walk

module _ (o : Order) (rest : List Order) where
  place-step : (b : Bool) (x : Order) (xs : List Order) → eqb o.place x.place ≡ b → count_at o.place (x ∷ (xs ++ o ∷ rest)) ≤ 1
      → 1 ≤ count_at o.place (xs ++ o ∷ rest) → (count_at o.place (xs ++ o ∷ rest) ≤ 1 → from_place o.place (xs ++ o ∷ rest) ≡ o ∷ rest)
      → cond b (x ∷ (xs ++ o ∷ rest)) (from_place o.place (xs ++ o ∷ rest)) ≡ o ∷ rest
  place-step true x xs e once some behind =
      let f : Order → ℕ = λ y. cond (eqb o.place y.place) 1 0 in
      let here : f x ≡ 1 = ap (λ b. cond {A = ℕ} b 1 0) e in
      absurd (omega (arith, sum_by-cons f x (xs ++ o ∷ rest), here, once, some))
  place-step false x xs e once some behind =
      let f : Order → ℕ = λ y. cond (eqb o.place y.place) 1 0 in
      let here : f x ≡ 0 = ap (λ b. cond {A = ℕ} b 1 0) e in
      behind (omega (arith, sum_by-cons f x (xs ++ o ∷ rest), here, once))

  itself : eqb o.place o.place ≡ true
  itself = grind (arith, nat_tests)

  stands-there : (xs : List Order) → 1 ≤ count_at o.place (xs ++ o ∷ rest)
  stands-there [] =
      let f : Order → ℕ = λ y. cond (eqb o.place y.place) 1 0 in
      let here : f o ≡ 1 = ap (λ b. cond {A = ℕ} b 1 0) itself in
      omega (arith, sum_by-cons f o rest, here)
  stands-there (x ∷ xs) =
      let f : Order → ℕ = λ y. cond (eqb o.place y.place) 1 0 in
      omega (arith, sum_by-cons f x (xs ++ o ∷ rest), stands-there xs)

  -- in a list where its place stands once the orders from an order on are it and those behind it
  from-there : (xs : List Order) → count_at o.place (xs ++ o ∷ rest) ≤ 1 → from_place o.place (xs ++ o ∷ rest) ≡ o ∷ rest
  from-there [] once = ap (λ b. cond b (o ∷ rest) (from_place o.place rest)) itself
  from-there (x ∷ xs) once = place-step (eqb o.place x.place) x xs refl once (stands-there xs) (from-there xs)

module _ (b : BookView) (stands : IsBookView b) (side : Side) where
  -- the orders from the handle on that names the first of them
  rest-is : (before rest : List Order) (next : Option ℕ) → side_of b side ≡ before ++ rest → NamesFirst b rest next → from_handle b side next ≡ rest
  rest-is before rest None split names = sym names
  rest-is before rest (Some h) split (o, names, first) =
      let r = first-of rest o first in
      let whole : side_of b side ≡ before ++ o ∷ r.0 = split ∙ ap (λ xs. before ++ xs) r.1 in
      let once : count_at o.place (before ++ o ∷ r.0) ≤ 1 =
      subst (λ xs. count_at o.place xs ≤ 1) whole (length-single b.prices (orders b) (orders-rising b stands) (orders-below b stands) o.place side) in
      ap (λ found. option_map_or (λ s. from_place s.order.place (side_of b side)) found []) names
      ∙ ap (from_place o.place) whole ∙ from-there o r.0 before once ∙ sym r.1

  -- where the walk begins
  pub along-first : (next : Option ℕ) → NamesFirst b (side_of b side) next → IsAlong b side next
  along-first next names =
      let same = rest-is [] (side_of b side) next refl names in
      record { before = []; split = sym same; names = subst (λ xs. NamesFirst b xs next) (sym same) names; same = ap first_limit (sym same) }

  -- the order at which it stands, and those behind it
  pub at-order : (h : ℕ) (o : Order) → IsAlong b side (Some h) → Names b h o → (r : List Order) × (from_handle b side (Some h) ≡ o ∷ r)
  at-order h o along names =
      let w = along.names in
      let same : w.0 ≡ o = names-one b h w.0 o w.1 names in
      let r = first-of (from_handle b side (Some h)) w.0 w.2 in
      (r.0, r.1 ∙ ap (λ x. x ∷ r.0) same)

  -- one order on, behind a market order
  module _ (h : ℕ) (o : Order) (next : Option ℕ) (along : IsAlong b side (Some h)) (names : Names b h o)
      (leads : (s : Side) (x : Order) (before rest : List Order) → Names b h x → side_of b s ≡ before ++ x ∷ rest → NamesFirst b rest next) where
    whole : side_of b side ≡ along.before ++ o ∷ (at-order h o along names).0
    whole = along.split ∙ ap (λ xs. along.before ++ xs) (at-order h o along names).1

    behind : from_handle b side next ≡ (at-order h o along names).0
    behind =
        let r = (at-order h o along names).0 in
        rest-is (along.before ++ o ∷ []) r next (whole ∙ sym (append_assoc along.before (o ∷ []) r)) (leads side o along.before r names whole)

    pub along-next : is_limit o ≡ false → IsAlong b side next
    along-next market =
        let r = at-order h o along names in
        record {
          before = along.before ++ o ∷ [];
          split = whole ∙ sym (append_assoc along.before (o ∷ []) r.0) ∙ ap (λ xs. (along.before ++ o ∷ []) ++ xs) (sym behind);
          names = subst (λ xs. NamesFirst b xs next) (sym behind) (leads side o along.before r.0 names whole);
          same = along.same ∙ ap first_limit r.1
              ∙ ap (λ t. position_of (option_map (λ x. x.spot) (slice_get (cond t (o ∷ filter is_limit r.0) (filter is_limit r.0)) 0))) market
              ∙ ap first_limit (sym behind);
        }

    pub along-less : length (from_handle b side next) < length (from_handle b side (Some h))
    along-less =
        let r = at-order h o along names in
        let now : length (from_handle b side (Some h)) ≡ length (o ∷ r.0) = ap length r.1 in
        let then : length (from_handle b side next) ≡ length r.0 = ap length behind in
        omega arith

  -- at a limit order it ends
  pub along-limit : (h : ℕ) (o : Order) (i : ℕ) → IsAlong b side (Some h) → Names b h o → o.spot ≡ At i → Some i ≡ first_limit (side_of b side)
  along-limit h o i along names spot =
      let r = at-order h o along names in
      let limit : is_limit o ≡ true = ap is_position spot in
      sym (along.same ∙ ap first_limit r.1
      ∙ ap (λ t. position_of (option_map (λ x. x.spot) (slice_get (cond t (o ∷ filter is_limit r.0) (filter is_limit r.0)) 0))) limit
      ∙ ap (λ s. position_of (Some s)) spot)

  pub along-none : (next : Option ℕ) → next ≡ None → IsAlong b side next → None ≡ first_limit (side_of b side)
  along-none next e along = sym (along.same ∙ ap (λ n. first_limit (from_handle b side n)) e)

-- an order that does not stand at a position is no limit order
pub no-limit : (o : Order) → ((i : ℕ) → o.spot ≡ At i → ⊥) → is_limit o ≡ false
no-limit o other = at o.spot refl
  where
    at : (s : Spot) → o.spot ≡ s → is_position s ≡ false
    at Market e = refl
    at (At i) e = absurd (other i e)

-- ---- the best limit

-- the book with its limit orders alone
abbrev pub limited : BookView → BookView
limited b = record b { slots = filter (λ s. is_limit s.order) b.slots }

-- it stands
limited-stands : (b : BookView) → IsBookView b → IsBookView (limited b)
limited-stands b stands =
    let kept : Slot → Bool = λ s. is_limit s.order in
    record {
      few = omega (arith, length-filter kept b.slots, count_by-le-length kept b.slots, stands.few);
      bound = stands.bound;
      some_price = stands.some_price;
      few_prices = stands.few_prices;
      by_place = AllPairs-filter (λ s t. s.order.place < t.order.place) kept b.slots stands.by_place;
      handles = AllPairs-filter (λ s t. s.handle ≢ t.handle) kept b.slots stands.handles;
      pairs = AllPairs-filter (λ s t. is_of s.order.caller s.order.own t.order ≡ false) kept b.slots stands.pairs;
      some = All-filter kept (λ s. 1 ≤ s.order.left) b.slots stands.some;
      limit = All-filter kept (λ s. s.order.left ≤ 100000000) b.slots stands.limit;
      spots = All-filter kept (λ s. IsSpotBelow b.prices s.order.spot) b.slots stands.spots;
    }

limited-orders : (ss : List Slot) → map (λ s. s.order) (filter (λ s. is_limit s.order) ss) ≡ filter is_limit (map (λ s. s.order) ss)
limited-orders [] = refl
limited-orders (s ∷ ss) = step (is_limit s.order) ∙ ap (λ xs. cond (is_limit s.order) (s.order ∷ xs) xs) (limited-orders ss)
  where
    step : (b : Bool) → map (λ t. t.order) (cond b (s ∷ filter (λ t. is_limit t.order) ss) (filter (λ t. is_limit t.order) ss))
        ≡ cond b (s.order ∷ map (λ t. t.order) (filter (λ t. is_limit t.order) ss)) (map (λ t. t.order) (filter (λ t. is_limit t.order) ss))
    step true = refl
    step false = refl

module _ (grid : List Price) (buying : Bool) where
  no-limit_of : (b : Bool) → cond {A = Option ℕ} b None None ≡ None
  no-limit_of true = refl
  no-limit_of false = refl

  limits-step : (o : Order) (os : List Order) (s : Spot) → o.spot ≡ s → limits grid buying (filter is_limit os) ≡ limits grid buying os → limits grid buying (filter is_limit (o ∷ os)) ≡ limits grid buying (o ∷ os)
  limits-step o os Market e rest =
      let mine : Bool = cond buying (is_buy o.side) (not (is_buy o.side)) in
      let none : side_limit grid buying o ≡ None = ap (λ l. cond {A = Option ℕ} mine l None) (ap (limit_of grid) e) ∙ no-limit_of mine in
      ap (λ b. limits grid buying (cond b (o ∷ filter is_limit os) (filter is_limit os))) (ap is_position e) ∙ rest ∙ ap (λ l. cons_option l (limits grid buying os)) (sym none)
  limits-step o os (At i) e rest =
      ap (λ b. limits grid buying (cond b (o ∷ filter is_limit os) (filter is_limit os))) (ap is_position e) ∙ ap (λ xs. cons_option (side_limit grid buying o) xs) rest

  -- market orders have no limits
  limits-same : (os : List Order) → limits grid buying (filter is_limit os) ≡ limits grid buying os
  limits-same [] = refl
  limits-same (o ∷ os) = limits-step o os o.spot refl (limits-same os)

-- the first of the limit orders is none of the market
first-limited : (os : List Order) → option_map (λ o. o.spot) (slice_get (filter is_limit os) 0) ≡ Some Market → ⊥
first-limited [] e = absurd (cc)
first-limited (o ∷ os) e = step (is_limit o) refl e (first-limited os)
  where
    step : (b : Bool) → is_limit o ≡ b → option_map (λ x. x.spot) (slice_get (cond b (o ∷ filter is_limit os) (filter is_limit os)) 0) ≡ Some Market
        → (option_map (λ x. x.spot) (slice_get (filter is_limit os) 0) ≡ Some Market → ⊥) → ⊥
    step true limit f rest = let market : o.spot ≡ Market = cc in let none : is_limit o ≡ false = ap is_position market in absurd (cc)
    step false limit f rest = rest f

module _ (b : BookView) (stands : IsBookView b) (grid : List Price) (grid_of : IsGridOf b grid) where
  side-limited : (side : Side) → side_of (limited b) side ≡ filter is_limit (side_of b side)
  side-limited side = ap (in_priority b.prices side) (limited-orders b.slots) ∙ in_priority-filter b.prices side is_limit (orders b)

  spot-limited : (side : Side) → best_spot (limited b) side ≡ option_map (λ o. o.spot) (slice_get (filter is_limit (side_of b side)) 0)
  spot-limited side = ap (λ xs. option_map (λ o. o.spot) (slice_get xs 0)) (side-limited side)

  grid-limited : IsGridOf (limited b) grid
  grid-limited = record { rising = grid_of.rising; size = grid_of.size }

  -- the limit of the first limit buy is the greatest
  pub bid-is : greatest (limits grid true (orders b)) ≡ option_map (price_at grid) (first_limit (side_of b Buy))
  bid-is =
      ap greatest (sym (ap (limits grid true) (limited-orders b.slots) ∙ limits-same grid true (orders b)))
      ∙ (bid-found (limited b) (limited-stands b stands) grid grid-limited (option_map (λ o. o.spot) (slice_get (filter is_limit (side_of b Buy)) 0)) (spot-limited Buy) (first-limited (side_of b Buy))).best

  pub ask-is : least (limits grid false (orders b)) ≡ option_map (price_at grid) (first_limit (side_of b Sell))
  ask-is =
      ap least (sym (ap (limits grid false) (limited-orders b.slots) ∙ limits-same grid false (orders b)))
      ∙ (ask-found (limited b) (limited-stands b stands) grid grid-limited (option_map (λ o. o.spot) (slice_get (filter is_limit (side_of b Sell)) 0)) (spot-limited Sell) (first-limited (side_of b Sell))).best

  -- the first limit of a side stands on the grid
  pub limit-inside : (side : Side) → IfSome (first_limit (side_of b side)) (λ i. i < length grid)
  limit-inside Buy = (bid-found (limited b) (limited-stands b stands) grid grid-limited (option_map (λ o. o.spot) (slice_get (filter is_limit (side_of b Buy)) 0)) (spot-limited Buy) (first-limited (side_of b Buy))).inside
  limit-inside Sell = (ask-found (limited b) (limited-stands b stands) grid grid-limited (option_map (λ o. o.spot) (slice_get (filter is_limit (side_of b Sell)) 0)) (spot-limited Sell) (first-limited (side_of b Sell))).inside

  -- the best limit of a side that was found
  to-price : (found : Option ℕ) → option_map {T = ℕ} {U = Price} (λ p. record { 0 = p }) (option_map (price_at grid) found) ≡ option_map (price_there grid) found
  to-price None = refl
  to-price (Some i) = refl

  pub bid-told : (side : Side) (found : Option ℕ) → found ≡ first_limit (side_of b side) → side ≡ Buy → option_map (price_there grid) found ≡ best_bid grid (orders b)
  bid-told side found e s =
      sym (ap (option_map {T = ℕ} {U = Price} (λ p. record { 0 = p })) (bid-is ∙ ap (option_map (price_at grid)) (sym (e ∙ ap (λ x. first_limit (side_of b x)) s))) ∙ to-price found)

  pub ask-told : (side : Side) (found : Option ℕ) → found ≡ first_limit (side_of b side) → side ≡ Sell → option_map (price_there grid) found ≡ best_ask grid (orders b)
  ask-told side found e s =
      sym (ap (option_map {T = ℕ} {U = Price} (λ p. record { 0 = p })) (ask-is ∙ ap (option_map (price_at grid)) (sym (e ∙ ap (λ x. first_limit (side_of b x)) s))) ∙ to-price found)
