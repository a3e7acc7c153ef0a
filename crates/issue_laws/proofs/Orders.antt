-- Orders that enter an issue, change or leave it: what they keep.
use Rattle.std.proofs.Common.{◌≡◌, ℕ, zero, suc, ◌+◌, ◌%◌, ◌<◌, ◌≤◌, Bool, true, false, cond, not, eqb, leb, nat_lt, ◌&&◌, inl, inr, List, [], ◌∷◌, ◌++◌, append-nil, length, map, filter, Option, Some, None, is_none, refl, sym, ap, subst, ◌∙◌, arith}
use Rattle.std.specs.List.{AllByRecursion}
use Rattle.std.proofs.lemmas.Bool.{and_parts, leb-true}
use Rattle.std.proofs.lemmas.List.Elements.{All-from_recursion, recursion_from_All}
use Rattle.std.proofs.lemmas.List.Quantifiers.{position-Some}
use Rattle.mkt_base.specs.Fills.{after_trades}
use Rattle.mkt_base.specs.Priority.{is_same_spot}
use Rattle.mkt_base.specs.declared.auction.Trade.{Trade}
use Rattle.mkt_base.specs.declared.event.Entry.{Entry}
use Rattle.mkt_base.specs.declared.event.Phase.{Phase}
use Rattle.mkt_base.specs.declared.event.Phase.TheVariants.{Idle, Collecting, Trading}
use Rattle.mkt_base.specs.declared.event.Reason.{Reason}
use Rattle.mkt_base.specs.declared.order.Kind.{Kind}
use Rattle.mkt_base.specs.declared.order.Kind.TheVariants as kinds
use Rattle.mkt_base.specs.declared.order.Order.{Order}
use Rattle.mkt_base.specs.declared.order.Side.{Side}
use Rattle.mkt_base.specs.declared.order.Spot.{Spot}
use Rattle.mkt_base.specs.declared.order.Spot.TheVariants.{Market, At}
use Rattle.mkt_base.specs.declared.quote.Quote.{Quote}
use Rattle.mkt_base.specs.declared.units.Caller.{Caller}
use Rattle.mkt_base.specs.declared.units.Participant.{Participant}
use Rattle.mkt_base.specs.declared.units.Price.{Price}
use Rattle.mkt_base.specs.declared.units.Qty.{Qty}
use Rattle.auction_law.specs.Attempt.{is_calm}
use Rattle.book_law.specs.BookView.{IsSpotBelow, is_of}
use Rattle.book_law.proofs.Pairs.{Pairs, all-append, pairs-append, weaken}
use Rattle.tick_grid.specs.Grid.{index_of}
use Rattle.tick_grid.specs.Rows.{band_of}
use Rattle.zaraba.specs.Arrival.{rest_of}
use Rattle.zaraba.specs.Laws.{IsArriving, IsGridPrice}
use Rattle.zaraba.specs.declared.stop.Stop.{Stop}
use Rattle.zaraba.specs.declared.stop.Stop.TheVariants.{Done, Gap, Sequence}
use Rattle.zaraba.proofs.CalmLemmas.{Apart, calm-apart, calm-from, calm-limited}
use Rattle.zaraba.proofs.EachLemmas.{filtered}
use Rattle.std.specs.Option.{is_some, option_map, unwrap_or}
use Rattle.std.specs.List.{position}
use Rattle.mkt_base.specs.Book.{limit_of}
use Rattle.issue_book.specs.Entering.{arrival_at, arrive, arrived, enter, join, lower, lowered, named, quote_for, spot_of, take_out, trades_now}
use Rattle.issue_book.specs.IssueView.{AreTerms, IsPriceOf}
use Rattle.issue_book.specs.Quoting.{is_trading, try_quote}
use Rattle.issue_book.specs.State.{Move, State, Terms, stay, ◌then◌}
use Rattle.issue_machine.specs.Answering.{Replied, accepted, bad_price, bad_qty, cancel_named, change_named, change_to, changed, closed, first_reason, is_quantity, not_yours, order_of, take_cancel, take_change, take_order, unknown, unless}
use Rattle.issue_laws.specs.Lower.{LowerLaws}
use Rattle.issue_laws.proofs.Standing.{ArePriced, IsFine, IsGood, Stands, StaysCalm, fine-quote, fine-stay, fine-then, good-from, good-then, stands-after, trades-told}
use Rattle.issue_laws.proofs.Auctions.{book-on, good-try}

-- ---- an order joins

-- an order that comes next: at a place, with something left, and on the grid
pub record IsEntering (t : Terms) (n : ℕ) (o : Order) : Type 0 where
  pub place : o.place ≡ n
  pub some : 0 < o.left
  pub spot : IsSpotBelow (length t.grid) o.spot

pub stands-more : (t : Terms) (n : ℕ) (s : State) → Stands t n s → Stands t (n + 1) s
stands-more t n s stands = record {
  by_place = stands.by_place;
  below = weaken (λ o. o.place < n) (λ o. o.place < n + 1) (λ o h. omega (arith, h)) s.orders stands.below;
  some = stands.some;
  spots = stands.spots;
  last = stands.last;
}

pub stands-with : (t : Terms) (n : ℕ) (o : Order) (s : State) → IsEntering t n o → Stands t n s → Stands t (n + 1) (record s { orders = s.orders ++ o ∷ [] })
stands-with t n o s enters stands =
    let here : o.place ≡ n = enters.place in
    record {
      by_place =
          pairs-append (λ a b. a.place < b.place) s.orders (o ∷ []) stands.by_place (tt, tt)
          (weaken (λ x. x.place < n) (λ x. AllByRecursion (λ b. x.place < b.place) (o ∷ [])) (λ x h. (omega (arith, h, here), tt)) s.orders stands.below);
      below = all-append (λ x. x.place < n + 1) s.orders (o ∷ []) (weaken (λ x. x.place < n) (λ x. x.place < n + 1) (λ x h. omega (arith, h)) s.orders stands.below) (omega (arith, here), tt);
      some = all-append (λ x. 0 < x.left) s.orders (o ∷ []) stands.some (enters.some, tt);
      spots = all-append (λ x. IsSpotBelow (length t.grid) x.spot) s.orders (o ∷ []) stands.spots (enters.spot, tt);
      last = stands.last;
    }

-- what is left of it
stands-rest : (t : Terms) (n : ℕ) (o : Order) (k : ℕ) (s : State) → IsEntering t n o → Stands t n s → Stands t (n + 1) (record s { orders = s.orders ++ rest_of o k })
stands-rest t n o zero s enters stands = subst (λ xs. Stands t (n + 1) (record s { orders = xs })) (sym (append-nil s.orders)) (stands-more t n s stands)
stands-rest t n o (suc k) s enters stands = stands-with t n (record o { left = suc k }) s (record { place = enters.place; some = omega arith; spot = enters.spot }) stands

-- while nothing trades at once, no calm is asked for
not-now : (s : State) → trades_now s ≡ false → s.phase ≡ Trading → s.quote ≡ None → ⊥
not-now s e phase quote =
    let same : trades_now s ≡ true = ap (λ p. is_trading p && is_none s.quote) phase ∙ ap is_none quote in
    absurd (cc)

trading-is : (phase : Phase) → is_trading phase ≡ true → phase ≡ Trading
trading-is Idle e = absurd (cc)
trading-is Collecting e = absurd (cc)
trading-is Trading e = refl

none-is : (q : Option Quote) → is_none q ≡ true → q ≡ None
none-is None e = refl
none-is (Some q) e = absurd (cc)

pub calm-now : (t : Terms) (s : State) → StaysCalm t s → trades_now s ≡ true → is_calm t.grid s.orders ≡ true
calm-now t s calm e =
    let parts = and_parts (is_trading s.phase) (is_none s.quote) e in
    calm (trading-is s.phase parts.0) (none-is s.quote parts.1)

module _ (laws : LowerLaws) (t : Terms) (is : AreTerms t) where
  pub arriving : (n : ℕ) (o : Order) (s : State) → IsEntering t n o → Stands t n s → IsArriving t.grid s.orders o
  arriving n o s enters stands =
      let here : o.place ≡ n = enters.place in
      record {
        rising = is.grid.rising;
        book = book-on t n s stands;
        later = All-from_recursion (λ x. x.place < o.place) s.orders (weaken (λ x. x.place < n) (λ x. x.place < o.place) (λ x h. omega (arith, h, here)) s.orders stands.below);
      }

  last-price : (n : ℕ) (o : Order) (s : State) → IsEntering t n o → Stands t n s → IsPriceOf t.grid (arrival_at t o s).last
  last-price n o s enters stands = elim (laws.last_is_near t.grid (band_of t.ranges) s.orders o s.last (arriving n o s enters stands)).1 [
    | inl same ↦ subst (IsPriceOf t.grid) (sym same) stands.last
    | inr there ↦ (there.0, there.1, sym there.2)
  ]

  priced : (ts : List Trade) → AllByRecursion (λ x. (1 ≤ x.qty) × IsGridPrice t.grid x.price.0) ts → ArePriced t ts
  priced [] all = tt
  priced (x ∷ xs) all = ((all.0.1.0, all.0.1.1, sym all.0.1.2), priced xs all.1)

  fine-arrived : (n : ℕ) (o : Order) (s : State) → IsEntering t n o → Stands t n s → IsFine t (n + 1) s (arrived o s (arrival_at t o s))
  fine-arrived n o s enters stands =
      let a = arrival_at t o s in
      let traded = record s { orders = after_trades a.trades s.orders; last = a.last } in
      let stand = (laws.trades_stand t.grid (band_of t.ranges) s.orders o s.last (arriving n o s enters stands)).0 in
      record {
        stands = stands-rest t n o a.left traded enters (stands-after t n s a.trades a.last stands (last-price n o s enters stands));
        priced = subst (ArePriced t) (sym (trades-told a.trades)) (priced a.trades (recursion_from_All (λ x. (1 ≤ x.qty) × IsGridPrice t.grid x.price.0) a.trades stand));
        entries = refl;
      }

  good-quote_for : (n first : ℕ) (stop : Stop) (s : State) → (stop ≡ Done → is_calm t.grid s.orders ≡ true) → Stands t n s → IsGood t n s (quote_for t first stop s)
  good-quote_for n first Done s calm stands = record { fine = fine-stay t n s stands; calm = λ phase quote. calm refl }
  good-quote_for n first (Gap side) s calm stands = record { fine = fine-quote t n _ s stands; calm = λ phase quote. absurd (let shown = quote in cc) }
  good-quote_for n first (Sequence side) s calm stands = record { fine = fine-quote t n _ s stands; calm = λ phase quote. absurd (let shown = quote in cc) }

  good-arrive : (n : ℕ) (o : Order) (s : State) → IsEntering t n o → Stands t n s → is_calm t.grid s.orders ≡ true → IsGood t (n + 1) s (arrive t o s)
  good-arrive n o s enters stands calm =
      let a = arrival_at t o s in
      let m = arrived o s a in
      let first = fine-arrived n o s enters stands in
      let still = λ (done : a.stop ≡ Done). laws.done_stays_calm t.grid (band_of t.ranges) s.orders o s.last (arriving n o s enters stands) calm done in
      let next = good-quote_for (n + 1) s.last a.stop m.state still first.stands in
      record { fine = fine-then t (n + 1) s m (quote_for t s.last a.stop) first next.fine; calm = next.calm }

  good-join : (n : ℕ) (o : Order) (s : State) → IsEntering t n o → Stands t n s → trades_now s ≡ false → IsGood t (n + 1) s (join o s)
  good-join n o s enters stands e = record {
    fine = record { stands = stands-with t n o s enters stands; priced = tt; entries = refl };
    calm = λ phase quote. absurd (not-now s e phase quote);
  }

  pub good-enter : (n : ℕ) (o : Order) (s : State) → IsEntering t n o → Stands t n s → StaysCalm t s → IsGood t (n + 1) s (enter t o s)
  good-enter n o s enters stands calm = by (trades_now s) refl
    where
      by : (b : Bool) → trades_now s ≡ b → IsGood t (n + 1) s (cond b (arrive t o s) (join o s))
      by true e = good-arrive n o s enters stands (calm-now t s calm e)
      by false e = good-join n o s enters stands e

  -- an order enters, and a shown quote is tried
  pub good-entered : (n : ℕ) (o : Order) (s : State) → IsEntering t n o → Stands t n s → StaysCalm t s → IsGood t (n + 1) s (enter t o s then try_quote t)
  good-entered n o s enters stands calm =
      let first = good-enter n o s enters stands calm in
      good-then t (n + 1) s (enter t o s) (try_quote t) first (good-try laws.calm_afterwards t is.grid (n + 1) (enter t o s).state first.fine.stands first.calm)

-- ---- an order leaves, or is lowered

pairs-filter : (f : Order → Bool) (os : List Order) → Pairs (λ a b. a.place < b.place) os → Pairs (λ a b. a.place < b.place) (filter f os)
pairs-filter f [] pairs = tt
pairs-filter f (o ∷ os) pairs = step (f o) (pairs-filter f os pairs.1)
  where
    step : (b : Bool) → Pairs (λ a b. a.place < b.place) (filter f os) → Pairs (λ a b. a.place < b.place) (cond b (o ∷ filter f os) (filter f os))
    step true rest = (filtered (λ x. o.place < x.place) (λ x. o.place < x.place) f (λ x h e. h) os pairs.0, rest)
    step false rest = rest

calm-filter : (grid : List Price) (f : Order → Bool) (os : List Order) → is_calm grid os ≡ true → is_calm grid (filter f os) ≡ true
calm-filter grid f os calm =
    calm-from grid (filter f os)
    (filtered (λ o. is_some (limit_of grid o.spot) ≡ true) (λ o. is_some (limit_of grid o.spot) ≡ true) f (λ x h e. h) os (calm-limited grid os calm))
    (filtered (λ a. AllByRecursion (Apart grid a) os) (λ a. AllByRecursion (Apart grid a) (filter f os)) f (λ a h e. filtered (Apart grid a) (Apart grid a) f (λ x k d. k) os h) os (calm-apart grid os calm))

pub stands-out : (t : Terms) (n : ℕ) (caller : Caller) (own : ℕ) (s : State) → Stands t n s → Stands t n (take_out caller own s)
stands-out t n caller own s stands = record {
  by_place = pairs-filter (λ o. not (is_of caller own o)) s.orders stands.by_place;
  below = filtered (λ o. o.place < n) (λ o. o.place < n) (λ o. not (is_of caller own o)) (λ x h e. h) s.orders stands.below;
  some = filtered (λ o. 0 < o.left) (λ o. 0 < o.left) (λ o. not (is_of caller own o)) (λ x h e. h) s.orders stands.some;
  spots = filtered (λ o. IsSpotBelow (length t.grid) o.spot) (λ o. IsSpotBelow (length t.grid) o.spot) (λ o. not (is_of caller own o)) (λ x h e. h) s.orders stands.spots;
  last = stands.last;
}

pub calm-out : (t : Terms) (caller : Caller) (own : ℕ) (s : State) → StaysCalm t s → StaysCalm t (take_out caller own s)
calm-out t caller own s calm = λ phase quote. calm-filter t.grid (λ o. not (is_of caller own o)) s.orders (calm phase quote)

-- what holds of orders whatever they have left holds where some are lowered
mapped : (P Q : Order → Type 0) (f : Order → Order) → ((o : Order) → P o → Q (f o)) → (os : List Order) → AllByRecursion P os → AllByRecursion Q (map f os)
mapped P Q f h [] all = tt
mapped P Q f h (o ∷ os) all = (h o all.0, mapped P Q f h os all.1)

pairs-lower : (caller : Caller) (own qty : ℕ) (os : List Order) → Pairs (λ a b. a.place < b.place) os → Pairs (λ a b. a.place < b.place) (map (lowered caller own qty) os)
pairs-lower caller own qty [] pairs = tt
pairs-lower caller own qty (o ∷ os) pairs =
    (mapped (λ x. o.place < x.place) (λ x. o.place < x.place) (lowered caller own qty) (λ x h. h) os pairs.0, pairs-lower caller own qty os pairs.1)

lowered-some : (b : Bool) (m n : ℕ) → 0 < m → 0 < n → 0 < cond b m n
lowered-some true m n f g = f
lowered-some false m n f g = g

pub stands-lower : (t : Terms) (n : ℕ) (caller : Caller) (own qty : ℕ) (s : State) → 0 < qty → Stands t n s → Stands t n (lower caller own qty s)
stands-lower t n caller own qty s some stands = record {
  by_place = pairs-lower caller own qty s.orders stands.by_place;
  below = mapped (λ o. o.place < n) (λ o. o.place < n) (lowered caller own qty) (λ x h. h) s.orders stands.below;
  some = mapped (λ o. 0 < o.left) (λ o. 0 < o.left) (lowered caller own qty) (λ x h. lowered-some (is_of caller own x) qty x.left some h) s.orders stands.some;
  spots = mapped (λ o. IsSpotBelow (length t.grid) o.spot) (λ o. IsSpotBelow (length t.grid) o.spot) (lowered caller own qty) (λ x h. h) s.orders stands.spots;
  last = stands.last;
}

pub calm-lower : (t : Terms) (caller : Caller) (own qty : ℕ) (s : State) → StaysCalm t s → StaysCalm t (lower caller own qty s)
calm-lower t caller own qty s calm = λ phase quote.
    let f = lowered caller own qty in
    let was = calm phase quote in
    calm-from t.grid (map f s.orders)
    (mapped (λ o. is_some (limit_of t.grid o.spot) ≡ true) (λ o. is_some (limit_of t.grid o.spot) ≡ true) f (λ x h. h) s.orders (calm-limited t.grid s.orders was))
    (mapped (λ a. AllByRecursion (Apart t.grid a) s.orders) (λ a. AllByRecursion (Apart t.grid a) (map f s.orders)) f (λ a h. mapped (Apart t.grid a) (Apart t.grid (f a)) f (λ x k. k) s.orders h) s.orders (calm-apart t.grid s.orders was))

-- ---- entries

-- a reply is a refusal, or what follows where there is no reason
pub unless-move : (P : Move → Type 0) (r : Option Reason) (s : State) (x : Replied) → P (stay s) → (r ≡ None → P x.move) → P (unless r s x).move
unless-move P None s x out h = h refl
unless-move P (Some reason) s x out h = out

pub first-none : (r : Option Reason) (rs : List (Option Reason)) → first_reason (r ∷ rs) ≡ None → (r ≡ None) × (first_reason rs ≡ None)
first-none None rs e = (refl, e)
first-none (Some reason) rs e = absurd (cc)

-- a quantity that is not refused has shares
quantity-taken : (b : Bool) (r : Reason) → cond b None (Some r) ≡ None → b ≡ true
quantity-taken true r e = refl
quantity-taken false r e = absurd (cc)

pub taken-qty : (t : Terms) (qty : Qty) → bad_qty t qty ≡ None → is_quantity t qty.0 ≡ true
taken-qty t qty e = quantity-taken (is_quantity t qty.0) _ e

pub some-qty : (t : Terms) (qty : Qty) → bad_qty t qty ≡ None → 0 < qty.0
some-qty t qty e =
    let bounds = (and_parts (leb 1 qty.0 && leb qty.0 100000000) (eqb (qty.0 % t.unit) 0) (taken-qty t qty e)).0 in
    let one = leb-true 1 qty.0 (and_parts (leb 1 qty.0) (leb qty.0 100000000) bounds).0 in
    omega (arith, one)

-- the spot of a kind is on the grid
index-below : (grid : List Price) (p : ℕ) (found : Option ℕ) → ((i : ℕ) → found ≡ Some i → i < length grid) → IsSpotBelow (length grid) (unwrap_or (option_map (λ i. At i) found) Market)
index-below grid p None h = tt
index-below grid p (Some i) h = h i refl

position-below : (f : Price → Bool) (xs : List Price) (i : ℕ) → position f xs ≡ Some i → i < length xs
position-below f xs i e = (position-Some f xs i (record { 0 = 0 }) e).0

pub spot-below : (t : Terms) (kind : Kind) → IsSpotBelow (length t.grid) (unwrap_or (spot_of t kind) Market)
unfolding index_of
spot-below t kinds.Market = tt
spot-below t (kinds.Limit p) = index-below t.grid p.0 (index_of t.grid p.0) (λ i e. position-below (λ q. eqb q.0 p.0) t.grid i e)

module _ (laws : LowerLaws) (t : Terms) (is : AreTerms t) (e : Entry) (s : State) (here : e.place ≡ s.entries) (stands : Stands t s.entries s) (calm : StaysCalm t s) where
  abbrev n : ℕ
  n = s.entries

  good-refused : IsGood t (n + 1) s (stay s)
  good-refused = record { fine = fine-stay t (n + 1) s (stands-more t n s stands); calm = calm }

  pub good-order : (participant : Participant) (side : Side) (kind : Kind) (qty : Qty) → IsGood t (n + 1) s (take_order t e participant side kind qty s).move
  good-order participant side kind qty =
      let o = order_of e participant side (unwrap_or (spot_of t kind) Market) qty.0 in
      unless-move (IsGood t (n + 1) s) (first_reason (closed s ∷ bad_qty t qty ∷ bad_price t kind ∷ [])) s (accepted o (enter t o s then try_quote t)) good-refused (λ none.
      let first = first-none (closed s) (bad_qty t qty ∷ bad_price t kind ∷ []) none in
      let fits = first-none (bad_qty t qty) (bad_price t kind ∷ []) first.1 in
      good-entered laws t is n o s (record { place = here; some = some-qty t qty fits.0; spot = spot-below t kind }) stands calm)

  good-changed : (spot : Spot) (qty : ℕ) → IsSpotBelow (length t.grid) spot → 0 < qty → (o : Order) → IsGood t (n + 1) s (change_to t e spot qty o s).move
  good-changed spot qty below some o = by (is_same_spot spot o.spot && nat_lt qty o.left)
    where
      by : (b : Bool) → IsGood t (n + 1) s (cond b (changed o (stay (lower o.caller o.own qty s) then try_quote t))
          (changed (record o { place = e.place; spot = spot; left = qty }) (enter t (record o { place = e.place; spot = spot; left = qty }) (take_out o.caller o.own s) then try_quote t))).move
      by true =
          let low = lower o.caller o.own qty s in
          good-from t (n + 1) s low (stay low then try_quote t) refl
          (good-then t (n + 1) low (stay low) (try_quote t) (record { fine = fine-stay t (n + 1) low (stands-more t n low (stands-lower t n o.caller o.own qty s some stands)); calm = calm-lower t o.caller o.own qty s calm })
          (good-try laws.calm_afterwards t is.grid (n + 1) low (stands-more t n low (stands-lower t n o.caller o.own qty s some stands)) (calm-lower t o.caller o.own qty s calm)))
      by false =
          let out = take_out o.caller o.own s in
          let anew = record o { place = e.place; spot = spot; left = qty } in
          good-from t (n + 1) s out (enter t anew out then try_quote t) refl
          (good-entered laws t is n anew out (record { place = here; some = some; spot = below }) (stands-out t n o.caller o.own s stands) (calm-out t o.caller o.own s calm))

  good-named : (spot : Spot) (qty : ℕ) → IsSpotBelow (length t.grid) spot → 0 < qty → (found : Option Order) → IsGood t (n + 1) s (change_named t e spot qty found s).move
  good-named spot qty below some None = good-refused
  good-named spot qty below some (Some o) = good-changed spot qty below some o

  pub good-change : (participant : Participant) (target : ℕ) (kind : Kind) (qty : Qty) → IsGood t (n + 1) s (take_change t e participant target kind qty s).move
  good-change participant target kind qty =
      let found = named e.caller target s in
      let spot = unwrap_or (spot_of t kind) Market in
      unless-move (IsGood t (n + 1) s) (first_reason (closed s ∷ bad_qty t qty ∷ bad_price t kind ∷ unknown target found ∷ not_yours participant found ∷ [])) s (change_named t e spot qty.0 found s) good-refused (λ none.
      let first = first-none (closed s) (bad_qty t qty ∷ bad_price t kind ∷ unknown target found ∷ not_yours participant found ∷ []) none in
      let fits = first-none (bad_qty t qty) (bad_price t kind ∷ unknown target found ∷ not_yours participant found ∷ []) first.1 in
      good-named spot qty.0 (spot-below t kind) (some-qty t qty fits.0) found)

  good-cancelled : (found : Option Order) → IsGood t (n + 1) s (cancel_named t e found s).move
  good-cancelled None = good-refused
  good-cancelled (Some o) =
      let out = take_out o.caller o.own s in
      let still = stands-more t n out (stands-out t n o.caller o.own s stands) in
      good-from t (n + 1) s out (stay out then try_quote t) refl
      (good-then t (n + 1) out (stay out) (try_quote t) (record { fine = fine-stay t (n + 1) out still; calm = calm-out t o.caller o.own s calm })
      (good-try laws.calm_afterwards t is.grid (n + 1) out still (calm-out t o.caller o.own s calm)))

  pub good-cancel : (participant : Participant) (target : ℕ) → IsGood t (n + 1) s (take_cancel t e participant target s).move
  good-cancel participant target =
      let found = named e.caller target s in
      unless-move (IsGood t (n + 1) s) (first_reason (closed s ∷ unknown target found ∷ not_yours participant found ∷ [])) s (cancel_named t e found s) good-refused (λ none. good-cancelled found)
