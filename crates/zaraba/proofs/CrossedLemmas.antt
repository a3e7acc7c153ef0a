-- The resting orders that an order crosses: the first of the other side and those behind it, as far as it crosses them.
use Rattle.std.proofs.Common.{◌≡◌, ℕ, ◌-◌, ◌<◌, min, Bool, true, false, cond, eqb, ltb, List, [], ◌∷◌, length, filter, refl, sym, ap, subst, ◌∙◌, arith}
use Rattle.std.specs.List.{AllByRecursion, AllPairs}
use Rattle.std.specs.Option.{is_some, option_map_or}
use Rattle.std.proofs.lemmas.Bool.Decides.{nat_tests}
use Rattle.mkt_base.specs.Book.{IsRising, is_better, is_buy, is_market_or, limit_of}
use Rattle.mkt_base.specs.Fills.{after_trades}
use Rattle.mkt_base.specs.Priority.{in_priority}
use Rattle.mkt_base.specs.declared.auction.Trade.{Trade}
use Rattle.mkt_base.specs.declared.order.Order.{Order}
use Rattle.mkt_base.specs.declared.order.Side.{Side}
use Rattle.mkt_base.specs.declared.order.Side.TheVariants.{Buy, Sell}
use Rattle.mkt_base.specs.declared.order.Spot.{Spot}
use Rattle.mkt_base.specs.declared.order.Spot.TheVariants.{Market, At}
use Rattle.mkt_base.specs.declared.units.Price.{Price}
use Rattle.book_law.specs.BookView.{less, taken}
use Rattle.book_law.specs.Paired.{trade_of}
use Rattle.book_law.specs.Sides.{has_place}
use Rattle.book_law.proofs.AheadLemmas.{Ahead, never-better, side-ahead}
use Rattle.book_law.proofs.FrontLemmas.{in_priority-all}
use Rattle.book_law.proofs.Pairs.{Pairs, with-first}
use Rattle.book_law.proofs.Sides.{in_priority-taken}
use Rattle.book_law.proofs.TakenLemmas.{first-taken, taken-bought, taken-sold}
use Rattle.book_law.proofs.TimeLemmas.{none-behind}
use Rattle.zaraba.specs.Arrival.{arrival_over, crossed, crosses, crosses_at, limit_price, opposite, trade_with}
use Rattle.zaraba.specs.Walk.{is_too_far, with_left, with_trades}
use Rattle.zaraba.proofs.WalkLemmas.{walk-done, walk-more}

-- Whoever stands before one that is crossed is crossed, where all have a limit.
module _ (grid : List Price) (o : Order) where
  abbrev pub Before : Order → Order → Type 0
  Before a b = (is_some (limit_of grid a.spot) ≡ true) × Ahead grid (opposite o.side) a b

  -- an order with this side and spot crosses the limit of a spot
  abbrev crosses_spot : Side → Spot → Spot → Bool
  crosses_spot side own t = option_map_or (λ price. is_market_or (crosses_at side price) (limit_of grid own)) (limit_of grid t) false

  limit-crossed : (side : Side) (own s t : Spot) → is_some (limit_of grid s) ≡ true → is_better grid (opposite side) t s ≡ false → crosses_spot side own t ≡ true → crosses_spot side own s ≡ true
  limit-crossed side own Market t some e passes = absurd (cc)
  limit-crossed side own (At i) Market some e passes = absurd (cc)
  limit-crossed side Market (At i) (At j) some e passes = refl
  limit-crossed Buy (At k) (At i) (At j) some e passes = grind (arith, nat_tests, e, passes)
  limit-crossed Sell (At k) (At i) (At j) some e passes = grind (arith, nat_tests, e, passes)

  crossed-before : (a b : Order) → Before a b → crosses grid o b ≡ true → crosses grid o a ≡ true
  crossed-before a b before passes = limit-crossed o.side o.spot a.spot b.spot before.0 (never-better grid (opposite o.side) a b before.1) passes

  module _ (os : List Order) (rising : IsRising grid) (places : AllPairs (λ a b. a.place < b.place) os) (limits : AllByRecursion (λ x. is_some (limit_of grid x.spot) ≡ true) os) where
    abbrev pub against : List Order
    against = in_priority (length grid) (opposite o.side) os

    against-ranked : Pairs Before against
    against-ranked =
        with-first (λ a. is_some (limit_of grid a.spot) ≡ true) (Ahead grid (opposite o.side)) (in_priority (length grid) (opposite o.side) os)
        (in_priority-all (λ a. is_some (limit_of grid a.spot) ≡ true) (opposite o.side) os limits (length grid)) (side-ahead grid (opposite o.side) os rising places)

    -- with none on the other side, none is crossed
    pub crossed-none : against ≡ [] → crossed grid o os ≡ []
    crossed-none e = ap (filter (crosses grid o)) e

    module _ (x : Order) (rest : List Order) (here : against ≡ x ∷ rest) where
      -- where the first is not crossed, none is
      pub crossed-past : crosses grid o x ≡ false → crossed grid o os ≡ []
      crossed-past fails =
          let ranked : Pairs Before (x ∷ rest) = subst (Pairs Before) here against-ranked in
          ap (filter (crosses grid o)) here ∙ ap (λ b. cond b (x ∷ filter (crosses grid o) rest) (filter (crosses grid o) rest)) fails
          ∙ none-behind Before (crosses grid o) crossed-before x rest ranked.0 fails

      -- where it is, it is the first of the crossed
      pub crossed-first : crosses grid o x ≡ true → crossed grid o os ≡ x ∷ filter (crosses grid o) rest
      crossed-first passes = ap (filter (crosses grid o)) here ∙ ap (λ b. cond b (x ∷ filter (crosses grid o) rest) (filter (crosses grid o) rest)) passes

      module _ (once : filter (has_place x.place) rest ≡ []) (some : AllByRecursion (λ y. 0 < y.left) rest) (passes : crosses grid o x ≡ true) where
        kept-first : (b : Bool) (q : ℕ)
            → filter (crosses grid o) (cond b (less q x ∷ rest) rest) ≡ cond b (less q x ∷ filter (crosses grid o) rest) (filter (crosses grid o) rest)
        kept-first true q = ap (λ b. cond b (less q x ∷ filter (crosses grid o) rest) (filter (crosses grid o) rest)) passes
        kept-first false q = refl

        -- after shares were taken from it, it has less or is gone
        pub crossed-taken : (q : ℕ) → crossed grid o (taken x.place q os) ≡ cond (ltb 0 (x.left - q)) (less q x ∷ filter (crosses grid o) rest) (filter (crosses grid o) rest)
        crossed-taken q =
            ap (filter (crosses grid o)) (in_priority-taken (length grid) (opposite o.side) x.place q os ∙ ap (taken x.place q) here ∙ first-taken x rest q once some)
            ∙ kept-first (ltb 0 (x.left - q)) q

        -- then what the order does is a trade with it, and what the rest of the order does against the rest of the book
        module _ (range : ℕ → ℕ) (first last left : ℕ) (wanted : 0 < left) (has : 0 < x.left) (near : is_too_far grid range first last x ≡ false) where
          goes-on : (b : Bool) (xs : List Order) (p : ℕ) → ltb 0 (x.left - min left x.left) ≡ b
              → arrival_over grid range first xs (with_left o (left - min left x.left)) p
              ≡ arrival_over grid range first (cond b (less (min left x.left) x ∷ xs) xs) (with_left o (left - min left x.left)) p
          goes-on true xs p e =
              let none : left - min left x.left ≡ 0 = grind (arith, nat_tests, e) in
              walk-done grid range first xs (with_left o (left - min left x.left)) p none
              ∙ sym (walk-done grid range first (less (min left x.left) x ∷ xs) (with_left o (left - min left x.left)) p none)
          goes-on false xs p e = refl

          pub meets-first : arrival_over grid range first (crossed grid o os) (with_left o left) last
              ≡ with_trades (trade_with grid o x (min left x.left) ∷ [])
              (arrival_over grid range first (crossed grid o (taken x.place (min left x.left) os)) (with_left o (left - min left x.left)) (limit_price grid x))
          meets-first =
              let xs = filter (crosses grid o) rest in
              let q = min left x.left in
              let t = trade_with grid o x q in
              ap (λ ys. arrival_over grid range first ys (with_left o left) last) (crossed-first passes)
              ∙ walk-more grid range first x xs (with_left o left) last wanted has near
              ∙ ap (with_trades (t ∷ [])) (goes-on (ltb 0 (x.left - q)) xs (limit_price grid x) refl)
              ∙ ap (λ ys. with_trades (t ∷ []) (arrival_over grid range first ys (with_left o (left - q)) (limit_price grid x))) (sym (crossed-taken q))

-- what a trade with a resting order takes from the book of which the order is no part
pub taken-traded_with : (grid : List Price) (o x : Order) (q : ℕ) (os : List Order) → AllByRecursion (λ y. eqb o.place y.place ≡ false) os → taken x.place q os ≡ after_trades (trade_with grid o x q ∷ []) os
taken-traded_with grid o x q os away = by (is_buy o.side)
  where
    by : (b : Bool)
        → taken x.place q os
        ≡ after_trades (cond {A = Trade} b (trade_of (limit_price grid x) q o.place x.place) (trade_of (limit_price grid x) q x.place o.place) ∷ []) os
    by true = taken-sold (limit_price grid x) q o.place x.place os away
    by false = taken-bought (limit_price grid x) q o.place x.place os away
