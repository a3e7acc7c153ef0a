-- A side in its priority: what a filter or a map of the book's orders does to it.
use Rattle.std.proofs.Common.{◌≡◌, ℕ, Bool, true, false, cond, ltb, List, [], ◌∷◌, ◌++◌, map, filter, refl, sym, ap, ◌∙◌}
use Rattle.std.specs.List.{flat_map}
use Rattle.std.proofs.lemmas.List.{map-append}
use Rattle.std.proofs.lemmas.List.Elements.{filter-append}
use Rattle.mkt_base.specs.Fills.{after_trades, less_traded}
use Rattle.mkt_base.specs.Priority.{in_priority, is_on_level, level_of, spots}
use Rattle.mkt_base.specs.declared.auction.Trade.{Trade}
use Rattle.mkt_base.specs.declared.order.Side.{Side}
use Rattle.mkt_base.specs.declared.order.Spot.{Spot}
use Rattle.mkt_base.specs.declared.order.Order.{Order}
use Rattle.book_law.specs.BookView.{less_taken, taken}

-- two filters may change places
module _ {X : Type 0} (p q : X → Bool) where
  both-step : (a b : Bool) (x : X) (xs : List X) → p x ≡ a → q x ≡ b → filter p (filter q xs) ≡ filter q (filter p xs)
      → filter p (cond b (x ∷ filter q xs) (filter q xs)) ≡ filter q (cond a (x ∷ filter p xs) (filter p xs))
  both-step true true x xs e f rest = rw (e, f) (ap (λ ys. x ∷ ys) rest)
  both-step true false x xs e f rest = rw f rest
  both-step false true x xs e f rest = rw e rest
  both-step false false x xs e f rest = rest

  pub filter-both : (xs : List X) → filter p (filter q xs) ≡ filter q (filter p xs)
  filter-both [] = refl
  filter-both (x ∷ xs) = both-step (p x) (q x) x xs refl refl (filter-both xs)

-- a filter behind a map that does not change what the test says
module _ {X : Type 0} (p : X → Bool) (f : X → X) (same : (x : X) → p (f x) ≡ p x) where
  map-step : (b : Bool) (x : X) (xs : List X) → p x ≡ b → filter p (map f xs) ≡ map f (filter p xs)
      → cond (p (f x)) (f x ∷ filter p (map f xs)) (filter p (map f xs)) ≡ map f (cond b (x ∷ filter p xs) (filter p xs))
  map-step true x xs e rest = rw (same x, e) (ap (λ ys. f x ∷ ys) rest)
  map-step false x xs e rest = rw (same x, e) rest

  pub filter-map : (xs : List X) → filter p (map f xs) ≡ map f (filter p xs)
  filter-map [] = refl
  filter-map (x ∷ xs) = map-step (p x) x xs refl (filter-map xs)

-- what holds of each level holds of all levels: a filter of the orders, and a map that moves none
module _ (side : Side) (os : List Order) where
  levels : List Spot → List Order
  levels ss = flat_map (λ spot. level_of side spot os) ss

  levels-filter : (keeps : Order → Bool) (ss : List Spot) → flat_map (λ spot. level_of side spot (filter keeps os)) ss ≡ filter keeps (levels ss)
  unfolding levels
  levels-filter keeps [] = refl
  levels-filter keeps (s ∷ ss) =
      ap (λ xs. xs ++ flat_map (λ spot. level_of side spot (filter keeps os)) ss) (filter-both (is_on_level side s) keeps os)
      ∙ ap (λ xs. filter keeps (level_of side s os) ++ xs) (levels-filter keeps ss)
      ∙ sym (filter-append keeps (level_of side s os) (levels ss))

  levels-map : (f : Order → Order) → ((spot : Spot) (o : Order) → is_on_level side spot (f o) ≡ is_on_level side spot o) → (ss : List Spot)
      → flat_map (λ spot. level_of side spot (map f os)) ss ≡ map f (levels ss)
  unfolding levels
  levels-map f stays [] = refl
  levels-map f stays (s ∷ ss) =
      ap (λ xs. xs ++ flat_map (λ spot. level_of side spot (map f os)) ss) (filter-map (is_on_level side s) f (stays s) os)
      ∙ ap (λ xs. map f (level_of side s os) ++ xs) (levels-map f stays ss)
      ∙ sym (map-append f (level_of side s os) (levels ss))

-- a filter of the orders filters the side
pub in_priority-filter : (n : ℕ) (side : Side) (keeps : Order → Bool) (os : List Order) → in_priority n side (filter keeps os) ≡ filter keeps (in_priority n side os)
unfolding in_priority levels
in_priority-filter n side keeps os = levels-filter side os keeps (spots n side)

-- and so does a map that leaves each order on its level
pub in_priority-map : (n : ℕ) (side : Side) (f : Order → Order) → ((spot : Spot) (o : Order) → is_on_level side spot (f o) ≡ is_on_level side spot o) → (os : List Order)
    → in_priority n side (map f os) ≡ map f (in_priority n side os)
unfolding in_priority levels
in_priority-map n side f stays os = levels-map side os f stays (spots n side)

-- trades leave a side in its priority
pub in_priority-after : (n : ℕ) (side : Side) (trades : List Trade) (os : List Order) → in_priority n side (after_trades trades os) ≡ after_trades trades (in_priority n side os)
unfolding after_trades
in_priority-after n side trades os =
    in_priority-filter n side (λ o. ltb 0 o.left) (map (less_traded trades) os)
    ∙ ap (filter (λ o. ltb 0 o.left)) (in_priority-map n side (less_traded trades) (λ spot o. refl) os)

-- and so do shares that are taken from one order
pub in_priority-taken : (n : ℕ) (side : Side) (place by : ℕ) (os : List Order) → in_priority n side (taken place by os) ≡ taken place by (in_priority n side os)
unfolding taken
in_priority-taken n side place by os =
    in_priority-filter n side (λ o. ltb 0 o.left) (map (less_taken place by) os)
    ∙ ap (filter (λ o. ltb 0 o.left)) (in_priority-map n side (less_taken place by) (λ spot o. refl) os)

-- a side of a book without orders has none
pub in_priority-none : (n : ℕ) (side : Side) → in_priority n side [] ≡ []
unfolding in_priority
in_priority-none n side = none (spots n side)
  where
    none : (ss : List Spot) → flat_map (λ spot. level_of side spot []) ss ≡ []
    none [] = refl
    none (s ∷ ss) = none ss
