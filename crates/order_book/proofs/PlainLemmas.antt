-- A list of orders by place, and the book that it stands for.
use Rattle.std.proofs.Common.{◌≡◌, ℕ, ◌-◌, ◌<◌, ◌≤◌, Bool, true, false, cond, not, zero, suc, eqb, List, [], ◌∷◌, length, map, filter, get_or, set, Option, Some, refl, sym, ◌∙◌, ap, subst, arith}
use Rattle.std.specs.List.{All, AllPairs, HoldsAt, find, position_or_len, remove, slice_get}
use Rattle.std.specs.Option.{IsSome, option_map}
use Rattle.std.proofs.lemmas.Bool.{eqb-true, false≢true}
use Rattle.std.proofs.lemmas.List.Folds.{find_at}
use Rattle.std.proofs.lemmas.List.Sums.{passes_at_first}
use Rattle.std.proofs.lemmas.Bool.Decides.{nat_tests}
use Rattle.std.proofs.lemmas.List.{get_or-map, length-map}
use Rattle.mkt_base.specs.declared.order.Order.{Order}
use Rattle.book_law.specs.BookView.{IsBookView, IsLive, IsSpotBelow, is_at, less, less_at, slot_of}
use Rattle.order_book.specs.Plain.{by_place, plain}

-- the places rise
abbrev pub IsRising : List Order → Type 0
IsRising os = AllPairs (λ a b. a.place < b.place) os

-- a search behind a map
option-cond : {X Y : Type 0} (f : X → Y) (b : Bool) (x : X) (o : Option X) → cond b (Some (f x)) (option_map f o) ≡ option_map f (cond b (Some x) o)
option-cond f true x o = refl
option-cond f false x o = refl

-- what is found behind a map is what is found before it, mapped
pub find-map : {X Y : Type 0} (f : X → Y) (p : Y → Bool) (xs : List X) → find p (map f xs) ≡ option_map f (find (λ x. p (f x)) xs)
find-map f p [] = refl
find-map f p (x ∷ xs) = ap (λ o. cond (p (f x)) (Some (f x)) o) (find-map f p xs) ∙ option-cond f (p (f x)) x (find (λ y. p (f y)) xs)

-- what holds behind a map holds before it
pub All-unmap : {X Y : Type 0} (P : Y → Type 0) (f : X → Y) (xs : List X) → All P (map f xs) → All (λ x. P (f x)) xs
All-unmap P f xs all k d h = subst P (get_or-map f xs k d (f d) h) (all k (f d) (omega (arith, length-map xs f, h)))

-- the orders of the book are the list
pub orders-are : (os : List Order) → map (λ s. s.order) (by_place os) ≡ os
orders-are [] = refl
orders-are (o ∷ os) = ap (λ xs. o ∷ xs) (orders-are os)

-- later orders have later places
rising-behind : (o : Order) (os : List Order) → IsRising (o ∷ os) → All (λ x. o.place < x.place) os
rising-behind o os rising k d h = rising 0 (suc k) d (omega arith) (omega arith)

-- the rest of a list whose places rise
rising-rest : (o : Order) (os : List Order) → IsRising (o ∷ os) → IsRising os
rising-rest o os rising i j d h k = rising (suc i) (suc j) d (omega arith) (omega arith)

-- no handle of later orders is that of an earlier one
kept-all : (h : ℕ) (os : List Order) → All (λ x. h < x.place) os → filter (λ s. not (is_at h s)) (by_place os) ≡ by_place os
kept-all h [] later = refl
kept-all h (o ∷ os) later =
    let first = later 0 o (omega arith) in
    let other : eqb h o.place ≡ false = grind (arith, nat_tests, first) in
    rw other (ap (λ xs. slot_of o.place o ∷ xs) (kept-all h os (λ k d l. later (suc k) d (omega arith))))

-- no shares less is the same order
less-none : (o : Order) → less 0 o ≡ o
less-none o = let same : o.left - 0 ≡ o.left = omega arith in ap (λ n. record o { left = n }) same

-- so none of them has fewer shares
unreduced-all : (h by : ℕ) (os : List Order) → All (λ x. h < x.place) os → map (less_at h by) (by_place os) ≡ by_place os
unreduced-all h by [] later = refl
unreduced-all h by (o ∷ os) later =
    let first = later 0 o (omega arith) in
    let other : eqb h o.place ≡ false = grind (arith, nat_tests, first) in
    rw (other, less-none o) (ap (λ xs. slot_of o.place o ∷ xs) (unreduced-all h by os (λ k d l. later (suc k) d (omega arith))))

-- the order at an index, under its place: found, taken out, and with fewer shares
module _ (h : ℕ) where
  -- it is the one that its place finds
  pub found-at : (os : List Order) (i : ℕ) (x : Order) → IsRising os → i < length os → x ≡ get_or os i x → x.place ≡ h → find (is_at h) (by_place os) ≡ Some (slot_of h x)
  found-at [] i x rising within is at = absurd (omega (arith, within))
  found-at (o ∷ os) zero x rising within is at =
      let here : eqb h o.place ≡ true = let e = ap (λ y. y.place) is in grind (arith, nat_tests, e, at) in
      let place : o.place ≡ h = let e = ap (λ y. y.place) is in omega (arith, e, at) in
      rw here (ap (λ n. Some (slot_of n o)) place ∙ ap (λ y. Some (slot_of h y)) (sym is))
  found-at (o ∷ os) (suc i) x rising within is at =
      let later = rising-behind o os rising i x (omega (arith, within)) in
      let other : eqb h o.place ≡ false = let e = ap (λ y. y.place) is in grind (arith, nat_tests, e, at, later) in
      rw other (found-at os i x (rising-rest o os rising) (omega (arith, within)) is at)

  -- without it the list is that of the other slots
  pub removed-at : (os : List Order) (i : ℕ) → IsRising os → i < length os → HoldsAt (λ o. o.place ≡ h) os i → by_place (remove os i) ≡ filter (λ s. not (is_at h s)) (by_place os)
  removed-at [] i rising within at = absurd (omega (arith, within))
  removed-at (o ∷ os) zero rising within at =
      let place : o.place ≡ h = at o in
      let here : eqb h o.place ≡ true = grind (arith, nat_tests, place) in
      rw here (sym (kept-all h os (λ k d l. let later = rising-behind o os rising k d l in omega (arith, later, place))))
  removed-at (o ∷ os) (suc i) rising within at =
      let later = rising-behind o os rising i o (omega (arith, within)) in
      let place = at o in
      let other : eqb h o.place ≡ false = grind (arith, nat_tests, place, later) in
      rw other (ap (λ xs. slot_of o.place o ∷ xs) (removed-at os i (rising-rest o os rising) (omega (arith, within)) at))

  -- with fewer shares there the list is that of the slots with fewer under its place
  pub reduced-at : (by : ℕ) (os : List Order) (i : ℕ) (x : Order) → IsRising os → i < length os → x ≡ get_or os i x → x.place ≡ h → by_place (set os i (less by x)) ≡ map (less_at h by) (by_place os)
  reduced-at by [] i x rising within is at = absurd (omega (arith, within))
  reduced-at by (o ∷ os) zero x rising within is at =
      let place : o.place ≡ h = let e = ap (λ y. y.place) is in omega (arith, e, at) in
      let here : eqb h o.place ≡ true = grind (arith, nat_tests, place) in
      let same : x ≡ o = is in
      let rest = unreduced-all h by os (λ k d l. let later = rising-behind o os rising k d l in omega (arith, later, place)) in
      rw (here, same) (ap (λ xs. slot_of o.place (less by o) ∷ xs) (sym rest))
  reduced-at by (o ∷ os) (suc i) x rising within is at =
      let later = rising-behind o os rising i x (omega (arith, within)) in
      let other : eqb h o.place ≡ false = let e = ap (λ y. y.place) is in grind (arith, nat_tests, e, at, later) in
      rw (other, less-none o) (ap (λ xs. slot_of o.place o ∷ xs) (reduced-at by os i x (rising-rest o os rising) (omega (arith, within)) is at))

-- what stands at an index shows that the list reaches it
some-within : {X : Type 0} (xs : List X) (k : ℕ) → IsSome (slice_get xs k) → k < length xs
some-within [] k e = absurd (false≢true e)
some-within (x ∷ xs) zero e = omega arith
some-within (x ∷ xs) (suc k) e = let h = some-within xs k e in omega (arith, h)

-- a live handle is the place of an order
pub live-at : (n c h : ℕ) (os : List Order) → IsLive (plain n c os) h → (k : ℕ) × (k < length os) × HoldsAt (λ o. o.place ≡ h) os k
live-at n c h os live =
    let k = position_or_len (is_at h) (by_place os) in
    let within : k < length (by_place os) = some-within (by_place os) k (subst IsSome (find_at (is_at h) (by_place os)) live) in
    let inside : k < length os = omega (arith, within, length-map os (λ (o : Order). slot_of o.place o)) in (
      k,
      inside,
      λ d.
          let e : get_or (by_place os) k (slot_of d.place d) ≡ slot_of (get_or os k d).place (get_or os k d) = get_or-map (λ (o : Order). slot_of o.place o) os k d (slot_of d.place d) inside in
          sym (ap (λ s. s.handle) e) ∙ sym (eqb-true h _ (passes_at_first (is_at h) (by_place os) (slot_of d.place d) within)),
    )

-- what holds of the book holds of the list
module _ (n c : ℕ) (os : List Order) (stands : IsBookView (plain n c os)) where
  -- its places rise
  pub rising : IsRising os
  rising i j d h k =
      let first = get_or-map (λ (o : Order). slot_of o.place o) os i d (slot_of d.place d) (omega arith) in
      let second = get_or-map (λ (o : Order). slot_of o.place o) os j d (slot_of d.place d) k in
      let less = stands.by_place i j (slot_of d.place d) h (omega (arith, length-map os (λ (o : Order). slot_of o.place o), k)) in
      omega (arith, less, ap (λ s. s.order.place) first, ap (λ s. s.order.place) second)

  -- each order has at most the limit
  pub within-limit : All (λ o. o.left ≤ 100000000) os
  within-limit = All-unmap (λ s. s.order.left ≤ 100000000) (λ (o : Order). slot_of o.place o) os stands.limit

  -- each order stands on the grid
  pub on-grid : All (λ o. IsSpotBelow n o.spot) os
  on-grid = All-unmap (λ s. IsSpotBelow n s.order.spot) (λ (o : Order). slot_of o.place o) os stands.spots
