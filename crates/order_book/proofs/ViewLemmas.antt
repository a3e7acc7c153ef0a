-- What holds of every book still holds after a call: over the view alone, so whatever the body is.
use Rattle.std.proofs.Common.{◌≡◌, ◌≢◌, ℕ, ◌-◌, ◌^◌, ◌<◌, ◌≤◌, Bool, true, false, cond, not, List, [], ◌∷◌, ◌++◌, length, map, get_or, Some, refl, sym, ◌∙◌, ap, subst, inl, inr, arith, length-append}
use Rattle.std.specs.List.{All, AllPairs, slice_get, position_or_len}
use Rattle.std.proofs.lemmas.Bool.{cases_lt, eqb-true, false≢true}
use Rattle.std.proofs.lemmas.Bool.Decides.{nat_tests}
use Rattle.std.proofs.lemmas.List.{get_or-map, length-map}
use Rattle.std.proofs.lemmas.List.Elements.{All-filter, All-map, All-push}
use Rattle.std.proofs.lemmas.List.Kept.{AllPairs-filter}
use Rattle.std.proofs.lemmas.List.Quantifiers.{all_pairs_push}
use Rattle.std.proofs.lemmas.List.Sums.{count_by-le-length, fails_before_first, length-filter, passes_at_first, sum_by-le}
use Rattle.std.proofs.lemmas.List.Folds.{find_at}
use Rattle.std.proofs.lemmas.Option.{slice_get-get_or}
use Rattle.mkt_base.specs.Book.{FitsSums, is_buy, total_left}
use Rattle.mkt_base.specs.declared.order.Order.{Order}
use Rattle.book_law.specs.BookView.{BookView, IsBookView, IsFresh, IsSpotBelow, Names, Slot, is_at, is_of, less, less_at, orders, reduced, slot_of, without}

-- an order more, at the end
pub inserted-stands : (b : BookView) (o : Order) (handle : ℕ) → IsBookView b → IsFresh b o → All (λ s. s.handle ≢ handle) b.slots
    → IsBookView (record b { slots = b.slots ++ slot_of handle o ∷ [] })
inserted-stands b o handle stands fresh other =
    let slot = slot_of handle o in
    record {
      few = omega (arith, length-append b.slots (slot ∷ []), fresh.room);
      bound = stands.bound;
      some_price = stands.some_price;
      few_prices = stands.few_prices;
      by_place = all_pairs_push (λ s t. s.order.place < t.order.place) b.slots slot stands.by_place fresh.last;
      handles = all_pairs_push (λ s t. s.handle ≢ t.handle) b.slots slot stands.handles other;
      pairs = all_pairs_push (λ s t. is_of s.order.caller s.order.own t.order ≡ false) b.slots slot stands.pairs (λ k d h. let e = fresh.pair k d h in grind (arith, nat_tests, e));
      some = All-push (λ s. 1 ≤ s.order.left) b.slots slot stands.some fresh.some;
      limit = All-push (λ s. s.order.left ≤ 100000000) b.slots slot stands.limit fresh.limit;
      spots = All-push (λ s. IsSpotBelow b.prices s.order.spot) b.slots slot stands.spots fresh.spot;
    }

-- the order that a handle names is gone
pub without-stands : (b : BookView) (handle : ℕ) → IsBookView b → IsBookView (without handle b)
without-stands b handle stands =
    let kept : Slot → Bool = λ s. not (is_at handle s) in
    record {
      few = omega (arith, length-filter kept b.slots, count_by-le-length kept b.slots, stands.few);
      bound = stands.bound;
      some_price = stands.some_price;
      few_prices = stands.few_prices;
      by_place = AllPairs-filter (λ s t. s.order.place < t.order.place) kept b.slots stands.by_place;
      handles = AllPairs-filter (λ s t. s.handle ≢ t.handle) kept b.slots stands.handles;
      pairs = AllPairs-filter (λ s t. is_of s.order.caller s.order.own t.order ≡ false) kept b.slots stands.pairs;
      some = All-filter kept (λ s. 1 ≤ s.order.left) b.slots stands.some;
      limit = All-filter kept (λ s. s.order.left ≤ 100000000) b.slots stands.limit;
      spots = All-filter kept (λ s. IsSpotBelow b.prices s.order.spot) b.slots stands.spots;
    }

-- pairs behind a map
AllPairs-map : {X : Type 0} (R : X → X → Type 0) (f : X → X) (xs : List X) → AllPairs (λ x y. R (f x) (f y)) xs → AllPairs R (map f xs)
AllPairs-map R f xs all i j d h k =
    let within : j < length xs = omega (arith, length-map xs f, k) in
    let first = get_or-map f xs i d d (omega arith) in
    let second = get_or-map f xs j d d within in
    subst (λ x. R x (get_or (map f xs) j d)) (sym first) (subst (λ y. R (f (get_or xs i d)) y) (sym second) (all i j d h within))

-- a slot with this handle is the one that the handle names
pub named-at : (b : BookView) (handle k : ℕ) (d : Slot) → IsBookView b → k < length b.slots → is_at handle (get_or b.slots k d) ≡ true → Names b handle (get_or b.slots k d).order
named-at b handle k d stands within at =
    let s = get_or b.slots k d in
    let j = position_or_len (is_at handle) b.slots in
    let same : s.handle ≡ handle = sym (eqb-true handle s.handle at) in
    let there : j ≡ k =
    elim (cases_lt k j) [
      | inl less ↦ absurd (false≢true (sym (fails_before_first (is_at handle) b.slots k d less) ∙ at))
      | inr more ↦
          elim (cases_lt j k) [
            | inl less ↦
                let first = eqb-true handle (get_or b.slots j d).handle (passes_at_first (is_at handle) b.slots d (omega (arith, less, within))) in
                absurd (stands.handles j k d less within (sym first ∙ sym same))
            | inr equal ↦ omega arith
          ]
    ] in
    find_at (is_at handle) b.slots ∙ ap (slice_get b.slots) there ∙ slice_get-get_or b.slots k d within ∙ ap (λ h. Some (slot_of h s.order)) same

-- fewer shares than an order has leave it some
part-within : (b : Bool) (left by : ℕ) → 1 ≤ left → (b ≡ true → by < left) → 1 ≤ left - cond b by 0
part-within true left by some less = let h = less refl in omega (arith, h)
part-within false left by some less = omega arith

-- the order that a handle names has fewer shares left
pub reduced-stands : (b : BookView) (handle by : ℕ) → IsBookView b → ((o : Order) → Names b handle o → by < o.left) → IsBookView (reduced handle by b)
reduced-stands b handle by stands less =
    let f = less_at handle by in
    record {
      few = omega (arith, length-map b.slots f, stands.few);
      bound = stands.bound;
      some_price = stands.some_price;
      few_prices = stands.few_prices;
      by_place = AllPairs-map (λ s t. s.order.place < t.order.place) f b.slots stands.by_place;
      handles = AllPairs-map (λ s t. s.handle ≢ t.handle) f b.slots stands.handles;
      pairs = AllPairs-map (λ s t. is_of s.order.caller s.order.own t.order ≡ false) f b.slots stands.pairs;
      some = All-map (λ s. 1 ≤ s.order.left) f b.slots
          (λ k d h. part-within (is_at handle (get_or b.slots k d)) (get_or b.slots k d).order.left by (stands.some k d h) (λ at. less (get_or b.slots k d).order (named-at b handle k d stands h at)));
      limit = All-map (λ s. s.order.left ≤ 100000000) f b.slots (λ k d h. let old = stands.limit k d h in omega (arith, old));
      spots = All-map (λ s. IsSpotBelow b.prices s.order.spot) f b.slots stands.spots;
    }

-- what counts of an order is at most what it has
part-le : (b : Bool) (left most : ℕ) → left ≤ most → cond b left 0 ≤ most
part-le true left most h = h
part-le false left most h = omega arith

-- a sum over a book fits 64 bits
sum-fits : (passes : Order → Bool) (b : BookView) → IsBookView b → total_left passes (orders b) < 2 ^ 64
unfolding total_left
sum-fits passes b stands =
    let f : Order → ℕ = λ o. cond (passes o) o.left 0 in
    let each : All (λ o. f o ≤ 100000000) (orders b) =
    All-map (λ o. f o ≤ 100000000) (λ s. s.order) b.slots (λ k d h. part-le (passes (get_or b.slots k d).order) (get_or b.slots k d).order.left 100000000 (stands.limit k d h)) in
    let sum = sum_by-le f 100000000 (orders b) each in
    let size = length-map b.slots (λ (s : Slot). s.order) in
    omega (arith, sum, size, stands.few, stands.bound)

-- no sum over the orders of a book is above 64 bits
pub sums-fit : (b : BookView) → IsBookView b → FitsSums (orders b)
sums-fit b stands = record { bought = sum-fits (λ o. is_buy o.side) b stands; sold = sum-fits (λ o. not (is_buy o.side)) b stands }
