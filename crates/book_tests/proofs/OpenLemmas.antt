-- What the calls of the tests leave of an open book.
use Rattle.std.proofs.Common.{◌≡◌, ℕ, ◌+◌, ◌<◌, ◌≤◌, ◌&&◌, Bool, true, false, cond, eqb, ltb, not, List, [], ◌∷◌, length, map, get_or, Option, Some, None, refl, sym, ◌∙◌, subst, arith}
use Rattle.std.specs.List.{All, find}
use Rattle.std.specs.Option.{IfSome, IsSome, option_map}
use Rattle.std.proofs.lemmas.Bool.{eq-eqb, ne_eqb}
use Rattle.std.proofs.lemmas.List.{get_or-map, length-map, length_push}
use Rattle.std.proofs.lemmas.List.Elements.{All-filter, All-map, All-push, All-weaker}
use Rattle.std.proofs.lemmas.List.Sums.{count_by-le-length, length-filter}
use Rattle.mkt_base.specs.declared.order.Order.{Order}
use Rattle.book_law.specs.BookView.{BookView, IsFresh, IsInserted, IsLive, IsSpotBelow, NamesFirst, Slot, is_at, is_of, less_at, less_taken, orders, reduced, slot_of, taken, without}
use Rattle.book_tests.specs.Open.{IsGrowing, IsOpen}

-- the handle of a slot of a list is that of some slot
module _ (p : Slot → Bool) (h : ℕ) where
  -- what is found behind a slot is found
  some-here : (b : Bool) (s : Slot) (o : Option Slot) → IsSome o → IsSome (cond b (Some s) o)
  some-here true s o e = refl
  some-here false s o e = e

  -- one slot more
  live-step : (b : Bool) (s : Slot) (ss : List Slot) → (option_map (λ s. s.handle) (find p ss) ≡ Some h → IsSome (find (is_at h) ss))
      → option_map (λ s. s.handle) (cond b (Some s) (find p ss)) ≡ Some h → IsSome (cond (is_at h s) (Some s) (find (is_at h) ss))
  live-step true s ss rest e = let same : s.handle ≡ h = cc in rw (eq-eqb h s.handle (sym same)) refl
  live-step false s ss rest e = some-here (is_at h s) s (find (is_at h) ss) (rest e)

  -- the handle of a slot that is found finds a slot
  live-in : (ss : List Slot) → option_map (λ s. s.handle) (find p ss) ≡ Some h → IsSome (find (is_at h) ss)
  live-in [] e = absurd (cc)
  live-in (s ∷ ss) e = live-step (p s) s ss (live-in ss) e

-- a handle that is found is live
pub found-live : (b : BookView) (p : Slot → Bool) (found : Option ℕ) → found ≡ option_map (λ s. s.handle) (find p b.slots) → IfSome found (λ h. IsLive b h)
found-live b p None e = tt
found-live b p (Some h) e = live-in p h b.slots (sym e)

-- an open book stays one with fewer shares, with an order less, and with shares taken
pub open-reduced : (n h by : ℕ) (b : BookView) → IsOpen n b → IsOpen n (reduced h by b)
open-reduced n h by b is =
    let f = less_at h by in
    record {
      prices = is.prices;
      capacity = is.capacity;
      few = omega (arith, length-map b.slots f, is.few);
      places = All-map (λ s. s.order.place < n) f b.slots is.places;
      numbers = All-map (λ s. s.order.own < n) f b.slots is.numbers;
    }

-- an order less
pub open-without : (n h : ℕ) (b : BookView) → IsOpen n b → IsOpen n (without h b)
open-without n h b is =
    let kept : Slot → Bool = λ s. not (is_at h s) in
    record {
      prices = is.prices;
      capacity = is.capacity;
      few = omega (arith, length-filter kept b.slots, count_by-le-length kept b.slots, is.few);
      places = All-filter kept (λ s. s.order.place < n) b.slots is.places;
      numbers = All-filter kept (λ s. s.order.own < n) b.slots is.numbers;
    }

-- what holds of the orders holds of the slots
of-orders : (P : Order → Type 0) (ss : List Slot) → All P (map (λ s. s.order) ss) → All (λ s. P s.order) ss
of-orders P ss all k d h = subst P (get_or-map (λ (s : Slot). s.order) ss k d d.order h) (all k d.order (omega (arith, h, length-map ss (λ (s : Slot). s.order))))

-- what holds of orders with any left holds after shares were taken
taken-holds : (P : Order → Type 0) (place by : ℕ) (old new : BookView) → ((o : Order) → P o → P (less_taken place by o)) → orders new ≡ taken place by (orders old) → All (λ s. P s.order) old.slots
    → All (λ s. P s.order) new.slots
unfolding taken
taken-holds P place by old new keeps e all =
    let first : All P (orders old) = All-map P (λ s. s.order) old.slots all in
    let second : All P (map (less_taken place by) (orders old)) = All-map P (less_taken place by) (orders old) (λ k d h. keeps (get_or (orders old) k d) (first k d h)) in
    of-orders P new.slots (subst (All P) (sym e) (All-filter (λ o. ltb 0 o.left) P (map (less_taken place by) (orders old)) second))

-- shares taken
pub open-taken : (n place by : ℕ) (old new : BookView) → IsOpen n old → orders new ≡ taken place by (orders old) → new.prices ≡ old.prices → new.capacity ≡ old.capacity
    → length new.slots ≤ length old.slots → IsOpen n new
open-taken n place by old new is e prices capacity few =
    record {
      prices = prices ∙ is.prices;
      capacity = capacity ∙ is.capacity;
      few = omega (arith, few, is.few);
      places = taken-holds (λ o. o.place < n) place by old new (λ o h. h) e is.places;
      numbers = taken-holds (λ o. o.own < n) place by old new (λ o h. h) e is.numbers;
    }

-- a growing book stays one with fewer shares, and with an order less
pub growing-reduced : (n h by : ℕ) (b : BookView) → IsGrowing n b → IsGrowing n (reduced h by b)
growing-reduced n h by b is =
    let f = less_at h by in
    record {
      prices = is.prices;
      capacity = is.capacity;
      few = omega (arith, length-map b.slots f, is.few);
      places = All-map (λ s. s.order.place < n) f b.slots is.places;
      numbers = All-map (λ s. s.order.own < n) f b.slots is.numbers;
    }

pub growing-without : (n h : ℕ) (b : BookView) → IsGrowing n b → IsGrowing n (without h b)
growing-without n h b is =
    let kept : Slot → Bool = λ s. not (is_at h s) in
    record {
      prices = is.prices;
      capacity = is.capacity;
      few = omega (arith, length-filter kept b.slots, count_by-le-length kept b.slots, is.few);
      places = All-filter kept (λ s. s.order.place < n) b.slots is.places;
      numbers = All-filter kept (λ s. s.order.own < n) b.slots is.numbers;
    }

-- and with an order more it has grown
pub growing-more : (n handle : ℕ) (o : Order) (b new : BookView) → IsGrowing n b → o.place ≡ n → o.own ≡ n → IsInserted b o handle new → IsGrowing (n + 1) new
growing-more n handle o b new is place own inserted =
    subst (IsGrowing (n + 1)) (sym inserted.slots)
    (record {
      prices = is.prices;
      capacity = is.capacity;
      few = omega (arith, is.few, length_push b.slots (slot_of handle o));
      places =
          All-push (λ s. s.order.place < n + 1) b.slots (slot_of handle o)
          (All-weaker (λ (s : Slot). s.order.place < n) (λ (s : Slot). s.order.place < n + 1) (λ s less. omega (arith, less)) b.slots is.places) (omega (arith, place));
      numbers =
          All-push (λ s. s.order.own < n + 1) b.slots (slot_of handle o)
          (All-weaker (λ (s : Slot). s.order.own < n) (λ (s : Slot). s.order.own < n + 1) (λ s less. omega (arith, less)) b.slots is.numbers) (omega (arith, own));
    })

-- the next order is fresh in it
pub growing-fresh : (n : ℕ) (o : Order) (b : BookView) → IsGrowing n b → n < 600 → o.place ≡ n → o.own ≡ n → 1 ≤ o.left → o.left ≤ 9 → IsSpotBelow 40 o.spot → IsFresh b o
growing-fresh n o b is few place own some limit spot =
    record {
      last = All-weaker (λ (s : Slot). s.order.place < n) (λ (s : Slot). s.order.place < o.place) (λ s less. omega (arith, less, place)) b.slots is.places;
      pair = All-weaker (λ (s : Slot). s.order.own < n) (λ (s : Slot). is_of o.caller o.own s.order ≡ false) (λ s less. other s.order (omega (arith, less, own))) b.slots is.numbers;
      room = omega (arith, is.few, is.capacity, few);
      some = some;
      limit = omega (arith, limit);
      spot = subst (λ k. IsSpotBelow k o.spot) (sym is.prices) spot;
    }
  where
    differs : (a b : Bool) → b ≡ false → (a && b) ≡ false
    differs true b e = e
    differs false b e = refl

    other : (x : Order) → x.own < o.own → is_of o.caller o.own x ≡ false
    other x less = differs (eqb o.caller.0 x.caller.0) (eqb o.own x.own) (ne_eqb o.own x.own (λ same. omega (arith, less, same)))

-- the order that a book names next is live
pub next-live : (b : BookView) (rest : List Order) (found : Option ℕ) → NamesFirst b rest found → IfSome found (λ h. IsLive b h)
next-live b rest None e = tt
next-live b rest (Some h) e = subst IsSome (sym e.1) refl
