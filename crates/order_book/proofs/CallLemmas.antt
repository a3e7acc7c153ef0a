-- What each call leaves, over the list of orders and the book that it stands for.
use Rattle.std.proofs.Common.{◌≡◌, ◌≢◌, ℕ, ◌<◌, Bool, List, [], ◌∷◌, ◌++◌, length, get_or, set, Option, None, Some, refl, sym, ◌∙◌, ap, subst, arith}
use Rattle.std.specs.List.{All, HoldsAt, find, remove}
use Rattle.std.specs.Option.{option_map}
use Rattle.std.proofs.lemmas.List.{get_or-map, length-map, map_push}
use Rattle.std.proofs.lemmas.List.Elements.{All-map}
use Rattle.mkt_base.specs.declared.order.Order.{Order}
use Rattle.book_law.specs.BookView.{BookView, IsBookView, IsFresh, IsInserted, IsLive, Names, Slot, less, orders, reduced, slot_of, without}
use Rattle.order_book.specs.Plain.{by_place, plain}
use Rattle.order_book.proofs.PlainLemmas.{All-unmap, find-map, found-at, live-at, orders-are, reduced-at, removed-at, rising}

-- one map behind another
option_map-twice : {X Y Z : Type 0} (f : X → Y) (g : Y → Z) (o : Option X) → option_map g (option_map f o) ≡ option_map (λ x. g (f x)) o
option_map-twice f g None = refl
option_map-twice f g (Some x) = refl

module _ (n c : ℕ) (os : List Order) (now : BookView) (is : plain n c os ≡ now) where
  -- the orders of the book are those of the list
  pub same-orders : os ≡ orders now
  same-orders = sym (orders-are os) ∙ ap orders is

  -- a live handle is the place of an order of the list
  pub sought : (h place : ℕ) (items : List Order) → IsLive now h → place ≡ h → items ≡ os → (k : ℕ) × (k < length items) × HoldsAt (λ o. o.place ≡ place) items k
  sought h place items live p e =
      subst (λ xs. (k : ℕ) × (k < length xs) × HoldsAt (λ o. o.place ≡ place) xs k) (sym e)
      (subst (λ q. (k : ℕ) × (k < length os) × HoldsAt (λ o. o.place ≡ q) os k) (sym p) (live-at n c h os (subst (λ b. IsLive b h) (sym is) live)))

  -- and its index in the list is that of its slot
  pub slot-index : (h i : ℕ) → i < length os → HoldsAt (λ o. o.place ≡ h) os i → (i < length now.slots) × HoldsAt (λ s. s.handle ≡ h) now.slots i
  slot-index h i within at =
      let shown = λ (o : Order). slot_of o.place o in
      subst (λ b. (i < length b.slots) × HoldsAt (λ s. s.handle ≡ h) b.slots i) is
      (omega (arith, within, length-map os shown), λ d. ap (λ s. s.handle) (get_or-map shown os i d.order d within) ∙ at d.order)

  -- and the other way round
  pub order-index : (h i : ℕ) → i < length now.slots → HoldsAt (λ s. s.handle ≡ h) now.slots i → (i < length os) × HoldsAt (λ o. o.place ≡ h) os i
  order-index h i within at =
      let shown = λ (o : Order). slot_of o.place o in
      let size : length now.slots ≡ length os = ap (λ b. length b.slots) (sym is) ∙ length-map os shown in
      let inside : i < length os = omega (arith, within, size) in (
        inside,
        λ d.
            sym (ap (λ s. s.handle) (get_or-map shown os i d (slot_of d.place d) inside))
            ∙ ap (λ b. (get_or b.slots i (slot_of d.place d)).handle) is ∙ at (slot_of d.place d),
      )

  module _ (book : IsBookView (plain n c os)) (h i : ℕ) (within : i < length now.slots) (at : HoldsAt (λ s. s.handle ≡ h) now.slots i) where
    -- the order that stands there is the one that the handle names
    pub names-at : (x : Order) → x ≡ get_or os i x → Names now h x
    names-at x e =
        let inside = order-index h i within at in
        subst (λ b. Names b h x) is (found-at h os i x (rising n c os book) inside.0 e (ap (λ o. o.place) e ∙ inside.1 x))

    -- the list without the order there is the book without it
    pub removed : (ys : List Order) → ys ≡ remove os i → plain n c ys ≡ without h now
    removed ys e =
        let inside = order-index h i within at in
        subst (λ b. plain n c ys ≡ without h b) is
        (ap (plain n c) e ∙ ap (λ ss. record { prices = n; capacity = c; slots = ss }) (removed-at h os i (rising n c os book) inside.0 inside.1))

    -- the list with fewer shares there is the book with fewer
    pub less-left : (by : ℕ) (x : Order) → x ≡ get_or os i x → plain n c (set os i (less by x)) ≡ reduced h by now
    less-left by x e =
        let inside = order-index h i within at in
        subst (λ b. plain n c (set os i (less by x)) ≡ reduced h by b) is
        (ap (λ ss. record { prices = n; capacity = c; slots = ss }) (reduced-at h by os i x (rising n c os book) inside.0 e (ap (λ o. o.place) e ∙ inside.1 x)))

  -- an order more
  pub added : (o : Order) (key : ℕ) (ys : List Order) → key ≡ o.place → ys ≡ os ++ o ∷ [] → IsFresh now o → IsInserted now o key (plain n c ys)
  added o key ys k e fresh =
      let shown = λ (x : Order). slot_of x.place x in
      let with_slots : List Slot → BookView = λ ss. record { prices = n; capacity = c; slots = ss } in
      let slots : plain n c ys ≡ with_slots (by_place os ++ slot_of key o ∷ []) =
      ap (plain n c) e ∙ ap with_slots (map_push shown os o ∙ ap (λ p. by_place os ++ slot_of p o ∷ []) (sym k)) in
      let later : All (λ s. s.order.place < o.place) (by_place os) = subst (λ b. All (λ s. s.order.place < o.place) b.slots) (sym is) fresh.last in
      let earlier = All-unmap (λ s. s.order.place < o.place) shown os later in
      let other : All (λ s. s.handle ≢ key) (by_place os) = All-map (λ s. s.handle ≢ key) shown os (λ m d l same. let h = earlier m d l in absurd (omega (arith, h, same, k))) in
      record {
        slots = slots ∙ ap (λ (b : BookView). record b { slots = b.slots ++ slot_of key o ∷ [] }) is;
        fresh = subst (λ b. All (λ s. s.handle ≢ key) b.slots) is other;
      }

  -- the handle of a caller's order
  pub own-handle : (p : Order → Bool) → option_map (λ o. o.place) (find p os) ≡ option_map (λ s. s.handle) (find (λ s. p s.order) now.slots)
  own-handle p =
      let shown = λ (o : Order). slot_of o.place o in
      subst (λ b. option_map (λ o. o.place) (find p os) ≡ option_map (λ s. s.handle) (find (λ s. p s.order) b.slots)) is
      (sym (option_map-twice shown (λ s. s.handle) (find p os)) ∙ ap (option_map (λ s. s.handle)) (sym (find-map shown (λ s. p s.order) os)))
