-- What taking an order out, and taking shares from it, does to a book: to its orders, and to what its handles name.
use Rattle.std.proofs.Common.{◌≡◌, ◌≢◌, ℕ, ◌-◌, ◌<◌, ◌≤◌, Bool, true, false, not, cond, eqb, ltb, List, [], ◌∷◌, map, filter, Some, refl, sym, ap, subst, ◌∙◌, arith}
use Rattle.std.specs.List.{AllByRecursion, find}
use Rattle.std.proofs.lemmas.Bool.Decides.{nat_tests}
use Rattle.std.proofs.lemmas.List.Elements.{recursion_from_All}
use Rattle.mkt_base.specs.declared.order.Order.{Order}
use Rattle.book_law.specs.BookView.{BookView, IsBookView, Names, Slot, is_at, less, less_at, less_taken, orders, reduced, slot_of, taken, without}
use Rattle.book_law.proofs.Pairs.{Pairs, pairs-from_AllPairs}

-- what holds of each element holds of the one that is found
module _ {X : Type 0} (P : X → Type 0) (t : X → Bool) (x : X) where
  holds-step : (b : Bool) (y : X) (ys : List X) → P y → (find t ys ≡ Some x → P x) → cond b (Some y) (find t ys) ≡ Some x → P x
  holds-step true y ys here rest e = let same : y ≡ x = cc in subst P same here
  holds-step false y ys here rest e = rest e

  find-holds : (xs : List X) → AllByRecursion P xs → find t xs ≡ Some x → P x
  find-holds [] all e = absurd (cc)
  find-holds (y ∷ ys) all e = holds-step (t y) y ys all.0 (find-holds ys all.1) e

-- Of a slot of a book where the handle h names the order o: the handle is this slot's exactly where the place is o's, and
-- then its order is o.
record IsFound (h : ℕ) (o : Order) (s : Slot) : Type 0 where
  same : is_at h s ≡ eqb o.place s.order.place
  own : is_at h s ≡ true → s.order ≡ o

module _ (h : ℕ) (o : Order) where
  -- behind the slot that the handle names
  found-behind : (s : Slot) (ss : List Slot) → is_at h s ≡ true → s.order ≡ o → AllByRecursion (λ t. s.order.place < t.order.place) ss → AllByRecursion (λ t. s.handle ≢ t.handle) ss
      → AllByRecursion (IsFound h o) ss
  found-behind s [] e f places handles = tt
  found-behind s (t ∷ ts) e f places handles =
      let place : o.place ≡ s.order.place = ap (λ x. x.place) (sym f) in
      let later : s.order.place < t.order.place = places.0 in
      let other : s.handle ≢ t.handle = handles.0 in
      let handle : eqb h t.handle ≡ false = grind (arith, nat_tests, e, other) in
      let apart : eqb o.place t.order.place ≡ false = grind (arith, nat_tests, place, later) in
      (record { same = handle ∙ sym apart; own = λ g. absurd (cc) }, found-behind s ts e f places.1 handles.1)

  found-step : (b : Bool) (s : Slot) (ss : List Slot) → is_at h s ≡ b → AllByRecursion (λ t. s.order.place < t.order.place) ss → AllByRecursion (λ t. s.handle ≢ t.handle) ss
      → (find (is_at h) ss ≡ Some (slot_of h o) → AllByRecursion (IsFound h o) ss)
      → cond b (Some s) (find (is_at h) ss) ≡ Some (slot_of h o) → AllByRecursion (IsFound h o) (s ∷ ss)
  found-step true s ss e places handles rest f =
      let slot : s ≡ slot_of h o = cc in
      let own : s.order ≡ o = ap (λ t. t.order) slot in
      let place : o.place ≡ s.order.place = ap (λ x. x.place) (sym own) in
      let here : eqb o.place s.order.place ≡ true = grind (arith, nat_tests, place) in
      (record { same = e ∙ sym here; own = λ g. own }, found-behind s ss e own places handles)
  found-step false s ss e places handles rest f =
      let later : s.order.place < o.place = find-holds (λ t. s.order.place < t.order.place) (is_at h) (slot_of h o) ss places f in
      let apart : eqb o.place s.order.place ≡ false = grind (arith, nat_tests, later) in
      (record { same = e ∙ sym apart; own = λ g. absurd (cc) }, rest f)

  found-all : (ss : List Slot) → Pairs (λ s t. s.order.place < t.order.place) ss → Pairs (λ s t. s.handle ≢ t.handle) ss → find (is_at h) ss ≡ Some (slot_of h o) → AllByRecursion (IsFound h o) ss
  found-all [] places handles e = tt
  found-all (s ∷ ss) places handles e = found-step (is_at h s) s ss refl places.0 handles.0 (found-all ss places.1 handles.1) e

  -- of each slot of a book that stands
  found : (b : BookView) → IsBookView b → Names b h o → AllByRecursion (IsFound h o) b.slots
  found b stands names =
      found-all b.slots (pairs-from_AllPairs (λ s t. s.order.place < t.order.place) b.slots stands.by_place)
      (pairs-from_AllPairs (λ s t. s.handle ≢ t.handle) b.slots stands.handles) names

-- no shares less are all
pub less-none : (o : Order) → less 0 o ≡ o
less-none o = let same : o.left - 0 ≡ o.left = omega arith in ap (λ n. record o { left = n }) same

module _ (h by : ℕ) (o : Order) where
  kept : Order → Bool
  kept x = ltb 0 x.left

  -- the order with its handle is gone, and the others stay
  without-step : (b : Bool) (s : Slot) (ss : List Slot) → is_at h s ≡ b → IsFound h o s → 1 ≤ s.order.left → o.left ≤ by
      → map (λ t. t.order) (filter (λ t. not (is_at h t)) ss) ≡ filter kept (map (less_taken o.place by) (map (λ t. t.order) ss))
      → map (λ t. t.order) (cond (not b) (s ∷ filter (λ t. not (is_at h t)) ss) (filter (λ t. not (is_at h t)) ss))
      ≡ filter kept (less (cond (eqb o.place s.order.place) by 0) s.order ∷ map (less_taken o.place by) (map (λ t. t.order) ss))
  unfolding kept
  without-step true s ss e is some all rest =
      let left : s.order.left ≡ o.left = ap (λ x. x.left) (is.own e) in
      let gone : ltb 0 (s.order.left - by) ≡ false = grind (arith, nat_tests, left, all) in
      rw (sym is.same ∙ e, gone) rest
  without-step false s ss e is some all rest =
      let stays : ltb 0 (s.order.left - 0) ≡ true = grind (arith, nat_tests, some) in
      rw (sym is.same ∙ e, stays, less-none s.order) (ap (λ xs. s.order ∷ xs) rest)

  without-all : (ss : List Slot) → AllByRecursion (IsFound h o) ss → AllByRecursion (λ s. 1 ≤ s.order.left) ss → o.left ≤ by
      → map (λ t. t.order) (filter (λ t. not (is_at h t)) ss) ≡ filter kept (map (less_taken o.place by) (map (λ t. t.order) ss))
  without-all [] is some all = refl
  without-all (s ∷ ss) is some all = without-step (is_at h s) s ss refl is.0 some.0 all (without-all ss is.1 some.1 all)

  -- the order with its handle has less, and all stay
  reduced-step : (b : Bool) (s : Slot) (ss : List Slot) → is_at h s ≡ b → IsFound h o s → 1 ≤ s.order.left → by < o.left
      → map (λ t. t.order) (map (less_at h by) ss) ≡ filter kept (map (less_taken o.place by) (map (λ t. t.order) ss))
      → less (cond b by 0) s.order ∷ map (λ t. t.order) (map (less_at h by) ss)
      ≡ filter kept (less (cond (eqb o.place s.order.place) by 0) s.order ∷ map (less_taken o.place by) (map (λ t. t.order) ss))
  unfolding kept
  reduced-step true s ss e is some within rest =
      let left : s.order.left ≡ o.left = ap (λ x. x.left) (is.own e) in
      let stays : ltb 0 (s.order.left - by) ≡ true = grind (arith, nat_tests, left, within) in
      rw (sym is.same ∙ e, stays) (ap (λ xs. less by s.order ∷ xs) rest)
  reduced-step false s ss e is some within rest =
      let stays : ltb 0 (s.order.left - 0) ≡ true = grind (arith, nat_tests, some) in
      rw (sym is.same ∙ e, stays) (ap (λ xs. less 0 s.order ∷ xs) rest)

  reduced-all : (ss : List Slot) → AllByRecursion (IsFound h o) ss → AllByRecursion (λ s. 1 ≤ s.order.left) ss → by < o.left
      → map (λ t. t.order) (map (less_at h by) ss) ≡ filter kept (map (less_taken o.place by) (map (λ t. t.order) ss))
  reduced-all [] is some within = refl
  reduced-all (s ∷ ss) is some within = reduced-step (is_at h s) s ss refl is.0 some.0 within (reduced-all ss is.1 some.1 within)

-- without the order that a handle names, the orders are those after all that it has was taken from it
pub orders-without : (b : BookView) (h by : ℕ) (o : Order) → IsBookView b → Names b h o → o.left ≤ by → orders (without h b) ≡ taken o.place by (orders b)
unfolding taken kept
orders-without b h by o stands names all = without-all h by o b.slots (found h o b stands names) (recursion_from_All (λ s. 1 ≤ s.order.left) b.slots stands.some) all

-- with fewer shares than it has taken from it, the orders are those after this was taken
pub orders-reduced : (b : BookView) (h by : ℕ) (o : Order) → IsBookView b → Names b h o → by < o.left → orders (reduced h by b) ≡ taken o.place by (orders b)
unfolding taken kept
orders-reduced b h by o stands names within = reduced-all h by o b.slots (found h o b stands names) (recursion_from_All (λ s. 1 ≤ s.order.left) b.slots stands.some) within

-- another handle names what it named
module _ (h k : ℕ) (x : Order) (other : eqb h k ≡ false) where
  not-both : (s : Slot) → is_at k s ≡ true → is_at h s ≡ false
  not-both s e = grind (arith, nat_tests, e, other)

  gone-step : (a b : Bool) (s : Slot) (ss : List Slot) → is_at h s ≡ a → is_at k s ≡ b → (find (is_at k) ss ≡ Some (slot_of k x) → find (is_at k) (filter (λ t. not (is_at h t)) ss) ≡ Some (slot_of k x))
      → cond b (Some s) (find (is_at k) ss) ≡ Some (slot_of k x)
      → find (is_at k) (cond (not a) (s ∷ filter (λ t. not (is_at h t)) ss) (filter (λ t. not (is_at h t)) ss)) ≡ Some (slot_of k x)
  gone-step true true s ss e f rest names = let apart = not-both s f in absurd (cc)
  gone-step true false s ss e f rest names = rest names
  gone-step false true s ss e f rest names = rw f names
  gone-step false false s ss e f rest names = rw f (rest names)

  gone-all : (ss : List Slot) → find (is_at k) ss ≡ Some (slot_of k x) → find (is_at k) (filter (λ t. not (is_at h t)) ss) ≡ Some (slot_of k x)
  gone-all [] names = names
  gone-all (s ∷ ss) names = gone-step (is_at h s) (is_at k s) s ss refl refl (gone-all ss) names

  less-step : (by : ℕ) (b : Bool) (s : Slot) (ss : List Slot) → is_at k s ≡ b → (find (is_at k) ss ≡ Some (slot_of k x) → find (is_at k) (map (less_at h by) ss) ≡ Some (slot_of k x))
      → cond b (Some s) (find (is_at k) ss) ≡ Some (slot_of k x)
      → cond b (Some (less_at h by s)) (find (is_at k) (map (less_at h by) ss)) ≡ Some (slot_of k x)
  less-step by true s ss f rest names = rw (not-both s f, less-none s.order) names
  less-step by false s ss f rest names = rest names

  less-all : (by : ℕ) (ss : List Slot) → find (is_at k) ss ≡ Some (slot_of k x) → find (is_at k) (map (less_at h by) ss) ≡ Some (slot_of k x)
  less-all by [] names = names
  less-all by (s ∷ ss) names = less-step by (is_at k s) s ss refl (less-all by ss) names

  -- when the order of the one is taken out
  pub names-without : (b : BookView) → Names b k x → Names (without h b) k x
  names-without b names = gone-all b.slots names

  -- and when it has fewer shares
  pub names-reduced : (by : ℕ) (b : BookView) → Names b k x → Names (reduced h by b) k x
  names-reduced by b names = less-all by b.slots names

-- the handle itself names the order with so many shares less
module _ (h by : ℕ) (x : Order) where
  own-step : (b : Bool) (s : Slot) (ss : List Slot) → is_at h s ≡ b → (find (is_at h) ss ≡ Some (slot_of h x) → find (is_at h) (map (less_at h by) ss) ≡ Some (slot_of h (less by x)))
      → cond b (Some s) (find (is_at h) ss) ≡ Some (slot_of h x)
      → cond b (Some (less_at h by s)) (find (is_at h) (map (less_at h by) ss)) ≡ Some (slot_of h (less by x))
  own-step true s ss f rest names = let same : s ≡ slot_of h x = cc in rw f (ap (λ (t : Slot). Some (record t { order = less by t.order })) same)
  own-step false s ss f rest names = rest names

  own-all : (ss : List Slot) → find (is_at h) ss ≡ Some (slot_of h x) → find (is_at h) (map (less_at h by) ss) ≡ Some (slot_of h (less by x))
  own-all [] names = absurd (cc)
  own-all (s ∷ ss) names = own-step (is_at h s) s ss refl (own-all ss) names

  pub names-less : (b : BookView) → Names b h x → Names (reduced h by b) h (less by x)
  names-less b names = own-all b.slots names
