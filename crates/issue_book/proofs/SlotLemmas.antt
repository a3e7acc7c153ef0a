-- The slot of a caller's order: its handle and the caller's own number tell it from all others.
use Rattle.std.proofs.Common.{◌≡◌, ◌≢◌, ℕ, ◌-◌, ◌<◌, Bool, true, false, not, cond, eqb, List, [], ◌∷◌, map, filter, Option, Some, None, refl, sym, ap, subst, ◌∙◌, arith}
use Rattle.std.specs.List.{AllByRecursion, find}
use Rattle.std.specs.Option.{IfNone, IfSome, option_map}
use Rattle.std.proofs.lemmas.Bool.Decides.{nat_tests}
use Rattle.mkt_base.specs.declared.units.Caller.{Caller}
use Rattle.book_law.specs.BookView.{BookView, IsBookView, Names, Slot, is_at, is_of, less, less_at, orders, reduced, without}
use Rattle.book_law.proofs.Pairs.{Pairs, pairs-from_AllPairs}
use Rattle.order_book.proofs.PlainLemmas.{find-map}
use Rattle.issue_book.specs.Entering.{lowered}
use Rattle.issue_book.specs.Handles.{IsHandleOf}

-- what holds of each element holds of the one that is found
module _ {X : Type 0} (P : X → Type 0) (t : X → Bool) (x : X) where
  holds-step : (b : Bool) (y : X) (ys : List X) → P y → (find t ys ≡ Some x → P x) → cond b (Some y) (find t ys) ≡ Some x → P x
  holds-step true y ys here rest e = let same : y ≡ x = cc in subst P same here
  holds-step false y ys here rest e = rest e

  pub found-holds : (xs : List X) → AllByRecursion P xs → find t xs ≡ Some x → P x
  found-holds [] all e = absurd (cc)
  found-holds (y ∷ ys) all e = holds-step (t y) y ys all.0 (found-holds ys all.1) e

-- two tests that agree on a list find the same
pub find-agree : {X : Type 0} (p q : X → Bool) (xs : List X) → AllByRecursion (λ x. p x ≡ q x) xs → find p xs ≡ find q xs
find-agree p q [] all = refl
find-agree p q (x ∷ xs) all = ap (λ b. cond b (Some x) (find p xs)) all.0 ∙ ap (λ o. cond (q x) (Some x) o) (find-agree p q xs all.1)

-- what an option is that was mapped to something
pub mapped-some : {X Y : Type 0} (f : X → Y) (o : Option X) (y : Y) → option_map f o ≡ Some y → (x : X) × (o ≡ Some x) × (f x ≡ y)
mapped-some f None y e = absurd (cc)
mapped-some f (Some x) y e = (x, refl, cc)

-- and what it is that was mapped to nothing
unmapped-none : {X Y : Type 0} (f : X → Y) (o : Option X) → option_map f o ≡ None → o ≡ None
unmapped-none f None e = refl
unmapped-none f (Some x) e = absurd (cc)

module _ (caller : Caller) (own : ℕ) where
  -- the slot's order is the caller's of this own number
  abbrev pub of_slot : Slot → Bool
  of_slot s = is_of caller own s.order

  -- of a slot beside the one that is meant: the handle tells it exactly where the caller's own number does, and then it is that
  pub record IsKeyed (s t : Slot) : Type 0 where
    pub same : is_at s.handle t ≡ of_slot t
    pub own_slot : is_at s.handle t ≡ true → t ≡ s

  keyed-behind : (s : Slot) (ts : List Slot) → of_slot s ≡ true → AllByRecursion (λ t. s.handle ≢ t.handle) ts → AllByRecursion (λ t. is_of s.order.caller s.order.own t.order ≡ false) ts
      → AllByRecursion (IsKeyed s) ts
  keyed-behind s [] e handles pairs = tt
  keyed-behind s (t ∷ ts) e handles pairs =
      let other : s.handle ≢ t.handle = handles.0 in
      let apart : is_of s.order.caller s.order.own t.order ≡ false = pairs.0 in
      let handle : eqb s.handle t.handle ≡ false = grind (arith, nat_tests, other) in
      let pair : of_slot t ≡ false = grind (arith, nat_tests, e, apart) in
      (record { same = handle ∙ sym pair; own_slot = λ g. absurd (cc) }, keyed-behind s ts e handles.1 pairs.1)

  keyed-step : (b : Bool) (s x : Slot) (xs : List Slot) → of_slot x ≡ b → AllByRecursion (λ t. x.handle ≢ t.handle) xs → AllByRecursion (λ t. is_of x.order.caller x.order.own t.order ≡ false) xs
      → (find of_slot xs ≡ Some s → AllByRecursion (IsKeyed s) xs)
      → cond b (Some x) (find of_slot xs) ≡ Some s → AllByRecursion (IsKeyed s) (x ∷ xs)
  keyed-step true s x xs e handles pairs rest f =
      let same : x ≡ s = cc in
      let itself : eqb x.handle x.handle ≡ true = grind (arith, nat_tests) in
      subst (λ z. AllByRecursion (IsKeyed z) (x ∷ xs)) same (record { same = itself ∙ sym e; own_slot = λ g. refl }, keyed-behind x xs e handles pairs)
  keyed-step false s x xs e handles pairs rest f =
      let other : x.handle ≢ s.handle = found-holds (λ t. x.handle ≢ t.handle) of_slot s xs handles f in
      let handle : eqb s.handle x.handle ≡ false = grind (arith, nat_tests, other) in
      (record { same = handle ∙ sym e; own_slot = λ g. absurd (cc) }, rest f)

  keyed-all : (s : Slot) (xs : List Slot) → Pairs (λ a b. a.handle ≢ b.handle) xs → Pairs (λ a b. is_of a.order.caller a.order.own b.order ≡ false) xs → find of_slot xs ≡ Some s → AllByRecursion (IsKeyed s) xs
  keyed-all s [] handles pairs e = tt
  keyed-all s (x ∷ xs) handles pairs e = keyed-step (of_slot x) s x xs refl handles.0 pairs.0 (keyed-all s xs handles.1 pairs.1) e

  -- of all slots of a book
  pub keyed : (b : BookView) (s : Slot) → IsBookView b → find of_slot b.slots ≡ Some s → AllByRecursion (IsKeyed s) b.slots
  keyed b s stands e =
      keyed-all s b.slots (pairs-from_AllPairs (λ a b. a.handle ≢ b.handle) b.slots stands.handles)
      (pairs-from_AllPairs (λ a b. is_of a.order.caller a.order.own b.order ≡ false) b.slots stands.pairs) e

  same-tests : (s : Slot) (xs : List Slot) → AllByRecursion (IsKeyed s) xs → AllByRecursion (λ t. is_at s.handle t ≡ of_slot t) xs
  same-tests s [] all = tt
  same-tests s (x ∷ xs) all = (all.0.same, same-tests s xs all.1)

  -- the handle of the slot that is found names its order
  pub found-names : (b : BookView) (s : Slot) → IsBookView b → find of_slot b.slots ≡ Some s → Names b s.handle s.order
  found-names b s stands e = find-agree (is_at s.handle) of_slot b.slots (same-tests s b.slots (keyed b s stands e)) ∙ e

  -- the order that is found among the orders is that of the slot that is found
  pub found-order : (b : BookView) → find (is_of caller own) (orders b) ≡ option_map (λ s. s.order) (find of_slot b.slots)
  found-order b = find-map (λ s. s.order) (is_of caller own) b.slots

  out-step : (h : ℕ) (b : Bool) (t : Slot) (ts : List Slot) → is_at h t ≡ b → map (λ s. s.order) (filter (λ s. not (is_at h s)) ts) ≡ filter (λ o. not (is_of caller own o)) (map (λ s. s.order) ts)
      → map (λ s. s.order) (filter (λ s. not (is_at h s)) (t ∷ ts)) ≡ cond (not b) (t.order ∷ filter (λ o. not (is_of caller own o)) (map (λ s. s.order) ts)) (filter (λ o. not (is_of caller own o)) (map (λ s. s.order) ts))
  out-step h true t ts e rest = rw e rest
  out-step h false t ts e rest = rw e (ap (λ os. t.order ∷ os) rest)

  out-all : (s : Slot) (ts : List Slot) → AllByRecursion (IsKeyed s) ts
      → map (λ t. t.order) (filter (λ t. not (is_at s.handle t)) ts) ≡ filter (λ o. not (is_of caller own o)) (map (λ t. t.order) ts)
  out-all s [] all = refl
  out-all s (t ∷ ts) all = out-step s.handle (of_slot t) t ts all.0.same (out-all s ts all.1)

  -- without the handle's order the book has all but the caller's
  pub orders-out : (b : BookView) (s : Slot) → IsBookView b → find of_slot b.slots ≡ Some s
      → orders (without s.handle b) ≡ filter (λ o. not (is_of caller own o)) (orders b)
  orders-out b s stands e = out-all s b.slots (keyed b s stands e)

  left-step : (s t : Slot) (qty : ℕ) (b : Bool) → is_at s.handle t ≡ b → (is_at s.handle t ≡ true → t ≡ s) → qty < s.order.left
      → t.order.left - cond b (s.order.left - qty) 0 ≡ cond b qty t.order.left
  left-step s t qty true e mine less = let same : t.order.left ≡ s.order.left = ap (λ x. x.order.left) (mine e) in omega arith
  left-step s t qty false e mine less = omega arith

  lowered-one : (s t : Slot) (qty : ℕ) → IsKeyed s t → qty < s.order.left → (less_at s.handle (s.order.left - qty) t).order ≡ lowered caller own qty t.order
  lowered-one s t qty keys less =
      ap (λ n. record t.order { left = n })
      (ap (λ b. t.order.left - cond b (s.order.left - qty) 0) keys.same ∙ left-step s t qty (of_slot t) keys.same keys.own_slot less)

  lowered-all : (s : Slot) (qty : ℕ) (ts : List Slot) → AllByRecursion (IsKeyed s) ts → qty < s.order.left
      → map (λ t. t.order) (map (less_at s.handle (s.order.left - qty)) ts) ≡ map (lowered caller own qty) (map (λ t. t.order) ts)
  lowered-all s qty [] all less = refl
  lowered-all s qty (t ∷ ts) all less =
      ap (λ o. o ∷ map (λ t. t.order) (map (less_at s.handle (s.order.left - qty)) ts)) (lowered-one s t qty all.0 less)
      ∙ ap (λ os. lowered caller own qty t.order ∷ os) (lowered-all s qty ts all.1 less)

  -- less so much of the handle's order that this quantity is left
  pub orders-lowered : (b : BookView) (s : Slot) (qty : ℕ) → IsBookView b → find of_slot b.slots ≡ Some s → qty < s.order.left
      → orders (reduced s.handle (s.order.left - qty) b) ≡ map (lowered caller own qty) (orders b)
  orders-lowered b s qty stands e less = lowered-all s qty b.slots (keyed b s stands e) less

-- the handle that a search among the slots found is that of the caller's order
pub handle-is : (b : BookView) (caller : Caller) (own handle : ℕ) → IsBookView b → option_map (λ s. s.handle) (find (λ s. is_of caller own s.order) b.slots) ≡ Some handle
    → IsHandleOf b caller own handle
handle-is b caller own handle stands e =
    let m = mapped-some (λ s. s.handle) (find (λ s. is_of caller own s.order) b.slots) handle e in
    let s : Slot = m.0 in
    subst (λ h. IsHandleOf b caller own h) m.2
    (record {
      order = s.order;
      names = found-names caller own b s stands m.1;
      found = found-order caller own b ∙ ap (λ o. option_map (λ t. t.order) o) m.1;
      out = orders-out caller own b s stands m.1;
      lowers = λ qty less. orders-lowered caller own b s qty stands m.1 less;
    })

-- where none is found the book has no such order
pub handle-none : (b : BookView) (caller : Caller) (own : ℕ) → option_map (λ s. s.handle) (find (λ s. is_of caller own s.order) b.slots) ≡ None
    → find (is_of caller own) (orders b) ≡ None
handle-none b caller own e =
    found-order caller own b ∙ ap (λ o. option_map (λ t. t.order) o) (unmapped-none (λ s. s.handle) (find (λ s. is_of caller own s.order) b.slots) e)

pub handle-if_some : (b : BookView) (caller : Caller) (own : ℕ) (found : Option ℕ) → IsBookView b → found ≡ option_map (λ s. s.handle) (find (λ s. is_of caller own s.order) b.slots)
    → IfSome found (IsHandleOf b caller own)
handle-if_some b caller own None stands e = tt
handle-if_some b caller own (Some h) stands e = handle-is b caller own h stands (sym e)

pub handle-if_none : (b : BookView) (caller : Caller) (own : ℕ) (found : Option ℕ) → found ≡ option_map (λ s. s.handle) (find (λ s. is_of caller own s.order) b.slots)
    → IfNone found (find (is_of caller own) (orders b) ≡ None)
handle-if_none b caller own None e = handle-none b caller own (sym e)
handle-if_none b caller own (Some h) e = tt
