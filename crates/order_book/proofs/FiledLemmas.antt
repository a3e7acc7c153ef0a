-- Orders that are filed by a key: what a change of the orders makes of the lists.
use Rattle.std.proofs.Common.{◌≡◌, ◌≢◌, ◌⊎◌, ℕ, ◌<◌, Bool, true, false, cond, not, eqb, List, [], ◌∷◌, ◌++◌, length, map, filter, set, Some, refl, sym, ◌∙◌, ap, subst, inl, inr, arith, append-nil}
use Rattle.std.specs.List.{AllByRecursion, find}
use Rattle.std.proofs.lemmas.Bool.{cases_eq, eq-eqb, eqb-true, false≢true, ne_eqb}
use Rattle.std.proofs.lemmas.List.{get_or-map, get_or-set_other, get_or-set_same, length-map, length-set, map-append}
use Rattle.std.proofs.lemmas.List.Elements.{filter-append}
use Rattle.mkt_base.specs.declared.order.Order.{Order}
use Rattle.order_list.specs.Lists.{IsIn, IsLive, Linked, is_at, item_at, list_at, with_last, without}
use Rattle.order_book.specs.Linked.{AreApart, IsFiled, filed_at}
use Rattle.order_book.specs.declared.held.Held.{Held}

module _ {X : Type 0} where
  -- what is found is the first, or is found behind it
  pub find-cases : (p : X → Bool) (x : X) (xs : List X) (y : X) → find p (x ∷ xs) ≡ Some y → ((p x ≡ true) × (x ≡ y)) ⊎ ((p x ≡ false) × (find p xs ≡ Some y))
  find-cases p x xs y e = by_test (p x) refl e
    where
      by_test : (b : Bool) → p x ≡ b → cond b (Some x) (find p xs) ≡ Some y → ((p x ≡ true) × (x ≡ y)) ⊎ ((p x ≡ false) × (find p xs ≡ Some y))
      by_test true is e = let same : x ≡ y = cc in inl (is, same)
      by_test false is e = inr (is, e)

  -- what holds of each holds of what is found
  pub find-holds : (P : X → Type 0) (p : X → Bool) (xs : List X) (y : X) → AllByRecursion P xs → find p xs ≡ Some y → P y
  find-holds P p [] y all e = absurd (cc)
  find-holds P p (x ∷ xs) y all e =
      elim (find-cases p x xs y e) [ inl here ↦ subst P here.1 all.0 | inr there ↦ find-holds P p xs y all.1 there.1 ]

  pub find-passes : (p : X → Bool) (xs : List X) (y : X) → find p xs ≡ Some y → p y ≡ true
  find-passes p [] y e = absurd (cc)
  find-passes p (x ∷ xs) y e =
      elim (find-cases p x xs y e) [ inl here ↦ ap p (sym here.1) ∙ here.0 | inr there ↦ find-passes p xs y there.1 ]

  pub find-first : (p : X → Bool) (x : X) (xs : List X) → p x ≡ true → find p (x ∷ xs) ≡ Some x
  find-first p x xs is = ap (λ b. cond b (Some x) (find p xs)) is

  pub find-later : (p : X → Bool) (x : X) (xs : List X) → p x ≡ false → find p (x ∷ xs) ≡ find p xs
  find-later p x xs is = ap (λ b. cond b (Some x) (find p xs)) is

  pub each-weaker : (P Q : X → Type 0) → ((x : X) → P x → Q x) → (xs : List X) → AllByRecursion P xs → AllByRecursion Q xs
  each-weaker P Q weaker [] all = tt
  each-weaker P Q weaker (x ∷ xs) all = (weaker x all.0, each-weaker P Q weaker xs all.1)

  pub each-both : (P Q R : X → Type 0) → ((x : X) → P x → Q x → R x) → (xs : List X) → AllByRecursion P xs → AllByRecursion Q xs → AllByRecursion R xs
  each-both P Q R weaker [] ps qs = tt
  each-both P Q R weaker (x ∷ xs) ps qs = (weaker x ps.0 qs.0, each-both P Q R weaker xs ps.1 qs.1)

  pub each-filter : (P : X → Type 0) (p : X → Bool) (xs : List X) → AllByRecursion P xs → AllByRecursion P (filter p xs)
  each-filter P p [] all = tt
  each-filter P p (x ∷ xs) all = by_test (p x) (each-filter P p xs all.1)
    where
      by_test : (b : Bool) → AllByRecursion P (filter p xs) → AllByRecursion P (cond b (x ∷ filter p xs) (filter p xs))
      by_test true rest = (all.0, rest)
      by_test false rest = rest

  pub each-push : (P : X → Type 0) (xs : List X) (x : X) → AllByRecursion P xs → P x → AllByRecursion P (xs ++ x ∷ [])
  each-push P [] x all last = (last, tt)
  each-push P (y ∷ ys) x all last = (all.0, each-push P ys x all.1 last)

  -- tests that agree keep the same
  pub filter-same : (p q : X → Bool) (xs : List X) → AllByRecursion (λ x. p x ≡ q x) xs → filter p xs ≡ filter q xs
  filter-same p q [] all = refl
  filter-same p q (x ∷ xs) all =
      ap (λ b. cond b (x ∷ filter p xs) (filter p xs)) all.0 ∙ ap (λ ys. cond (q x) (x ∷ ys) ys) (filter-same p q xs all.1)

  pub filter-turn : (p q : X → Bool) (xs : List X) → filter p (filter q xs) ≡ filter q (filter p xs)
  filter-turn p q [] = refl
  filter-turn p q (x ∷ xs) = by_tests (p x) (q x) refl refl (filter-turn p q xs)
    where
      by_tests : (a b : Bool) → p x ≡ a → q x ≡ b → filter p (filter q xs) ≡ filter q (filter p xs)
          → filter p (cond b (x ∷ filter q xs) (filter q xs)) ≡ filter q (cond a (x ∷ filter p xs) (filter p xs))
      by_tests true true e f rest =
          ap (λ c. cond c (x ∷ filter p (filter q xs)) (filter p (filter q xs))) e ∙ ap (λ ys. x ∷ ys) rest ∙ sym (ap (λ c. cond c (x ∷ filter q (filter p xs)) (filter q (filter p xs))) f)
      by_tests true false e f rest = rest ∙ sym (ap (λ c. cond c (x ∷ filter q (filter p xs)) (filter q (filter p xs))) f)
      by_tests false true e f rest = ap (λ c. cond c (x ∷ filter p (filter q xs)) (filter p (filter q xs))) e ∙ rest
      by_tests false false e f rest = rest

  pub filter-map : {Y : Type 0} (p : Y → Bool) (f : X → Y) (xs : List X) → filter p (map f xs) ≡ map f (filter (λ x. p (f x)) xs)
  filter-map p f [] = refl
  filter-map p f (x ∷ xs) = by_test (p (f x)) (filter-map p f xs)
    where
      by_test : (b : Bool) → filter p (map f xs) ≡ map f (filter (λ x. p (f x)) xs)
          → cond b (f x ∷ filter p (map f xs)) (filter p (map f xs)) ≡ map f (cond b (x ∷ filter (λ x. p (f x)) xs) (filter (λ x. p (f x)) xs))
      by_test true rest = ap (λ ys. f x ∷ ys) rest
      by_test false rest = rest

  -- a change that a test and a view do not see
  pub unseen : {Y : Type 0} (g : X → X) (p : X → Bool) (v : X → Y) (xs : List X) → AllByRecursion (λ x. (p (g x) ≡ p x) × (v (g x) ≡ v x)) xs
      → map v (filter p (map g xs)) ≡ map v (filter p xs)
  unseen g p v [] all = refl
  unseen g p v (x ∷ xs) all =
      ap (λ b. map v (cond b (g x ∷ filter p (map g xs)) (filter p (map g xs)))) all.0.0 ∙ by_test (p x) (unseen g p v xs all.1)
    where
      by_test : (b : Bool) → map v (filter p (map g xs)) ≡ map v (filter p xs)
          → map v (cond b (g x ∷ filter p (map g xs)) (filter p (map g xs))) ≡ map v (cond b (x ∷ filter p xs) (filter p xs))
      by_test true rest = ap (λ y. y ∷ map v (filter p (map g xs))) all.0.1 ∙ ap (λ ys. v x ∷ ys) rest
      by_test false rest = rest

-- a handle and the order that it finds
module _ (h : ℕ) (t : Linked Held) where
  -- no other order has the handle
  pub only-one : (ns : List (Linked Held)) → AreApart (λ n. n.link) ns → find (is_at h) ns ≡ Some t → AllByRecursion (λ n. n.link ≡ h → n ≡ t) ns
  only-one [] apart e = tt
  only-one (n ∷ ns) apart e =
      elim (find-cases (is_at h) n ns t e) [
        | inl here ↦ (
          λ _. here.1,
          each-weaker (λ m. n.link ≢ m.link) (λ m. m.link ≡ h → m ≡ t) (λ m differs same. absurd (differs (eqb-true n.link h here.0 ∙ sym same))) ns apart.0,
        )
        | inr there ↦ (λ same. absurd (false≢true (sym there.0 ∙ eq-eqb n.link h same)), only-one ns apart.1 there.1)
      ]

  -- nor has another order its link
  pub same-tests : (at : Held → ℕ) (ns : List (Linked Held)) → AreApart (λ n. n.link) ns → AreApart (λ n. at n.item) ns → find (is_at h) ns ≡ Some t
      → AllByRecursion (λ n. is_at (at t.item) (filed_at at n) ≡ is_at h n) ns
  same-tests at [] links apart e = tt
  same-tests at (n ∷ ns) links apart e =
      elim (find-cases (is_at h) n ns t e) [
        | inl here ↦ (
          eq-eqb (at n.item) (at t.item) (ap (λ (m : Linked Held). at m.item) here.1) ∙ sym here.0,
          each-both (λ m. n.link ≢ m.link) (λ m. at n.item ≢ at m.item) (λ m. is_at (at t.item) (filed_at at m) ≡ is_at h m)
              (λ m differs other.
              ne_eqb (at m.item) (at t.item) (λ same. other (ap (λ (k : Linked Held). at k.item) here.1 ∙ sym same))
              ∙ sym (ne_eqb m.link h (λ same. differs (eqb-true n.link h here.0 ∙ sym same))))
              ns links.0 apart.0,
        )
        | inr there ↦ (
          ne_eqb (at n.item) (at t.item) (find-holds (λ m. at n.item ≢ at m.item) (is_at h) ns t apart.0 there.1) ∙ sym there.0,
          same-tests at ns links.1 apart.1 there.1,
        )
      ]

  -- it is found in its list by its link
  pub find-filed : (at : Held → ℕ) (p : Linked Held → Bool) (ns : List (Linked Held)) → AreApart (λ n. at n.item) ns → p t ≡ true → find (is_at h) ns ≡ Some t
      → find (is_at (at t.item)) (map (filed_at at) (filter p ns)) ≡ Some (filed_at at t)
  find-filed at p [] apart passes e = absurd (cc)
  find-filed at p (n ∷ ns) apart passes e =
      elim (find-cases (is_at h) n ns t e) [
        | inl here ↦
            ap (λ b. find (is_at (at t.item)) (map (filed_at at) (cond b (n ∷ filter p ns) (filter p ns)))) (ap p here.1 ∙ passes)
            ∙ find-first (is_at (at t.item)) (filed_at at n) (map (filed_at at) (filter p ns)) (eq-eqb (at n.item) (at t.item) (ap (λ (m : Linked Held). at m.item) here.1))
            ∙ ap (λ (m : Linked Held). Some (filed_at at m)) here.1
        | inr there ↦
            by_test (p n)
            (ne_eqb (at n.item) (at t.item) (find-holds (λ m. at n.item ≢ at m.item) (is_at h) ns t apart.0 there.1))
            (find-filed at p ns apart.1 passes there.1)
      ]
    where
      by_test : (b : Bool) → is_at (at t.item) (filed_at at n) ≡ false → find (is_at (at t.item)) (map (filed_at at) (filter p ns)) ≡ Some (filed_at at t)
          → find (is_at (at t.item)) (map (filed_at at) (cond b (n ∷ filter p ns) (filter p ns))) ≡ Some (filed_at at t)
      by_test true other rest = find-later (is_at (at t.item)) (filed_at at n) (map (filed_at at) (filter p ns)) other ∙ rest
      by_test false other rest = rest

-- numbers that are apart stay so
module _ (f : Linked Held → ℕ) where
  pub apart-filter : (p : Linked Held → Bool) (ns : List (Linked Held)) → AreApart f ns → AreApart f (filter p ns)
  apart-filter p [] apart = tt
  apart-filter p (n ∷ ns) apart = by_test (p n) (apart-filter p ns apart.1)
    where
      by_test : (b : Bool) → AreApart f (filter p ns) → AreApart f (cond b (n ∷ filter p ns) (filter p ns))
      by_test true rest = (each-filter (λ m. f n ≢ f m) p ns apart.0, rest)
      by_test false rest = rest

  pub apart-push : (ns : List (Linked Held)) (n : Linked Held) → AreApart f ns → AllByRecursion (λ m. f m ≢ f n) ns → AreApart f (ns ++ n ∷ [])
  apart-push [] n apart other = (tt, tt)
  apart-push (m ∷ ms) n apart other = (each-push (λ k. f m ≢ f k) ms n apart.0 other.0, apart-push ms n apart.1 other.1)

  pub each-map : (P Q : Linked Held → Type 0) (g : Linked Held → Linked Held) → (ns : List (Linked Held)) → AllByRecursion (λ n. P n → Q (g n)) ns → AllByRecursion P ns → AllByRecursion Q (map g ns)
  each-map P Q g [] all ps = tt
  each-map P Q g (n ∷ ns) all ps = (all.0 ps.0, each-map P Q g ns all.1 ps.1)

  pub apart-map : (g : Linked Held → Linked Held) (ns : List (Linked Held)) → AllByRecursion (λ n. f (g n) ≡ f n) ns → AreApart f ns → AreApart f (map g ns)
  apart-map g [] same apart = tt
  apart-map g (n ∷ ns) same apart = (
    each-map (λ m. f n ≢ f m) (λ m. f (g n) ≢ f m) g ns
        (each-weaker (λ m. f (g m) ≡ f m) (λ m. f n ≢ f m → f (g n) ≢ f (g m)) (λ m is differs e. differs (sym same.0 ∙ e ∙ is)) ns same.1) apart.0,
    apart-map g ns same.1 apart.1,
  )

module _ (key : Order → ℕ) (at : Held → ℕ) where
  abbrev has_key : ℕ → Linked Held → Bool
  has_key k n = eqb (key n.item.order) k

  -- an order is filed under its key
  pub filed-in : (lists : List (List (Linked ℕ))) (ns : List (Linked Held)) (h : ℕ) (t : Linked Held) → IsFiled key at lists ns → find (is_at h) ns ≡ Some t
      → IsIn lists (at t.item) (key t.item.order) t.link
  filed-in lists ns h t filed e =
      let within : key t.item.order < length lists = find-holds (λ n. key n.item.order < length lists) (is_at h) ns t filed.within e in
      record {
        within = within;
        found =
            ap (find (is_at (at t.item))) (filed.lists_are (key t.item.order) within)
            ∙ find-filed h t at (has_key (key t.item.order)) ns filed.apart (eq-eqb (key t.item.order) (key t.item.order) refl) e;
      }

  -- an order is taken out
  pub filed-removed : (lists : List (List (Linked ℕ))) (ns : List (Linked Held)) (h : ℕ) (t : Linked Held) → AreApart (λ n. n.link) ns → IsFiled key at lists ns → find (is_at h) ns ≡ Some t
      → IsFiled key at (without (at t.item) lists) (filter (λ n. not (is_at h n)) ns)
  filed-removed lists ns h t links filed e =
      let kept : List (Linked ℕ) → List (Linked ℕ) = filter (λ m. not (is_at (at t.item) m)) in
      let size : length (without (at t.item) lists) ≡ length lists = length-map lists kept in
      record {
        lists_are = λ k less.
            let inside : k < length lists = omega (arith, less, size) in
            get_or-map kept lists k [] [] inside ∙ ap kept (filed.lists_are k inside)
            ∙ filter-map (λ m. not (is_at (at t.item) m)) (filed_at at) (filter (has_key k) ns)
            ∙ ap (map (filed_at at))
            (filter-same (λ n. not (is_at (at t.item) (filed_at at n))) (λ n. not (is_at h n)) (filter (has_key k) ns)
            (each-weaker (λ n. is_at (at t.item) (filed_at at n) ≡ is_at h n) (λ n. not (is_at (at t.item) (filed_at at n)) ≡ not (is_at h n)) (λ n same. ap not same) (filter (has_key k) ns)
            (each-filter (λ n. is_at (at t.item) (filed_at at n) ≡ is_at h n) (has_key k) ns (same-tests h t at ns links filed.apart e)))
            ∙ filter-turn (λ n. not (is_at h n)) (has_key k) ns);
        within =
            subst (λ m. AllByRecursion (λ n. key n.item.order < m) (filter (λ n. not (is_at h n)) ns)) (sym size)
            (each-filter (λ n. key n.item.order < length lists) (λ n. not (is_at h n)) ns filed.within);
        apart = apart-filter (λ n. at n.item) (λ n. not (is_at h n)) ns filed.apart;
      }

  -- an order more, whose link was not live
  pub filed-inserted : (lists : List (List (Linked ℕ))) (ns : List (Linked Held)) (n : Linked Held) → AreApart (λ m. m.link) ns → IsFiled key at lists ns
      → key n.item.order < length lists → ¬ IsLive lists (at n.item) → IsFiled key at (with_last (key n.item.order) (filed_at at n) lists) (ns ++ n ∷ [])
  filed-inserted lists ns n links filed within unused =
      let here = key n.item.order in
      let new : List (Linked ℕ) = list_at lists here ++ filed_at at n ∷ [] in
      let size : length (set lists here new) ≡ length lists = length-set lists here new in
      let pushed : (k : ℕ) → filter (has_key k) (ns ++ n ∷ []) ≡ filter (has_key k) ns ++ filter (has_key k) (n ∷ []) = λ k. filter-append (has_key k) ns (n ∷ []) in
      record {
        lists_are = λ k less.
            let inside : k < length lists = omega (arith, less, size) in
            elim (cases_eq k here) [
              | inl same ↦
                  subst (λ j. list_at (set lists here new) j ≡ map (filed_at at) (filter (has_key j) (ns ++ n ∷ []))) (sym same)
                  (get_or-set_same lists here new [] within ∙ ap (λ xs. xs ++ filed_at at n ∷ []) (filed.lists_are here within)
                  ∙ sym (map-append (filed_at at) (filter (has_key here) ns) (n ∷ []))
                  ∙ sym (ap (map (filed_at at)) (pushed here ∙ ap (λ b. filter (has_key here) ns ++ cond b (n ∷ []) []) (eq-eqb here here refl))))
              | inr differs ↦
                  get_or-set_other lists here k new [] differs ∙ filed.lists_are k inside
                  ∙ sym (ap (map (filed_at at)) (pushed k ∙ ap (λ b. filter (has_key k) ns ++ cond b (n ∷ []) []) (ne_eqb here k (λ e. differs (sym e))) ∙ append-nil (filter (has_key k) ns)))
            ];
        within =
            subst (λ m. AllByRecursion (λ n. key n.item.order < m) (ns ++ n ∷ [])) (sym size)
            (each-push (λ n. key n.item.order < length lists) ns n filed.within within);
        apart = apart-push (λ m. at m.item) ns n filed.apart (all-live ns links filed (λ m h e. e));
      }
    where
      -- each link of another order is live, and so not the new one
      all-live : (rest : List (Linked Held)) → AreApart (λ m. m.link) rest → IsFiled key at lists ns → ((m : Linked Held) (h : ℕ) → find (is_at h) rest ≡ Some m → find (is_at h) ns ≡ Some m)
          → AllByRecursion (λ m. at m.item ≢ at n.item) rest
      all-live [] links filed there = tt
      all-live (m ∷ ms) links filed there = (
        λ same.
            let found = there m m.link (find-first (is_at m.link) m ms (eq-eqb m.link m.link refl)) in
            unused (subst (IsLive lists) same (key m.item.order, m.link, filed-in lists ns m.link m filed found)),
        all-live ms links.1 filed
            (λ k h e.
            there k h
            (find-later (is_at h) m ms
            (ne_eqb m.link h
            (λ same.
            let other = find-holds (λ j. m.link ≢ j.link) (is_at h) ms k links.0 e in
            other (same ∙ sym (eqb-true k.link h (find-passes (is_at h) ms k e))))) ∙ e)),
      )

  -- an order is changed, but not its key and not its link
  pub filed-changed : (lists : List (List (Linked ℕ))) (ns : List (Linked Held)) (h : ℕ) (t : Linked Held) (x : Held) → AreApart (λ n. n.link) ns → IsFiled key at lists ns → find (is_at h) ns ≡ Some t
      → key x.order ≡ key t.item.order → at x ≡ at t.item → IsFiled key at lists (map (item_at h x) ns)
  filed-changed lists ns h t x links filed e same-key same-at =
      let unchanged : (n : Linked Held) → (n.link ≡ h → n ≡ t) → (key (item_at h x n).item.order ≡ key n.item.order) × (at (item_at h x n).item ≡ at n.item) =
      λ n one. by_test n (is_at h n) (λ is. one (eqb-true n.link h is)) refl in
      let each : AllByRecursion (λ n. (key (item_at h x n).item.order ≡ key n.item.order) × (at (item_at h x n).item ≡ at n.item)) ns =
      each-weaker (λ n. n.link ≡ h → n ≡ t) (λ n. (key (item_at h x n).item.order ≡ key n.item.order) × (at (item_at h x n).item ≡ at n.item)) unchanged ns (only-one h t ns links e) in
      record {
        lists_are = λ k less.
            filed.lists_are k less
            ∙ sym (unseen (item_at h x) (has_key k) (filed_at at) ns
            (each-weaker (λ n. (key (item_at h x n).item.order ≡ key n.item.order) × (at (item_at h x n).item ≡ at n.item))
            (λ n. (has_key k (item_at h x n) ≡ has_key k n) × (filed_at at (item_at h x n) ≡ filed_at at n))
            (λ n same. (ap (λ j. eqb j k) same.0, ap (λ l. record { link = l; item = n.link }) same.1)) ns each));
        within =
            each-map (λ n. n.link) (λ n. key n.item.order < length lists) (λ n. key n.item.order < length lists) (item_at h x) ns
            (each-weaker (λ n. (key (item_at h x n).item.order ≡ key n.item.order) × (at (item_at h x n).item ≡ at n.item))
            (λ n. key n.item.order < length lists → key (item_at h x n).item.order < length lists) (λ n same less. subst (λ j. j < length lists) (sym same.0) less) ns each) filed.within;
        apart =
            apart-map (λ n. at n.item) (item_at h x) ns
            (each-weaker (λ n. (key (item_at h x n).item.order ≡ key n.item.order) × (at (item_at h x n).item ≡ at n.item)) (λ n. at (item_at h x n).item ≡ at n.item) (λ n same. same.1) ns each) filed.apart;
      }
    where
      by_test : (n : Linked Held) (b : Bool) → (b ≡ true → n ≡ t) → is_at h n ≡ b → (key (cond b x n.item).order ≡ key n.item.order) × (at (cond b x n.item) ≡ at n.item)
      by_test n true one is = let same = one refl in (same-key ∙ ap (λ (m : Linked Held). key m.item.order) (sym same), same-at ∙ ap (λ (m : Linked Held). at m.item) (sym same))
      by_test n false one is = (refl, refl)
