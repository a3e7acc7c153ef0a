-- An item that is put into a list by place.
use Rattle.std.proofs.Common.{◌≡◌, ◌≢◌, ℕ, ◌<◌, ◌≤◌, ltb, Bool, true, false, cond, not, List, [], ◌∷◌, ◌++◌, map, Option, Some, refl, sym, ◌∙◌, ap, subst, inl, inr, arith}
use Rattle.std.specs.List.{AllByRecursion, filter, find}
use Rattle.std.proofs.lemmas.Bool.{cases_Bool, eq-eqb, ltb-true, lt-ltb, ne_eqb}
use Rattle.std.proofs.lemmas.Bool.Decides.{nat_tests}
use Rattle.order_list.specs.Lists.{Linked, is_at}
use Rattle.order_list.specs.Links.{AreApart, IsAbsent}
use Rattle.order_list.specs.Pool.{put_by_place}

not-below : (a b : ℕ) → b ≤ a → ltb a b ≡ false
not-below a b most = grind (arith, nat_tests)

at-least : (a b : ℕ) → ltb a b ≡ false → b ≤ a
at-least a b e = grind (arith, nat_tests)

module _ {T : Type 0} where
  -- what a search finds is one of those that are searched
  pub found-holds : (P : Linked T → Type 0) (p : Linked T → Bool) (ns : List (Linked T)) (n : Linked T) → AllByRecursion P ns → find p ns ≡ Some n → P n
  found-holds P p [] n all found = absurd (cc)
  found-holds P p (m ∷ ns) n all found =
      elim (cases_Bool (p m)) [
        | inl here ↦
            let same : Path (Option (Linked T)) (Some m) (Some n) = sym (ap (λ b. cond b (Some m) (find p ns)) here) ∙ found in
            let is : m ≡ n = cc in
            subst P is all.0
        | inr elsewhere ↦ found-holds P p ns n all.1 (sym (ap (λ b. cond b (Some m) (find p ns)) elsewhere) ∙ found)
      ]

  all-filter : (P : Linked T → Type 0) (p : Linked T → Bool) (ns : List (Linked T)) → AllByRecursion P ns → AllByRecursion P (filter p ns)
  all-filter P p [] all = tt
  all-filter P p (n ∷ ns) all =
      elim (cases_Bool (p n)) [
        | inl kept ↦ subst (AllByRecursion P) (sym (ap (λ b. cond b (n ∷ filter p ns) (filter p ns)) kept)) (all.0, all-filter P p ns all.1)
        | inr gone ↦ subst (AllByRecursion P) (sym (ap (λ b. cond b (n ∷ filter p ns) (filter p ns)) gone)) (all-filter P p ns all.1)
      ]

  pub absent-is : (link : ℕ) (ns : List (Linked T)) → AllByRecursion (λ n. n.link ≢ link) ns → IsAbsent link ns
  absent-is link [] all = tt
  absent-is link (n ∷ ns) all = (all.0, absent-is link ns all.1)

  abbrev pub keeps : ℕ → Linked T → Bool
  keeps link node = not (is_at link node)

module _ {T : Type 0} (place : T → ℕ) where
  abbrev put : Linked T → List (Linked T) → List (Linked T)
  put new ns = put_by_place place new ns

  -- one step of a put
  passes : (new n : Linked T) (ns : List (Linked T)) → ltb (place n.item) (place new.item) ≡ true → put new (n ∷ ns) ≡ n ∷ put new ns
  passes new n ns before = ap (λ b. cond b (n ∷ put new ns) (new ∷ n ∷ ns)) before

  stops : (new n : Linked T) (ns : List (Linked T)) → ltb (place n.item) (place new.item) ≡ false → put new (n ∷ ns) ≡ new ∷ n ∷ ns
  stops new n ns behind = ap (λ b. cond b (n ∷ put new ns) (new ∷ n ∷ ns)) behind

  -- what holds of the new item and of the others holds of all
  pub put-all : (P : Linked T → Type 0) (new : Linked T) (ns : List (Linked T)) → P new → AllByRecursion P ns → AllByRecursion P (put new ns)
  put-all P new [] one all = (one, tt)
  put-all P new (n ∷ ns) one all =
      elim (cases_Bool (ltb (place n.item) (place new.item))) [
        | inl before ↦ subst (AllByRecursion P) (sym (passes new n ns before)) (all.0, put-all P new ns one all.1)
        | inr behind ↦ subst (AllByRecursion P) (sym (stops new n ns behind)) (one, all)
      ]

  -- and the other way round
  pub put-parts : (P : Linked T → Type 0) (new : Linked T) (ns : List (Linked T)) → AllByRecursion P (put new ns) → P new × AllByRecursion P ns
  put-parts P new [] all = (all.0, tt)
  put-parts P new (n ∷ ns) all =
      elim (cases_Bool (ltb (place n.item) (place new.item))) [
        | inl before ↦
            let parts = subst (AllByRecursion P) (passes new n ns before) all in
            let rest = put-parts P new ns parts.1 in (rest.0, (parts.0, rest.1))
        | inr behind ↦ subst (AllByRecursion P) (stops new n ns behind) all
      ]

  pub put-absent : (link : ℕ) (new : Linked T) (ns : List (Linked T)) → new.link ≢ link → IsAbsent link ns → IsAbsent link (put new ns)
  put-absent link new [] differs absent = (differs, tt)
  put-absent link new (n ∷ ns) differs absent =
      elim (cases_Bool (ltb (place n.item) (place new.item))) [
        | inl before ↦ subst (IsAbsent link) (sym (passes new n ns before)) (absent.0, put-absent link new ns differs absent.1)
        | inr behind ↦ subst (IsAbsent link) (sym (stops new n ns behind)) (differs, absent)
      ]

  pub put-apart : (new : Linked T) (ns : List (Linked T)) → IsAbsent new.link ns → AreApart ns → AreApart (put new ns)
  put-apart new [] absent apart = (tt, tt)
  put-apart new (n ∷ ns) absent apart =
      elim (cases_Bool (ltb (place n.item) (place new.item))) [
        | inl before ↦
            subst (λ ms. AreApart ms) (sym (passes new n ns before)) (put-absent n.link new ns (λ same. absent.0 (sym same)) apart.0, put-apart new ns absent.1 apart.1)
        | inr behind ↦ subst (λ ms. AreApart ms) (sym (stops new n ns behind)) (absent, apart)
      ]

  -- the places do not fall
  abbrev pub Rise : List (Linked T) → Type 0
  Rise [] = Unit {0}
  Rise (n ∷ ns) = AllByRecursion (λ m. place n.item ≤ place m.item) ns × Rise ns

  lower : (a b : ℕ) (ns : List (Linked T)) → a ≤ b → AllByRecursion (λ m. b ≤ place m.item) ns → AllByRecursion (λ m. a ≤ place m.item) ns
  lower a b [] most all = tt
  lower a b (n ∷ ns) most all = (omega (arith, all.0), lower a b ns most all.1)

  pub put-rises : (new : Linked T) (ns : List (Linked T)) → Rise ns → Rise (put new ns)
  put-rises new [] rise = (tt, tt)
  put-rises new (n ∷ ns) rise =
      elim (cases_Bool (ltb (place n.item) (place new.item))) [
        | inl before ↦
            subst (λ ms. Rise ms) (sym (passes new n ns before))
            (put-all (λ m. place n.item ≤ place m.item) new ns (omega (arith, ltb-true (place n.item) (place new.item) before)) rise.0, put-rises new ns rise.1)
        | inr behind ↦
            let most = at-least (place n.item) (place new.item) behind in
            subst (λ ms. Rise ms) (sym (stops new n ns behind)) ((most, lower (place new.item) (place n.item) ns most rise.0), rise)
      ]

  -- an item whose place is behind all others is put at the end, and one in front of all at the front
  pub put-last : (new : Linked T) (ns : List (Linked T)) → AllByRecursion (λ m. place m.item < place new.item) ns → put new ns ≡ ns ++ new ∷ []
  put-last new [] all = refl
  put-last new (n ∷ ns) all = passes new n ns (lt-ltb (place n.item) (place new.item) all.0) ∙ ap (λ ms. n ∷ ms) (put-last new ns all.1)

  put-first : (new : Linked T) (ns : List (Linked T)) → AllByRecursion (λ m. place new.item ≤ place m.item) ns → put new ns ≡ new ∷ ns
  put-first new [] all = refl
  put-first new (n ∷ ns) all = stops new n ns (not-below (place n.item) (place new.item) all.0)

  -- one that is put in before the last was there
  pub put-before-last : (new last : Linked T) (ns : List (Linked T)) → place new.item < place last.item → put new (ns ++ last ∷ []) ≡ put new ns ++ last ∷ []
  put-before-last new last [] less = stops new last [] (not-below (place last.item) (place new.item) (omega (arith, less)))
  put-before-last new last (n ∷ ns) less =
      elim (cases_Bool (ltb (place n.item) (place new.item))) [
        | inl before ↦
            passes new n (ns ++ last ∷ []) before ∙ ap (λ ms. n ∷ ms) (put-before-last new last ns less)
            ∙ sym (ap (λ ms. ms ++ last ∷ []) (passes new n ns before))
        | inr behind ↦ stops new n (ns ++ last ∷ []) behind ∙ sym (ap (λ ms. ms ++ last ∷ []) (stops new n ns behind))
      ]

  -- one that is put in and taken out again
  pub filter-put-gone : (new : Linked T) (ns : List (Linked T)) → filter (λ n. not (is_at new.link n)) (put new ns) ≡ filter (λ n. not (is_at new.link n)) ns
  filter-put-gone new [] = ap (λ b. cond (not b) (new ∷ []) []) (eq-eqb new.link new.link refl)
  filter-put-gone new (n ∷ ns) =
      let f : List (Linked T) → List (Linked T) = filter (keeps new.link) in
      elim (cases_Bool (ltb (place n.item) (place new.item))) [
        | inl before ↦ ap f (passes new n ns before) ∙ ap (λ ms. cond (keeps new.link n) (n ∷ ms) ms) (filter-put-gone new ns)
        | inr behind ↦ ap f (stops new n ns behind) ∙ ap (λ b. cond (not b) (new ∷ f (n ∷ ns)) (f (n ∷ ns))) (eq-eqb new.link new.link refl)
      ]

  -- one that is put in before another is taken out
  pub filter-put : (link : ℕ) (new : Linked T) (ns : List (Linked T)) → new.link ≢ link → Rise ns
      → filter (λ n. not (is_at link n)) (put new ns) ≡ put new (filter (λ n. not (is_at link n)) ns)
  filter-put link new [] differs rise = ap (λ b. cond (not b) (new ∷ []) []) (ne_eqb new.link link differs)
  filter-put link new (n ∷ ns) differs rise =
      let f : List (Linked T) → List (Linked T) = filter (keeps link) in
      elim (cases_Bool (ltb (place n.item) (place new.item))) [
        | inl before ↦
            ap f (passes new n ns before) ∙ ap (λ ms. cond (keeps link n) (n ∷ ms) ms) (filter-put link new ns differs rise.1)
            ∙ elim (cases_Bool (keeps link n)) [
              | inl kept ↦
                  ap (λ b. cond b (n ∷ put new (f ns)) (put new (f ns))) kept ∙ sym (passes new n (f ns) before)
                  ∙ sym (ap (λ b. put new (cond b (n ∷ f ns) (f ns))) kept)
              | inr gone ↦ ap (λ b. cond b (n ∷ put new (f ns)) (put new (f ns))) gone ∙ sym (ap (λ b. put new (cond b (n ∷ f ns) (f ns))) gone)
            ]
        | inr behind ↦
            let most = at-least (place n.item) (place new.item) behind in
            ap f (stops new n ns behind) ∙ ap (λ b. cond (not b) (new ∷ f (n ∷ ns)) (f (n ∷ ns))) (ne_eqb new.link link differs)
            ∙ sym (put-first new (f (n ∷ ns)) (all-filter (λ m. place new.item ≤ place m.item) (keeps link) (n ∷ ns) (most, lower (place new.item) (place n.item) ns most rise.0)))
      ]

  -- one that is put in before an item is changed, which keeps its place
  pub map-put : (f : Linked T → Linked T) (new : Linked T) (ns : List (Linked T)) → place (f new).item ≡ place new.item → AllByRecursion (λ m. place (f m).item ≡ place m.item) ns
      → map f (put new ns) ≡ put (f new) (map f ns)
  map-put f new [] same all = refl
  map-put f new (n ∷ ns) same all =
      let test : ltb (place (f n).item) (place (f new).item) ≡ ltb (place n.item) (place new.item) = ap (λ p. ltb p (place (f new).item)) all.0 ∙ ap (ltb (place n.item)) same in
      elim (cases_Bool (ltb (place n.item) (place new.item))) [
        | inl before ↦
            ap (map f) (passes new n ns before) ∙ ap (λ ms. f n ∷ ms) (map-put f new ns same all.1) ∙ sym (passes (f new) (f n) (map f ns) (test ∙ before))
        | inr behind ↦ ap (map f) (stops new n ns behind) ∙ sym (stops (f new) (f n) (map f ns) (test ∙ behind))
      ]
