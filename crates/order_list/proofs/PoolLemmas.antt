-- The list of a pool's items by place: what stands in it, and how it changes with one item.
use Rattle.std.proofs.Common.{◌≡◌, ◌≢◌, ℕ, zero, suc, ◌<◌, ◌≤◌, cond, not, List, [], ◌∷◌, ◌++◌, map, Option, Some, None, refl, sym, ◌∙◌, ap, inl, inr, arith}
use Rattle.std.specs.List.{AllByRecursion, filter}
use Rattle.std.proofs.lemmas.Bool.{cases_eq, cases_lt, eq-eqb, ne_eqb}
use Rattle.order_list.specs.Lists.{Linked, is_at, item_at}
use Rattle.order_list.specs.Links.{AreApart, IsAbsent}
use Rattle.order_list.specs.Pool.{by_place, with_kept}
use Rattle.order_list.specs.declared.kept.Kept.{Kept}
use Rattle.order_list.proofs.ListLemmas.{filter-absent, item_at-absent}
use Rattle.order_list.proofs.PlaceLemmas.{Rise, absent-is, filter-put, filter-put-gone, map-put, put-all, put-apart, put-before-last, put-last, put-parts, put-rises}

module _ {T : Type 0} (place : T → ℕ) where
  all-with : (P : Linked T → Type 0) (key : ℕ) (o : Option (Kept T)) (ns : List (Linked T)) → ((kept : Kept T) → o ≡ Some kept → P (record { link = key; item = kept.item }))
      → AllByRecursion P ns → AllByRecursion P (with_kept place key o ns)
  all-with P key None ns each all = all
  all-with P key (Some kept) ns each all = put-all place P (record { link = key; item = kept.item }) ns (each kept refl) all

  -- what holds of each item that is kept holds of all in the list
  pub all-kept : (P : Linked T → Type 0) (cells : ℕ → Option (Kept T)) (n : ℕ) → ((key : ℕ) (kept : Kept T) → key < n → cells key ≡ Some kept → P (record { link = key; item = kept.item }))
      → AllByRecursion P (by_place place cells n)
  all-kept P cells zero each = tt
  all-kept P cells (suc n) each =
      all-with P n (cells n) (by_place place cells n) (λ kept is. each n kept (omega arith) is)
      (all-kept P cells n (λ key kept less is. each key kept (omega (arith, less)) is))

  -- each is kept under its link
  pub are-kept : (cells : ℕ → Option (Kept T)) (n : ℕ) → AllByRecursion (λ m. cells m.link ≡ Some (record { item = m.item })) (by_place place cells n)
  are-kept cells n = all-kept (λ m. cells m.link ≡ Some (record { item = m.item })) cells n (λ key kept less is. is)

  -- a key from that number on is in no such list, and no more is one under which nothing is kept
  past-absent : (cells : ℕ → Option (Kept T)) (n key : ℕ) → n ≤ key → IsAbsent key (by_place place cells n)
  past-absent cells n key past =
      absent-is key (by_place place cells n) (all-kept (λ m. m.link ≢ key) cells n (λ other kept less is. λ same. absurd (omega (arith, same, less, past))))

  pub vacant-absent : (cells : ℕ → Option (Kept T)) (n key : ℕ) → cells key ≡ None → IsAbsent key (by_place place cells n)
  vacant-absent cells n key vacant =
      absent-is key (by_place place cells n)
      (all-kept (λ m. m.link ≢ key) cells n
      (λ other kept less is. λ same. let none : Path (Option (Kept T)) None (Some kept) = sym vacant ∙ ap cells (sym same) ∙ is in cc))

  with-apart : (key : ℕ) (o : Option (Kept T)) (ns : List (Linked T)) → IsAbsent key ns → AreApart ns → AreApart (with_kept place key o ns)
  with-apart key None ns absent apart = apart
  with-apart key (Some kept) ns absent apart = put-apart place (record { link = key; item = kept.item }) ns absent apart

  -- no link stands twice
  pub links-apart : (cells : ℕ → Option (Kept T)) (n : ℕ) → AreApart (by_place place cells n)
  links-apart cells zero = tt
  links-apart cells (suc n) = with-apart n (cells n) (by_place place cells n) (past-absent cells n n (omega arith)) (links-apart cells n)

  with-rises : (key : ℕ) (o : Option (Kept T)) (ns : List (Linked T)) → Rise place ns → Rise place (with_kept place key o ns)
  with-rises key None ns rise = rise
  with-rises key (Some kept) ns rise = put-rises place (record { link = key; item = kept.item }) ns rise

  -- the places do not fall
  rises : (cells : ℕ → Option (Kept T)) (n : ℕ) → Rise place (by_place place cells n)
  rises cells zero = tt
  rises cells (suc n) = with-rises n (cells n) (by_place place cells n) (rises cells n)

  with-rest : (P : Linked T → Type 0) (key : ℕ) (o : Option (Kept T)) (ns : List (Linked T)) → AllByRecursion P (with_kept place key o ns) → AllByRecursion P ns
  with-rest P key None ns all = all
  with-rest P key (Some kept) ns all = (put-parts place P (record { link = key; item = kept.item }) ns all).1

  -- what is kept under a key, beside an item that is behind all others
  with-before : (key : ℕ) (last : Linked T) (o : Option (Kept T)) (ns : List (Linked T)) → AllByRecursion (λ m. place m.item < place last.item) (with_kept place key o ns)
      → with_kept place key o (ns ++ last ∷ []) ≡ with_kept place key o ns ++ last ∷ []
  with-before key last None ns all = refl
  with-before key last (Some kept) ns all =
      let new : Linked T = record { link = key; item = kept.item } in
      put-before-last place new last ns (put-parts place (λ m. place m.item < place last.item) new ns all).0

  -- beside the item under another key, which is taken out, and under its own
  with-gone : (key : ℕ) (o : Option (Kept T)) (ns : List (Linked T)) → filter (λ m. not (is_at key m)) (with_kept place key o ns) ≡ filter (λ m. not (is_at key m)) ns
  with-gone key None ns = refl
  with-gone key (Some kept) ns = filter-put-gone place (record { link = key; item = kept.item }) ns

  with-other : (key other : ℕ) (o : Option (Kept T)) (ns : List (Linked T)) → other ≢ key → Rise place ns
      → filter (λ m. not (is_at key m)) (with_kept place other o ns) ≡ with_kept place other o (filter (λ m. not (is_at key m)) ns)
  with-other key other None ns differs rise = refl
  with-other key other (Some kept) ns differs rise = filter-put place key (record { link = other; item = kept.item }) ns differs rise

  -- beside the item under another key, in whose place another stands then
  with-changed : (key other : ℕ) (item : T) (o : Option (Kept T)) (ns : List (Linked T)) → other ≢ key → AllByRecursion (λ m. place (item_at key item m).item ≡ place m.item) ns
      → map (item_at key item) (with_kept place other o ns) ≡ with_kept place other o (map (item_at key item) ns)
  with-changed key other item None ns differs all = refl
  with-changed key other item (Some kept) ns differs all =
      let new : Linked T = record { link = other; item = kept.item } in
      let same : item_at key item new ≡ new = ap (λ b. record { link = other; item = cond b item kept.item }) (ne_eqb other key differs) in
      map-put place (item_at key item) new ns (ap (λ (m : Linked T). place m.item) same) all
      ∙ ap (λ m. with_kept place m.link (Some (record { item = m.item })) (map (item_at key item) ns)) same

  -- the list depends on what is kept under the keys below that number alone
  pub same-kept : (cells cells' : ℕ → Option (Kept T)) (n : ℕ) → ((key : ℕ) → key < n → cells' key ≡ cells key) → by_place place cells' n ≡ by_place place cells n
  same-kept cells cells' zero same = refl
  same-kept cells cells' (suc n) same =
      ap (λ o. with_kept place n o (by_place place cells' n)) (same n (omega arith))
      ∙ ap (with_kept place n (cells n)) (same-kept cells cells' n (λ key less. same key (omega (arith, less))))

  -- and not on keys under which nothing is kept
  pub more-keys : (cells : ℕ → Option (Kept T)) (low n : ℕ) → low ≤ n → ((key : ℕ) → low ≤ key → cells key ≡ None) → by_place place cells n ≡ by_place place cells low
  more-keys cells low zero most none = let same : zero ≡ low = omega (arith, most) in ap (by_place place cells) same
  more-keys cells low (suc n) most none =
      elim (cases_lt n low) [
        | inl less ↦ let same : suc n ≡ low = omega (arith, most, less) in ap (by_place place cells) same
        | inr past ↦ ap (λ o. with_kept place n o (by_place place cells n)) (none n past) ∙ more-keys cells low n past none
      ]

  module _ (cells cells' : ℕ → Option (Kept T)) (key : ℕ) (others : (other : ℕ) → other ≢ key → cells' other ≡ cells other) where
    -- keys below the one that changes
    below : (n : ℕ) → n ≤ key → by_place place cells' n ≡ by_place place cells n
    below n most = same-kept cells cells' n (λ other less. others other (λ same. absurd (omega (arith, same, less, most))))

    -- an item more, behind all others
    pub list-added : (kept : Kept T) (n : ℕ) → key < n → cells key ≡ None → cells' key ≡ Some kept
        → AllByRecursion (λ m. place m.item < place kept.item) (by_place place cells n)
        → by_place place cells' n ≡ by_place place cells n ++ record { link = key; item = kept.item } ∷ []
    list-added kept zero less vacant is last = absurd (omega (arith, less))
    list-added kept (suc n) less vacant is last =
        let new : Linked T = record { link = key; item = kept.item } in
        let ns = by_place place cells n in
        let P : Linked T → Type 0 = λ m. place m.item < place kept.item in
        elim (cases_eq n key) [
          | inl same ↦
              ap (λ o. with_kept place n o (by_place place cells' n)) (ap cells' same ∙ is)
              ∙ ap (with_kept place n (Some kept)) (below n (omega (arith, same)))
              ∙ put-last place (record { link = n; item = kept.item }) ns (with-rest P n (cells n) ns last)
              ∙ ap (λ k. ns ++ record { link = k; item = kept.item } ∷ []) same
              ∙ sym (ap (λ o. with_kept place n o ns ++ new ∷ []) (ap cells same ∙ vacant))
          | inr differs ↦
              ap (λ o. with_kept place n o (by_place place cells' n)) (others n differs)
              ∙ ap (with_kept place n (cells n)) (list-added kept n (omega (arith, less, differs)) vacant is (with-rest P n (cells n) ns last))
              ∙ with-before n new (cells n) ns last
        ]

    -- an item less
    pub list-without : (n : ℕ) → cells' key ≡ None → by_place place cells' n ≡ filter (λ m. not (is_at key m)) (by_place place cells n)
    list-without zero gone = refl
    list-without (suc n) gone =
        let ns = by_place place cells n in
        let f : List (Linked T) → List (Linked T) = filter (λ m. not (is_at key m)) in
        elim (cases_eq n key) [
          | inl same ↦
              ap (λ o. with_kept place n o (by_place place cells' n)) (ap cells' same ∙ gone) ∙ below n (omega (arith, same))
              ∙ sym (filter-absent key ns (past-absent cells n key (omega (arith, same))))
              ∙ sym (ap (λ k. f (with_kept place k (cells n) ns)) same ∙ with-gone key (cells n) ns)
          | inr differs ↦
              ap (λ o. with_kept place n o (by_place place cells' n)) (others n differs) ∙ ap (with_kept place n (cells n)) (list-without n gone)
              ∙ sym (with-other key n (cells n) ns differs (rises cells n))
        ]

    -- another item of the same place in the stead of one
    module _ (old new : T) (was : cells key ≡ Some (record { item = old })) (is : cells' key ≡ Some (record { item = new })) (same_place : place new ≡ place old) where
      pub places-stay : (n : ℕ) → AllByRecursion (λ m. place (item_at key new m).item ≡ place m.item) (by_place place cells n)
      places-stay n =
          all-kept (λ m. place (item_at key new m).item ≡ place m.item) cells n
          (λ other kept less there.
          elim (cases_eq other key) [
            | inl same ↦
                let both : Path (Option (Kept T)) (Some (record { item = old })) (Some kept) = sym was ∙ sym (ap cells same) ∙ there in
                let item : old ≡ kept.item = cc in
                ap (λ b. place (cond b new kept.item)) (eq-eqb other key same) ∙ same_place ∙ ap place item
            | inr differs ↦ ap (λ b. place (cond b new kept.item)) (ne_eqb other key differs)
          ])

      pub list-changed : (n : ℕ) → by_place place cells' n ≡ map (item_at key new) (by_place place cells n)
      list-changed zero = refl
      list-changed (suc n) =
          let ns = by_place place cells n in
          let f : List (Linked T) → List (Linked T) = map (item_at key new) in
          elim (cases_eq n key) [
            | inl same ↦
                let here : Linked T = record { link = n; item = old } in
                let there : item_at key new here ≡ record { link = n; item = new } = ap (λ b. record { link = n; item = cond b new old }) (eq-eqb n key same) in
                let absent = past-absent cells n key (omega (arith, same)) in
                ap (λ o. with_kept place n o (by_place place cells' n)) (ap cells' same ∙ is) ∙ ap (with_kept place n (Some (record { item = new }))) (below n (omega (arith, same)))
                ∙ sym
                (ap (λ o. f (with_kept place n o ns)) (ap cells same ∙ was)
                ∙ map-put place (item_at key new) here ns (ap (λ (m : Linked T). place m.item) there ∙ same_place) (places-stay n)
                ∙ ap (λ m. with_kept place m.link (Some (record { item = m.item })) (f ns)) there
                ∙ ap (with_kept place n (Some (record { item = new }))) (item_at-absent key new ns absent))
            | inr differs ↦
                ap (λ o. with_kept place n o (by_place place cells' n)) (others n differs) ∙ ap (with_kept place n (cells n)) (list-changed n)
                ∙ sym (with-changed key n new (cells n) ns differs (places-stay n))
          ]
