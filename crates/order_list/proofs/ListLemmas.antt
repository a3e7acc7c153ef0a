-- What the words on lists do where a link is, and where it is not.
use Rattle.std.proofs.Common.{◌≡◌, ◌≢◌, ℕ, suc, ◌+◌, ◌<◌, ◌≤◌, Bool, true, false, cond, not, List, [], ◌∷◌, ◌++◌, length, map, set, drop, Option, Some, None, option_map, refl, sym, ◌∙◌, ap, subst, inl, inr, arith}
use Rattle.std.specs.List.{All, AllPairs, after_first, filter, find, prefix_len, sum_by}
use Rattle.std.proofs.lemmas.List.Elements.{All-cons, All-nil}
use Rattle.std.proofs.lemmas.List.Kept.{AllPairs-cons}
use Rattle.std.proofs.lemmas.Bool.{cases_Bool, cases_eq, eq-eqb, eqb-true, ne_eqb}
use Rattle.std.proofs.lemmas.List.{ext_get_or, get_or-map, get_or-set_other, get_or-set_same, length-map, length-set}
use Rattle.std.proofs.lemmas.List.Sums.{get_or-le-sum_by, sum_by-set}
use Rattle.order_list.specs.Lists.{Linked, is_at, item_at, list_at, put_before}
use Rattle.order_list.specs.Links.{AreApart, IsAbsent}

module _ {T : Type 0} where
  -- where a search by link ends, the list is cut
  pub record IsSplit (nodes : List (Linked T)) (link : ℕ) (node : Linked T) : Type 0 where
    pub xs : List (Linked T)
    pub ys : List (Linked T)
    pub is : nodes ≡ xs ++ node ∷ ys
    pub named : node.link ≡ link

  pub split-at : (nodes : List (Linked T)) (link : ℕ) (node : Linked T) → find (is_at link) nodes ≡ Some node → IsSplit nodes link node
  split-at [] link node found = absurd (cc)
  split-at (x ∷ nodes) link node found =
      elim (cases_Bool (is_at link x)) [
        | inl here ↦
            let same : Path (Option (Linked T)) (Some x) (Some node) = sym (ap (λ b. cond b (Some x) (find (is_at link) nodes)) here) ∙ found in
            let is : x ≡ node = cc in
            record { xs = []; ys = nodes; is = ap (λ n. n ∷ nodes) is; named = subst (λ (n : Linked T). n.link ≡ link) is (eqb-true x.link link here) }
        | inr elsewhere ↦
            let rest = split-at nodes link node (sym (ap (λ b. cond b (Some x) (find (is_at link) nodes)) elsewhere) ∙ found) in
            record { xs = x ∷ rest.xs; ys = rest.ys; is = ap (λ ns. x ∷ ns) rest.is; named = rest.named }
      ]

  not-at : (link : ℕ) (x : Linked T) → x.link ≢ link → is_at link x ≡ false
  not-at link x differs = ne_eqb x.link link differs

  at : (link : ℕ) (x : Linked T) → x.link ≡ link → is_at link x ≡ true
  at link x same = eq-eqb x.link link same

  pub find-absent : (link : ℕ) (nodes : List (Linked T)) → IsAbsent link nodes → find (is_at link) nodes ≡ None
  find-absent link [] absent = refl
  find-absent link (x ∷ nodes) absent = ap (λ b. cond b (Some x) (find (is_at link) nodes)) (not-at link x absent.0) ∙ find-absent link nodes absent.1

  pub find-at : (link : ℕ) (xs : List (Linked T)) (node : Linked T) (ys : List (Linked T)) → IsAbsent link xs → node.link ≡ link
      → find (is_at link) (xs ++ node ∷ ys) ≡ Some node
  find-at link [] node ys absent named = ap (λ b. cond b (Some node) (find (is_at link) ys)) (at link node named)
  find-at link (x ∷ xs) node ys absent named =
      ap (λ b. cond b (Some x) (find (is_at link) (xs ++ node ∷ ys))) (not-at link x absent.0) ∙ find-at link xs node ys absent.1 named

  abbrev keeps : ℕ → Linked T → Bool
  keeps link node = not (is_at link node)

  pub filter-absent : (link : ℕ) (nodes : List (Linked T)) → IsAbsent link nodes → filter (λ node. not (is_at link node)) nodes ≡ nodes
  filter-absent link [] absent = refl
  filter-absent link (x ∷ nodes) absent =
      let rest = filter (keeps link) nodes in
      ap (λ b. cond (not b) (x ∷ rest) rest) (not-at link x absent.0) ∙ ap (λ ns. x ∷ ns) (filter-absent link nodes absent.1)

  pub filter-at : (link : ℕ) (xs : List (Linked T)) (node : Linked T) (ys : List (Linked T)) → IsAbsent link xs → IsAbsent link ys → node.link ≡ link
      → filter (λ node. not (is_at link node)) (xs ++ node ∷ ys) ≡ xs ++ ys
  filter-at link [] node ys before after named =
      let rest = filter (keeps link) ys in
      ap (λ b. cond (not b) (node ∷ rest) rest) (at link node named) ∙ filter-absent link ys after
  filter-at link (x ∷ xs) node ys before after named =
      let rest = filter (keeps link) (xs ++ node ∷ ys) in
      ap (λ b. cond (not b) (x ∷ rest) rest) (not-at link x before.0) ∙ ap (λ ns. x ∷ ns) (filter-at link xs node ys before.1 after named)

  pub put_before-absent : (link : ℕ) (new : Linked T) (nodes : List (Linked T)) → IsAbsent link nodes → put_before link new nodes ≡ nodes
  put_before-absent link new [] absent = refl
  put_before-absent link new (x ∷ nodes) absent =
      ap (λ b. cond b (new ∷ x ∷ nodes) (x ∷ put_before link new nodes)) (not-at link x absent.0) ∙ ap (λ ns. x ∷ ns) (put_before-absent link new nodes absent.1)

  pub put_before-at : (link : ℕ) (new : Linked T) (xs : List (Linked T)) (node : Linked T) (ys : List (Linked T)) → IsAbsent link xs → node.link ≡ link
      → put_before link new (xs ++ node ∷ ys) ≡ xs ++ new ∷ node ∷ ys
  put_before-at link new [] node ys before named =
      ap (λ b. cond b (new ∷ node ∷ ys) (node ∷ put_before link new ys)) (at link node named)
  put_before-at link new (x ∷ xs) node ys before named =
      ap (λ b. cond b (new ∷ x ∷ (xs ++ node ∷ ys)) (x ∷ put_before link new (xs ++ node ∷ ys))) (not-at link x before.0)
      ∙ ap (λ ns. x ∷ ns) (put_before-at link new xs node ys before.1 named)

  pub item_at-absent : (link : ℕ) (item : T) (nodes : List (Linked T)) → IsAbsent link nodes → map (item_at link item) nodes ≡ nodes
  item_at-absent link item [] absent = refl
  item_at-absent link item (x ∷ nodes) absent =
      let same : item_at link item x ≡ x = ap (λ b. record { link = x.link; item = cond b item x.item }) (not-at link x absent.0) in
      ap (λ n. n ∷ map (item_at link item) nodes) same ∙ ap (λ ns. x ∷ ns) (item_at-absent link item nodes absent.1)

  pub item_at-at : (link : ℕ) (item : T) (xs : List (Linked T)) (node : Linked T) (ys : List (Linked T)) → IsAbsent link xs → IsAbsent link ys → node.link ≡ link
      → map (item_at link item) (xs ++ node ∷ ys) ≡ xs ++ record node { item = item } ∷ ys
  item_at-at link item [] node ys before after named =
      let new : item_at link item node ≡ record node { item = item } = ap (λ b. record { link = node.link; item = cond b item node.item }) (at link node named) in
      ap (λ n. n ∷ map (item_at link item) ys) new ∙ ap (λ ns. record node { item = item } ∷ ns) (item_at-absent link item ys after)
  item_at-at link item (x ∷ xs) node ys before after named =
      let same : item_at link item x ≡ x = ap (λ b. record { link = x.link; item = cond b item x.item }) (not-at link x before.0) in
      ap (λ n. n ∷ map (item_at link item) (xs ++ node ∷ ys)) same ∙ ap (λ ns. x ∷ ns) (item_at-at link item xs node ys before.1 after named)

  -- a change of all lists that leaves each but one is a change of that one
  pub map-one : (f : List (Linked T) → List (Linked T)) (lists : List (List (Linked T))) (list : ℕ) (new : List (Linked T)) → list < length lists
      → f (list_at lists list) ≡ new → ((j : ℕ) → j ≢ list → j < length lists → f (list_at lists j) ≡ list_at lists j)
      → map f lists ≡ set lists list new
  map-one f lists list new within here there =
      ext_get_or [] (map f lists) (set lists list new) (length-map lists f ∙ sym (length-set lists list new))
      (λ j less.
      let inside : j < length lists = omega (arith, length-map lists f) in
      elim (cases_eq j list) [
        | inl is ↦
            get_or-map f lists j [] [] inside ∙ ap (λ i. f (list_at lists i)) is ∙ here ∙ sym (get_or-set_same lists list new [] within)
            ∙ ap (list_at (set lists list new)) (sym is)
        | inr differs ↦ get_or-map f lists j [] [] inside ∙ there j differs inside ∙ sym (get_or-set_other lists list j new [] differs)
      ])

  -- how many items all lists have
  abbrev pub total : List (List (Linked T)) → ℕ
  total lists = sum_by length lists

  pub length-within : (lists : List (List (Linked T))) (list : ℕ) → list < length lists → length (list_at lists list) ≤ total lists
  length-within lists list within = get_or-le-sum_by length lists list [] within

  pub total-set : (lists : List (List (Linked T))) (list : ℕ) (new : List (Linked T)) → list < length lists
      → total (set lists list new) + length (list_at lists list) ≡ total lists + length new
  total-set lists list new within = sum_by-set length lists list new [] within

  pub length-middle : (xs : List (Linked T)) (node : Linked T) (ys : List (Linked T)) → length (xs ++ node ∷ ys) ≡ suc (length (xs ++ ys))
  length-middle [] node ys = refl
  length-middle (x ∷ xs) node ys = ap suc (length-middle xs node ys)

  -- what stands after the item that a link names
  pub after_first-at : (link : ℕ) (xs : List (Linked T)) (node : Linked T) (ys : List (Linked T)) → IsAbsent link xs → node.link ≡ link
      → after_first (is_at link) (xs ++ node ∷ ys) ≡ ys
  after_first-at link [] node ys absent named =
      ap (λ b. drop (cond (not b) (1 + prefix_len (keeps link) ys) 0 + 1) (node ∷ ys)) (at link node named)
  after_first-at link (x ∷ xs) node ys absent named =
      let n = prefix_len (keeps link) (xs ++ node ∷ ys) in
      let count : 1 + n + 1 ≡ suc (n + 1) = omega arith in
      ap (λ b. drop (cond (not b) (1 + n) 0 + 1) (x ∷ (xs ++ node ∷ ys))) (not-at link x absent.0)
      ∙ ap (λ m. drop m (x ∷ (xs ++ node ∷ ys))) count ∙ after_first-at link xs node ys absent.1 named

  -- each link differs from those after it
  pub apart-pairs : (nodes : List (Linked T)) → AreApart nodes → AllPairs (λ m n. m.link ≢ n.link) nodes
  apart-pairs [] apart = λ i j d less inside. absurd (omega arith)
  apart-pairs (x ∷ nodes) apart = AllPairs-cons (λ (m : Linked T) (n : Linked T). m.link ≢ n.link) x nodes (all-differ x nodes apart.0) (apart-pairs nodes apart.1)
    where
      all-differ : (x : Linked T) (nodes : List (Linked T)) → IsAbsent x.link nodes → All (λ n. x.link ≢ n.link) nodes
      all-differ x [] absent = All-nil (λ (n : Linked T). x.link ≢ n.link)
      all-differ x (n ∷ nodes) absent =
          All-cons (λ (n : Linked T). x.link ≢ n.link) n nodes (λ same. absent.0 (sym same)) (all-differ x nodes absent.1)

  -- what a search finds at the front it finds in the whole
  pub find-front : (link : ℕ) (xs ys : List (Linked T)) (node : Linked T) → find (is_at link) xs ≡ Some node → find (is_at link) (xs ++ ys) ≡ Some node
  find-front link [] ys node found = absurd (cc)
  find-front link (x ∷ xs) ys node found =
      elim (cases_Bool (is_at link x)) [
        | inl here ↦
            ap (λ b. cond b (Some x) (find (is_at link) (xs ++ ys))) here ∙ sym (ap (λ b. cond b (Some x) (find (is_at link) xs)) here) ∙ found
        | inr elsewhere ↦
            ap (λ b. cond b (Some x) (find (is_at link) (xs ++ ys))) elsewhere
            ∙ find-front link xs ys node (sym (ap (λ b. cond b (Some x) (find (is_at link) xs)) elsewhere) ∙ found)
      ]

  -- another link than the one that is taken out
  pub find-filter : (link other : ℕ) → other ≢ link → (nodes : List (Linked T)) → find (is_at other) (filter (λ node. not (is_at link node)) nodes) ≡ find (is_at other) nodes
  find-filter link other differs [] = refl
  find-filter link other differs (x ∷ nodes) =
      let rest = filter (keeps link) nodes in
      elim (cases_eq x.link link) [
        | inl here ↦
            ap (λ b. find (is_at other) (cond (not b) (x ∷ rest) rest)) (at link x here) ∙ find-filter link other differs nodes
            ∙ sym (ap (λ b. cond b (Some x) (find (is_at other) nodes)) (not-at other x (λ same. differs (sym same ∙ here))))
        | inr elsewhere ↦
            ap (λ b. find (is_at other) (cond (not b) (x ∷ rest) rest)) (not-at link x elsewhere)
            ∙ ap (λ o. cond (is_at other x) (Some x) o) (find-filter link other differs nodes)
      ]

  -- the link that is taken out is in no list
  pub find-gone : (link : ℕ) (nodes : List (Linked T)) → find (is_at link) (filter (λ node. not (is_at link node)) nodes) ≡ None
  find-gone link [] = refl
  find-gone link (x ∷ nodes) =
      let rest = filter (keeps link) nodes in
      elim (cases_eq x.link link) [
        | inl here ↦ ap (λ b. find (is_at link) (cond (not b) (x ∷ rest) rest)) (at link x here) ∙ find-gone link nodes
        | inr elsewhere ↦
            ap (λ b. find (is_at link) (cond (not b) (x ∷ rest) rest)) (not-at link x elsewhere)
            ∙ ap (λ b. cond b (Some x) (find (is_at link) rest)) (not-at link x elsewhere) ∙ find-gone link nodes
      ]

  -- another link than the one that is put in
  pub find-put_before : (link other : ℕ) (new : Linked T) → new.link ≢ other → (nodes : List (Linked T)) → find (is_at other) (put_before link new nodes) ≡ find (is_at other) nodes
  find-put_before link other new differs [] = refl
  find-put_before link other new differs (x ∷ nodes) =
      elim (cases_Bool (is_at link x)) [
        | inl here ↦
            ap (λ b. find (is_at other) (cond b (new ∷ x ∷ nodes) (x ∷ put_before link new nodes))) here
            ∙ ap (λ b. cond b (Some new) (find (is_at other) (x ∷ nodes))) (not-at other new differs)
        | inr elsewhere ↦
            ap (λ b. find (is_at other) (cond b (new ∷ x ∷ nodes) (x ∷ put_before link new nodes))) elsewhere
            ∙ ap (λ o. cond (is_at other x) (Some x) o) (find-put_before link other new differs nodes)
      ]

  -- a link keeps its node where an item is changed, but for that item
  pub find-item_at : (link other : ℕ) (item : T) (nodes : List (Linked T)) → find (is_at other) (map (item_at link item) nodes) ≡ option_map (item_at link item) (find (is_at other) nodes)
  find-item_at link other item [] = refl
  find-item_at link other item (x ∷ nodes) =
      elim (cases_Bool (is_at other x)) [
        | inl here ↦
            ap (λ b. cond b (Some (item_at link item x)) (find (is_at other) (map (item_at link item) nodes))) here
            ∙ sym (ap (λ b. option_map (item_at link item) (cond b (Some x) (find (is_at other) nodes))) here)
        | inr elsewhere ↦
            ap (λ b. cond b (Some (item_at link item x)) (find (is_at other) (map (item_at link item) nodes))) elsewhere
            ∙ find-item_at link other item nodes ∙ sym (ap (λ b. option_map (item_at link item) (cond b (Some x) (find (is_at other) nodes))) elsewhere)
      ]

  -- what is put before an item that is there is found
  pub find-new : (link : ℕ) (new : Linked T) (nodes : List (Linked T)) (node : Linked T) → find (is_at link) nodes ≡ Some node → IsAbsent new.link nodes
      → find (is_at new.link) (put_before link new nodes) ≡ Some new
  find-new link new [] node found absent = absurd (cc)
  find-new link new (x ∷ nodes) node found absent =
      elim (cases_Bool (is_at link x)) [
        | inl here ↦
            ap (λ b. find (is_at new.link) (cond b (new ∷ x ∷ nodes) (x ∷ put_before link new nodes))) here
            ∙ ap (λ b. cond b (Some new) (find (is_at new.link) (x ∷ nodes))) (at new.link new refl)
        | inr elsewhere ↦
            ap (λ b. find (is_at new.link) (cond b (new ∷ x ∷ nodes) (x ∷ put_before link new nodes))) elsewhere
            ∙ ap (λ b. cond b (Some x) (find (is_at new.link) (put_before link new nodes))) (not-at new.link x absent.0)
            ∙ find-new link new nodes node (sym (ap (λ b. cond b (Some x) (find (is_at link) nodes)) elsewhere) ∙ found) absent.1
      ]
