-- What each call makes of a pool.
use Rattle.std.proofs.Common.{◌≡◌, ◌≢◌, ℕ, zero, suc, ◌+◌, ◌-◌, ◌<◌, ◌≤◌, List, [], ◌∷◌, ◌++◌, length, map, get_or, Option, Some, None, IsSome, is_some, refl, sym, ◌∙◌, ap, subst, inl, inr, not, arith}
use Rattle.std.specs.List.{All, AllPairs, count_by, filter, find}
use Rattle.std.proofs.lemmas.Bool.{cases_eq}
use Rattle.std.proofs.lemmas.Grind.{common_steps}
use Rattle.std.proofs.lemmas.List.{get_or-map, length-map}
use Rattle.std.proofs.lemmas.List.Elements.{All-from_recursion, recursion_from_All}
use Rattle.std.proofs.lemmas.List.Kept.{AllPairs-filter}
use Rattle.std.proofs.lemmas.List.Quantifiers.{all_pairs_push}
use Rattle.slab.specs.Slab.{ContainsKey, Slab, Updates, get, slab_len, with_value}
use Rattle.slab.proofs.SlabLemmas.{ContainsKey-within, Updates-with_value}
use Rattle.order_list.specs.Lists.{AreLists, IsFresh, IsIn, IsLive, Linked, Lists, is_at, item_at, list_at, with_item, with_last, without}
use Rattle.order_list.specs.Links.{AreApart, IsAbsent}
use Rattle.order_list.specs.Pool.{IsPool, by_place, pooled}
use Rattle.order_list.specs.declared.kept.Kept.{Kept}
use Rattle.order_list.proofs.ListLemmas.{apart-pairs}
use Rattle.order_list.proofs.SegmentLemmas.{absent-all}
use Rattle.order_list.proofs.PlaceLemmas.{found-holds}
use Rattle.order_list.proofs.PoolLemmas.{are-kept, links-apart, list-added, list-changed, list-without, more-keys, places-stay, vacant-absent}

module _ {T : Type 0} (place : T → ℕ) (cells : Slab (Kept T)) (pool : IsPool place cells) (value : Lists T) (is : pooled place cells ≡ value) where
  -- the one list that it shows
  abbrev nodes : List (Linked T)
  nodes = by_place place (get cells) cells.capacity

  lists-are : value.lists ≡ nodes ∷ []
  lists-are = sym (ap (λ (l : Lists T). l.lists) is)

  pub has-list : 0 < length value.lists
  has-list = omega (arith, ap (length {A = List (Linked T)}) lists-are)

  spare-is : value.spare ≡ cells.capacity - slab_len cells
  spare-is = sym (ap (λ (l : Lists T). l.spare) is)

  abbrev Rising : Linked T → Linked T → Type 0
  Rising m n = place m.item < place n.item

  apart-at : (list : ℕ) → AreApart (list_at (nodes ∷ []) list)
  apart-at zero = links-apart place (get cells) cells.capacity
  apart-at (suc list) = tt

  pub stands : AreLists value.lists
  stands =
      subst AreLists (sym lists-are)
      (record {
        apart = λ list. apart-pairs (list_at (nodes ∷ []) list) (apart-at list);
        once = λ link j k a b first second. omega (arith, first.within, second.within);
      })

  -- what a live link names is kept under it
  pub kept-there : (link list : ℕ) (item : T) → IsIn value.lists link list item → get cells link ≡ Some (record { item = item })
  kept-there link list item live =
      let there = subst (λ ls. IsIn ls link list item) lists-are live in
      let first : list ≡ 0 = omega (arith, there.within) in
      found-holds (λ m. get cells m.link ≡ Some (record { item = m.item })) (is_at link) nodes (record { link = link; item = item })
      (are-kept place (get cells) cells.capacity)
      (subst (λ k. find (is_at link) (list_at (nodes ∷ []) k) ≡ Some (record { link = link; item = item })) first there.found)

  pub has-key : (key link : ℕ) → key ≡ link → IsLive value.lists link → ContainsKey cells key
  has-key key link same live =
      subst (λ (o : Option (Kept T)). IsSome o) (sym (ap (get cells) same ∙ kept-there link live.0 live.1 live.2)) refl

  pub item-is : (key link : ℕ) (kept : Kept T) → key ≡ link → get cells key ≡ Some kept → (list : ℕ) (item : T) → IsIn value.lists link list item → kept.item ≡ item
  item-is key link kept same found list item live =
      let both : Path (Option (Kept T)) (Some kept) (Some (record { item = item })) = sym found ∙ ap (get cells) same ∙ kept-there link list item live in
      cc

  -- a key under which something is kept is below the capacity
  kept-within : (key : ℕ) (kept : Kept T) → get cells key ≡ Some kept → (other : ℕ) → cells.capacity ≤ other → other ≢ key
  kept-within key kept found other past =
      λ same. let none : Path (Option (Kept T)) None (Some kept) = sym (pool.within other past) ∙ ap (get cells) same ∙ found in cc

  -- an item more
  module _ (cells' : Slab (Kept T)) (key : ℕ) (item : T) (vacant : get cells key ≡ None) (updates : Updates cells cells' key (Some (record { item = item })))
      (len : slab_len cells' ≡ slab_len cells + 1) (capacity : cells'.capacity ≡ cells.capacity) (inside : key < cells'.capacity) where
    absent-at : (list : ℕ) → IsAbsent key (list_at (nodes ∷ []) list)
    absent-at zero = vacant-absent place (get cells) cells.capacity key vacant
    absent-at (suc list) = tt

    pub absent : (list : ℕ) → IsAbsent key (list_at value.lists list)
    absent list = subst (λ ls. IsAbsent key (list_at ls list)) (sym lists-are) (absent-at list)

    pub fresh : IsFresh value.lists key
    fresh list = absent-all key (list_at value.lists list) (absent list)

    module _ (last : All (λ n. place n.item < place item) (list_at value.lists 0)) (room : 1 ≤ value.spare) where
      before : All (λ n. place n.item < place item) nodes
      before = subst (λ ls. All (λ n. place n.item < place item) (list_at ls 0)) lists-are last

      new-nodes : by_place place (get cells') cells'.capacity ≡ nodes ++ record { link = key; item = item } ∷ []
      new-nodes =
          ap (by_place place (get cells')) capacity
          ∙ list-added place (get cells) (get cells') key updates.others (record { item = item }) cells.capacity (omega (arith, inside, capacity)) vacant updates.changed
          (recursion_from_All (λ n. place n.item < place item) nodes before)

      pub added-lists : (pooled place cells').lists ≡ with_last 0 (record { link = key; item = item }) value.lists
      added-lists = ap (λ ns. ns ∷ []) new-nodes ∙ ap (with_last 0 (record { link = key; item = item })) (sym lists-are)

      pub added-pool : IsPool place cells'
      added-pool =
          record {
            room = omega (arith, len, capacity, room, spare-is);
            small = omega (arith, capacity, pool.small);
            within = λ other past.
                let there : cells.capacity ≤ other = omega (arith, past, capacity) in
                let differs : other ≢ key = λ same. absurd (omega (arith, same, inside, past)) in
                updates.others other differs ∙ pool.within other there;
            rising =
                subst (AllPairs Rising) (sym new-nodes) (all_pairs_push Rising nodes (record { link = key; item = item }) pool.rising (λ k d less. before k d less));
          }

  -- an item less
  module _ (cells' : Slab (Kept T)) (key link : ℕ) (same : key ≡ link) (updates : Updates cells cells' key None)
      (len : slab_len cells' + 1 ≡ slab_len cells) (capacity : cells'.capacity ≡ cells.capacity) where
    rest-nodes : by_place place (get cells') cells'.capacity ≡ filter (λ n. not (is_at link n)) nodes
    rest-nodes =
        ap (by_place place (get cells')) capacity
        ∙ list-without place (get cells) (get cells') link (λ other differs. updates.others other (λ here. differs (here ∙ same))) cells.capacity
        (ap (get cells') (sym same) ∙ updates.changed)

    pub lists-without : (pooled place cells').lists ≡ without link value.lists
    lists-without = ap (λ ns. ns ∷ []) rest-nodes ∙ ap (without link) (sym lists-are)

    pub pool-without : IsPool place cells'
    pool-without =
        record {
          room = omega (arith, len, capacity, pool.room);
          small = omega (arith, capacity, pool.small);
          within = λ other past.
              let there : cells.capacity ≤ other = omega (arith, past, capacity) in
              elim (cases_eq other key) [
                | inl here ↦ ap (get cells') here ∙ updates.changed
                | inr differs ↦ updates.others other differs ∙ pool.within other there
              ];
          rising = subst (AllPairs Rising) (sym rest-nodes) (AllPairs-filter Rising (λ n. not (is_at link n)) nodes pool.rising);
        }

  -- another item of the same place in the stead of one
  module _ (key link list : ℕ) (old item : T) (same : key ≡ link) (live : IsIn value.lists link list old) (same_place : place item ≡ place old) where
    abbrev written : Slab (Kept T)
    written = with_value cells key (record { item = item })

    there : get cells key ≡ Some (record { item = old })
    there = ap (get cells) same ∙ kept-there link list old live

    has : ContainsKey cells key
    has = subst (λ (o : Option (Kept T)). IsSome o) (sym there) refl

    updates : Updates cells written key (Some (record { item = item }))
    updates = Updates-with_value cells key (record { item = item }) has

    count : slab_len written ≡ slab_len cells
    count = grind (arith, common_steps, ContainsKey-within, has)

    changed-nodes : by_place place (get written) cells.capacity ≡ map (item_at key item) nodes
    changed-nodes = list-changed place (get cells) (get written) key updates.others old item there updates.changed same_place cells.capacity

    pub changed-lists : (pooled place written).lists ≡ with_item link item value.lists
    changed-lists =
        ap (λ ns. ns ∷ []) changed-nodes ∙ ap (λ k. with_item k item (nodes ∷ [])) same ∙ ap (with_item link item) (sym lists-are)

    pub changed-pool : IsPool place written
    changed-pool =
        let f : Linked T → Linked T = item_at key item in
        let stay = All-from_recursion (λ m. place (item_at key item m).item ≡ place m.item) nodes (places-stay place (get cells) (get written) key updates.others old item there updates.changed same_place cells.capacity) in
        let size = length-map nodes f in
        record {
          room = omega (arith, count, pool.room);
          small = pool.small;
          within = λ other past. updates.others other (kept-within key (record { item = old }) there other past) ∙ pool.within other past;
          rising =
              subst (AllPairs Rising) (sym changed-nodes)
              (λ i j d less within.
              let inside : j < length nodes = omega (arith, size, within) in
              let front : i < length nodes = omega (arith, less, inside) in
              omega (
                arith,
                ap (λ (m : Linked T). place m.item) (get_or-map f nodes i d d front),
                ap (λ (m : Linked T). place m.item) (get_or-map f nodes j d d inside),
                stay i d front,
                stay j d inside,
                pool.rising i j d less inside,
              ));
        }

  -- the same items with other room
  module _ (cells' : Slab (Kept T)) (slots : cells'.slots ≡ cells.slots) (wanted : ℕ) (lacks : value.spare < wanted) (room : slab_len cells' + wanted ≤ cells'.capacity) where
    same-count : slab_len cells' ≡ slab_len cells
    same-count = ap (λ (slots : List (Option (Kept T))). count_by is_some slots) slots

    more : cells.capacity ≤ cells'.capacity
    more = omega (arith, lacks, room, same-count, spare-is)

    same-cells : get cells' ≡ get cells
    same-cells = ap (λ (slots : List (Option (Kept T))). λ key. get_or slots key None) slots

    grown-nodes : by_place place (get cells') cells'.capacity ≡ nodes
    grown-nodes =
        ap (λ f. by_place place f cells'.capacity) same-cells ∙ more-keys place (get cells) cells.capacity cells'.capacity more pool.within

    pub grown-lists : (pooled place cells').lists ≡ value.lists
    grown-lists = ap (λ ns. ns ∷ []) grown-nodes ∙ sym lists-are

    pub grown-pool : cells'.capacity ≤ 2147483648 → IsPool place cells'
    grown-pool small =
        record {
          room = omega (arith, room);
          small = small;
          within = λ key past. ap (λ f. f key) same-cells ∙ pool.within key (omega (arith, past, more));
          rising = subst (AllPairs Rising) (sym grown-nodes) pool.rising;
        }
