-- What each call makes of the lists.
use Rattle.std.proofs.Common.{◌≡◌, ◌≢◌, ℕ, ◌+◌, ◌-◌, ◌<◌, ◌≤◌, List, [], ◌∷◌, ◌++◌, length, map, get_or, replicate, set, take, drop, Option, Some, None, IsSome, is_some, refl, sym, ◌∙◌, ap, subst, inl, inr, arith, not}
use Rattle.std.proofs.lemmas.Bool.{cases_eq, cases_lt}
use Rattle.std.proofs.lemmas.List.{append-nil, drop_all, get_or-replicate, get_or_past, length-replicate, length-set, take_all}
use Rattle.std.specs.List.{after_first, count_by, filter, find}
use Rattle.std.proofs.lemmas.List.Folds.{sum_by-replicate}
use Rattle.std.proofs.lemmas.Grind.{common_steps}
use Rattle.slab.specs.Slab.{ContainsKey, Slab, Updates, get, slab_len, with_value}
use Rattle.slab.proofs.SlabLemmas.{ContainsKey-within, Updates-with_value}
use Rattle.order_list.specs.Key.{link_of}
use Rattle.order_list.specs.Lists.{AreLists, IsFresh, IsIn, IsLive, Linked, Lists, first_link, is_at, item_at, list_at, put_before, with_before, with_item, without}
use Rattle.order_list.specs.Links.{AreApart, AreEmpty, AreLinked, ChangesNode, IsAbsent, IsSegment, IsSound, PutsBetween, SetsAfter, SetsBefore, end_at, shown}
use Rattle.order_list.specs.declared.link.Beside.{Beside}
use Rattle.order_list.specs.declared.link.Beside.TheVariants.{Neighbour, End}
use Rattle.order_list.specs.declared.node.Node.{Node}
use Rattle.order_list.specs.declared.node.Ends.{Ends}
use Rattle.order_list.proofs.ListLemmas.{after_first-at, apart-pairs, filter-absent, filter-at, item_at-absent, item_at-at, length-middle, map-one, put_before-absent, put_before-at, total-set}
use Rattle.order_list.proofs.OpenLemmas.{AreAlone, IsOpen, after-count, after-keeps, are-alone, before-count, before-keeps, close-joined, close-with, open-after, open-before, open-cut, open-frame}
use Rattle.order_list.proofs.SegmentLemmas.{absent-all, absent-append, absent-fresh, apart-with, apart-without, append-absent, first-differs, first-end, first-there, foreign-middle, foreign-without, last-differs, last-end, last-there, middle-absent}
use Rattle.order_list.proofs.StayLemmas.{live-after, live-first}
use Rattle.order_list.proofs.SoundLemmas.{HasNode, has-node, lists-are, shown-is}

-- the fields stand for these lists
pub record StandsFor {T : Type 0} (nodes : Slab (Node T)) (ends : List Ends) (lists : List (List (Linked T))) : Type 0 where
  pub sound : IsSound nodes ends
  pub are : sound.lists ≡ lists

-- the list that a slice wrote back
pub written-back : {A : Type 0} (new old : List A) (len : ℕ) → length new ≡ length old → len ≡ length old → take len (new ++ drop (length new) old) ≡ new
written-back new old len same all =
    ap (λ xs. take len (new ++ xs)) (drop_all (length new) old (omega arith)) ∙ ap (take len) (append-nil new) ∙ take_all len new (omega arith)

module _ {T : Type 0} where
  -- a key without a node is in no list
  pub fresh : (nodes : Slab (Node T)) (ends : List Ends) (lists : List (List (Linked T))) (key : ℕ) → AreLinked (get nodes) ends lists
      → get nodes key ≡ None → (list : ℕ) → IsAbsent key (list_at lists list)
  fresh nodes ends lists key linked vacant list =
      elim (cases_lt list (length lists)) [
        | inl within ↦ absent-fresh (get nodes) key vacant (End list) (end_at ends list).first (list_at lists list) (end_at ends list).last (End list) (linked.each list within)
        | inr past ↦ subst (λ (ns : List (Linked T)). IsAbsent key ns) (sym (get_or_past lists list [] past)) tt
      ]

  pub fresh-link : (nodes : Slab (Node T)) (ends : List Ends) (lists : List (List (Linked T))) (key : ℕ) → AreLinked (get nodes) ends lists
      → get nodes key ≡ None → IsFresh lists key
  fresh-link nodes ends lists key linked vacant list = absent-all key (list_at lists list) (fresh nodes ends lists key linked vacant list)

  -- an item is put between the parts of its list
  pub put : (nodes nodes' : Slab (Node T)) (ends ends' : List Ends) (sound : IsSound nodes ends) (list : ℕ) (xs ys : List (Linked T)) (p q : Beside) (item : T) (key : ℕ)
      → IsOpen nodes ends sound.lists list xs ys p q p q → list_at sound.lists list ≡ xs ++ ys → slab_len nodes + 1 ≤ nodes.capacity
      → PutsBetween p q item key nodes ends nodes' ends'
      → StandsFor nodes' ends' (set sound.lists list (xs ++ record { link = key; item = item } ∷ ys))
  put nodes nodes' ends ends' sound list xs ys p q item key halves is room puts =
      let m : Linked T = record { link = key; item = item } in
      let lists = sound.lists in
      let absent = fresh nodes ends lists key sound.linked puts.adds.vacant in
      let parts = absent-append key xs ys (subst (IsAbsent key) is (absent list)) in
      let apart : AreApart (xs ++ ys) = subst AreApart is (sound.linked.apart list) in
      let inside : list < length lists = omega (arith, halves.within, halves.same) in
      let alone : AreAlone lists list (xs ++ ys) = subst (AreAlone lists list) is (are-alone nodes ends lists list sound.linked inside) in
      let one = open-frame nodes puts.more ends lists list xs ys p q p q key halves puts.adds.others parts.0 parts.1 (λ j differs less. absent j) in
      let two = open-after p xs puts.more puts.half ends puts.half_ends lists list ys q p q (Neighbour key) one apart alone puts.follows in
      let three = open-before q ys puts.half nodes' puts.half_ends ends' lists list xs p (Neighbour key) p (Neighbour key) two apart alone puts.precedes in
      let not_p : p ≢ Neighbour key =
      last-differs (get puts.more) (End list) (end_at ends list).first xs p q key one.left parts.0 (λ none. let n : End list ≡ Neighbour key = none in cc) in
      let not_q : q ≢ Neighbour key = first-differs (get puts.more) list p q ys (end_at ends list).last key one.right parts.1 in
      let cell =
      before-keeps (Neighbour key) q puts.half nodes' puts.half_ends ends' key puts.precedes not_q
      ∙ after-keeps (Neighbour key) p puts.more puts.half ends puts.half_ends key puts.follows not_p ∙ puts.adds.added in
      let counts = before-count (Neighbour key) q puts.half nodes' puts.half_ends ends' puts.precedes in
      let counts_too = after-count (Neighbour key) p puts.more puts.half ends puts.half_ends puts.follows in
      let new = xs ++ m ∷ ys in
      record {
        sound =
            record {
              lists = set lists list new;
              linked = close-with nodes' ends' lists list xs ys p q m three cell (apart-with xs m ys apart (subst (IsAbsent key) is (absent list))) sound.linked.apart;
              counted = omega (arith, counts.0, counts_too.0, puts.adds.count, sound.counted, total-set lists list new inside, ap (length {A = Linked T}) is, length-middle xs m ys);
              room = omega (arith, counts.0, counts.1, counts_too.0, counts_too.1, puts.adds.count, puts.adds.capacity, room);
              small = omega (arith, counts.1, counts_too.1, puts.adds.capacity, sound.small);
              few = omega (arith, length-set lists list new, sound.few);
            };
        are = refl;
      }

  pub live-in : (nodes : Slab (Node T)) (ends : List Ends) (sound : IsSound nodes ends) (value : Lists T) (link list : ℕ) (item : T) → shown nodes ends ≡ value
      → IsIn value.lists link list item → IsIn sound.lists link list item
  live-in nodes ends sound value link list item is live = subst (λ ls. IsIn ls link list item) (lists-are nodes ends value sound is) live

  -- a live link, in the lists that the fields stand for
  pub node-there : (nodes : Slab (Node T)) (ends : List Ends) (sound : IsSound nodes ends) (link list : ℕ) (item : T) → IsIn sound.lists link list item
      → HasNode nodes ends sound.lists link list item
  node-there nodes ends sound link list item live = has-node nodes ends sound.lists link list item sound.linked live

  -- a live link has a node
  pub has-key : (nodes : Slab (Node T)) (ends : List Ends) (sound : IsSound nodes ends) (value : Lists T) (link : ℕ) → shown nodes ends ≡ value → IsLive value.lists link
      → ContainsKey nodes link
  has-key nodes ends sound value link is live =
      let there = node-there nodes ends sound link live.0 live.1 (live-in nodes ends sound value link live.0 live.1 is live.2) in
      subst (λ (o : Option (Node T)). IsSome o) (sym there.cell) refl

  -- the item is in no other list
  elsewhere : (nodes : Slab (Node T)) (ends : List Ends) (lists : List (List (Linked T))) (link list : ℕ) (item : T) → HasNode nodes ends lists link list item
      → (j : ℕ) → j ≢ list → j < length lists → IsAbsent link (list_at lists j)
  elsewhere nodes ends lists link list item node j differs less =
      foreign-middle node.xs (record { link = link; item = item }) node.ys (list_at lists j) (node.alone j differs less)

  -- what a live link names
  pub node-is : (nodes : Slab (Node T)) (ends : List Ends) (sound : IsSound nodes ends) (link list : ℕ) (item : T) (node : Node T)
      → (live : IsIn sound.lists link list item) → get nodes link ≡ Some node
      → node ≡ record { before = (node-there nodes ends sound link list item live).p; after = (node-there nodes ends sound link list item live).q; item = item }
  node-is nodes ends sound link list item node live found =
      let has = node-there nodes ends sound link list item live in
      let full : Node T = record { before = has.p; after = has.q; item = item } in
      let both : Path (Option (Node T)) (Some node) (Some full) = sym found ∙ has.cell in
      cc

  pub put-front : (nodes nodes' : Slab (Node T)) (ends given ends' : List Ends) (sound : IsSound nodes ends) (link list : ℕ) (after : Beside) (there item : T) (key : ℕ) (node : Node T)
      → IsIn sound.lists link list there → get nodes link ≡ Some node → slab_len nodes + 1 ≤ nodes.capacity → after ≡ Neighbour link → given ≡ ends
      → PutsBetween node.before after item key nodes given nodes' ends'
      → StandsFor nodes' ends' (with_before link (record { link = key; item = item }) sound.lists)
  put-front nodes nodes' ends given ends' sound link list after there item key node live found room some given_is puts =
      let lists = sound.lists in
      let has = node-there nodes ends sound link list there live in
      let here : Linked T = record { link = link; item = there } in
      let new : Linked T = record { link = key; item = item } in
      let same = node-is nodes ends sound link list there node live found in
      let stands =
      put nodes nodes' ends ends' sound list has.xs (here ∷ has.ys) has.p (Neighbour link) item key has.front has.is room
      (subst (λ (n : Node T). PutsBetween n.before (Neighbour link) item key nodes ends nodes' ends') same
      (subst (λ q. PutsBetween node.before q item key nodes ends nodes' ends') some
      (subst (λ es. PutsBetween node.before after item key nodes es nodes' ends') given_is puts))) in
      let middle = middle-absent has.xs here has.ys has.apart in
      let written : map (put_before link new) lists ≡ set lists list (has.xs ++ new ∷ here ∷ has.ys) =
      map-one (put_before link new) lists list (has.xs ++ new ∷ here ∷ has.ys) live.within
      (ap (put_before link new) has.is ∙ put_before-at link new has.xs here has.ys middle.0 refl)
      (λ j differs less. put_before-absent link new (list_at lists j) (elsewhere nodes ends lists link list there has j differs less)) in
      record { sound = stands.sound; are = stands.are ∙ sym written }

  -- where a live link is the first of its list, the end before it is there; else so is the node before it
  pub front-within : (nodes : Slab (Node T)) (ends : List Ends) (sound : IsSound nodes ends) (link list : ℕ) (item : T) (node : Node T)
      → IsIn sound.lists link list item → get nodes link ≡ Some node → (end : ℕ) → node.before ≡ End end → end < length ends
  front-within nodes ends sound link list item node live found end is =
      let has = node-there nodes ends sound link list item live in
      subst (λ n. n < length ends)
      (sym
      (last-end (get nodes) list (end_at ends list).first has.xs has.p (Neighbour link) end has.around.left
      (sym (ap (λ (n : Node T). n.before) (node-is nodes ends sound link list item node live found)) ∙ is)))
      has.around.within

  pub front-before : (nodes : Slab (Node T)) (ends : List Ends) (sound : IsSound nodes ends) (link list : ℕ) (item : T) (node : Node T)
      → IsIn sound.lists link list item → get nodes link ≡ Some node → (key : ℕ) → node.before ≡ Neighbour key → ContainsKey nodes key
  front-before nodes ends sound link list item node live found key is =
      let has = node-there nodes ends sound link list item live in
      last-there (get nodes) list (end_at ends list).first has.xs has.p (Neighbour link) key has.around.left
      (sym (ap (λ (n : Node T). n.before) (node-is nodes ends sound link list item node live found)) ∙ is)

  pub put-last : (nodes nodes' : Slab (Node T)) (ends given ends' : List Ends) (sound : IsSound nodes ends) (list : ℕ) (before after : Beside) (item : T) (key : ℕ) → list < length sound.lists
      → slab_len nodes + 1 ≤ nodes.capacity → before ≡ (end_at ends list).last → after ≡ End list → given ≡ ends → PutsBetween before after item key nodes given nodes' ends'
      → StandsFor nodes' ends' (set sound.lists list (list_at sound.lists list ++ record { link = key; item = item } ∷ []))
  put-last nodes nodes' ends given ends' sound list before after item key within room is_last none same puts =
      let all = list_at sound.lists list in
      let is : all ≡ all ++ [] = sym (append-nil all) in
      let cut = open-cut nodes ends sound.lists list all [] sound.linked within is in
      let halves = cut.2 in
      let last : cut.0 ≡ (end_at ends list).last = sym halves.right.0 in
      let first : cut.1 ≡ End list = halves.right.1 in
      put nodes nodes' ends ends' sound list all [] (end_at ends list).last (End list) item key
      (subst (λ p. IsOpen nodes ends sound.lists list all [] p (End list) p (End list)) last
      (subst (λ q. IsOpen nodes ends sound.lists list all [] cut.0 q cut.0 q) first halves))
      is room
      (subst (λ p. PutsBetween p (End list) item key nodes ends nodes' ends') is_last
      (subst (λ q. PutsBetween before q item key nodes ends nodes' ends') none
      (subst (λ es. PutsBetween before after item key nodes es nodes' ends') same puts)))

  -- while the item that a live link names is taken out: its node is gone; and what stood before it is followed by what stood
  -- after it
  module _ (nodes more : Slab (Node T)) (ends : List Ends) (sound : IsSound nodes ends) (link list : ℕ) (item : T) (node : Node T)
      (live : IsIn sound.lists link list item) (found : get nodes link ≡ Some node) (updates : Updates nodes more link None) where
    abbrev has : HasNode nodes ends sound.lists link list item
    has = node-there nodes ends sound link list item live

    abbrev here : Linked T
    here = record { link = link; item = item }

    same : node ≡ record { before = has.p; after = has.q; item = item }
    same = node-is nodes ends sound link list item node live found

    middle : IsAbsent link has.xs × IsAbsent link has.ys
    middle = middle-absent has.xs here has.ys has.apart

    apart : AreApart (has.xs ++ has.ys)
    apart = apart-without has.xs here has.ys has.apart

    gone : IsOpen more ends sound.lists list has.xs has.ys has.p (Neighbour link) (Neighbour link) has.q
    gone =
        open-frame nodes more ends sound.lists list has.xs has.ys has.p (Neighbour link) (Neighbour link) has.q link has.around updates.others middle.0 middle.1
        (elsewhere nodes ends sound.lists link list item has)

    alone : AreAlone sound.lists list (has.xs ++ has.ys)
    alone j differs less = foreign-without has.xs here has.ys (list_at sound.lists j) (has.alone j differs less)

    pub before-within : (end : ℕ) → node.before ≡ End end → end < length ends
    before-within end is =
        subst (λ n. n < length ends)
        (sym (last-end (get more) list (end_at ends list).first has.xs has.p (Neighbour link) end gone.left (sym (ap (λ (n : Node T). n.before) same) ∙ is))) has.around.within

    pub before-there : (key : ℕ) → node.before ≡ Neighbour key → ContainsKey more key
    before-there key is =
        last-there (get more) list (end_at ends list).first has.xs has.p (Neighbour link) key gone.left (sym (ap (λ (n : Node T). n.before) same) ∙ is)

    module _ (half : Slab (Node T)) (half_ends : List Ends) (follows : SetsAfter node.after node.before more ends half half_ends) where
      follow : SetsAfter has.q has.p more ends half half_ends
      follow = subst (λ (n : Node T). SetsAfter n.after n.before more ends half half_ends) same follows

      followed : IsOpen half half_ends sound.lists list has.xs has.ys has.p has.q (Neighbour link) has.q
      followed = open-after has.p has.xs more half ends half_ends sound.lists list has.ys (Neighbour link) (Neighbour link) has.q has.q gone apart alone follow

      pub after-within : (end : ℕ) → node.after ≡ End end → end < length half_ends
      after-within end is =
          subst (λ n. n < length half_ends)
          (sym (first-end (get half) list (Neighbour link) has.q has.ys (end_at half_ends list).last end followed.right (sym (ap (λ (n : Node T). n.after) same) ∙ is)))
          followed.within

      pub after-there : (key : ℕ) → node.after ≡ Neighbour key → ContainsKey half key
      after-there key is =
          first-there (get half) list (Neighbour link) has.q has.ys (end_at half_ends list).last key followed.right (sym (ap (λ (n : Node T). n.after) same) ∙ is)

      -- the item that a live link names is taken out
      pub taken : (nodes' : Slab (Node T)) (ends' : List Ends) → slab_len more + 1 ≡ slab_len nodes → more.capacity ≡ nodes.capacity
          → SetsBefore node.before node.after half half_ends nodes' ends' → StandsFor nodes' ends' (without link sound.lists)
      taken nodes' ends' count capacity precedes =
          let lists = sound.lists in
          let precede : SetsBefore has.p has.q half half_ends nodes' ends' =
          subst (λ (n : Node T). SetsBefore n.before n.after half half_ends nodes' ends') same precedes in
          let closed = open-before has.q has.ys half nodes' half_ends ends' lists list has.xs has.p has.q (Neighbour link) has.p followed apart alone precede in
          let counts = before-count has.p has.q half nodes' half_ends ends' precede in
          let counts_too = after-count has.q has.p more half ends half_ends follow in
          let new = has.xs ++ has.ys in
          let written : map (filter (λ n. not (is_at link n))) lists ≡ set lists list new =
          map-one (filter (λ n. not (is_at link n))) lists list new live.within
          (ap (filter (λ n. not (is_at link n))) has.is ∙ filter-at link has.xs here has.ys middle.0 middle.1 refl)
          (λ j differs less. filter-absent link (list_at lists j) (elsewhere nodes ends lists link list item has j differs less)) in
          record {
            sound =
                record {
                  lists = set lists list new;
                  linked = close-joined nodes' ends' lists list has.xs has.ys has.p has.q closed apart sound.linked.apart;
                  counted = omega (arith, counts.0, counts_too.0, count, sound.counted, total-set lists list new live.within, ap (length {A = Linked T}) has.is, length-middle has.xs here has.ys);
                  room = omega (arith, counts.0, counts.1, counts_too.0, counts_too.1, count, capacity, sound.room);
                  small = omega (arith, counts.1, counts_too.1, capacity, sound.small);
                  few = omega (arith, length-set lists list new, sound.few);
                };
            are = sym written;
          }

  -- another item in the place of the one that a live link names
  pub replaced : (nodes nodes' : Slab (Node T)) (ends : List Ends) (sound : IsSound nodes ends) (link list : ℕ) (old item : T)
      → IsIn sound.lists link list old → ChangesNode (λ n. record n { item = item }) nodes link nodes'
      → StandsFor nodes' ends (with_item link item sound.lists)
  replaced nodes nodes' ends sound link list old item live changes =
      let lists = sound.lists in
      let has = node-there nodes ends sound link list old live in
      let here : Linked T = record { link = link; item = old } in
      let there : Linked T = record { link = link; item = item } in
      let middle = middle-absent has.xs here has.ys has.apart in
      let apart = apart-without has.xs here has.ys has.apart in
      let halves =
      open-frame nodes nodes' ends lists list has.xs has.ys has.p (Neighbour link) (Neighbour link) has.q link has.around changes.others middle.0 middle.1
      (elsewhere nodes ends lists link list old has) in
      let new = has.xs ++ there ∷ has.ys in
      let written : map (map (item_at link item)) lists ≡ set lists list new =
      map-one (map (item_at link item)) lists list new live.within
      (ap (map (item_at link item)) has.is ∙ item_at-at link item has.xs here has.ys middle.0 middle.1 refl)
      (λ j differs less. item_at-absent link item (list_at lists j) (elsewhere nodes ends lists link list old has j differs less)) in
      record {
        sound =
            record {
              lists = set lists list new;
              linked =
                  close-with nodes' ends lists list has.xs has.ys has.p has.q there halves (changes.changed _ has.cell)
                  (apart-with has.xs there has.ys apart (append-absent link has.xs has.ys middle.0 middle.1)) sound.linked.apart;
              counted = omega (arith, changes.count, sound.counted, total-set lists list new live.within, ap (length {A = Linked T}) has.is, length-middle has.xs here has.ys, length-middle has.xs there has.ys);
              room = omega (arith, changes.count, changes.capacity, sound.room);
              small = omega (arith, changes.capacity, sound.small);
              few = omega (arith, length-set lists list new, sound.few);
            };
        are = sym written;
      }

  -- a write through a reference to a node's item changes that node
  pub written-item : (nodes : Slab (Node T)) (key : ℕ) (node : Node T) (item : T) → get nodes key ≡ Some node
      → ChangesNode (λ n. record n { item = item }) nodes key (with_value nodes key (record node { item = item }))
  written-item nodes key node item is =
      let has : ContainsKey nodes key = subst (λ (o : Option (Node T)). IsSome o) (sym is) refl in
      let updates = Updates-with_value nodes key (record node { item = item }) has in
      record {
        changed = λ n there.
            let both : Path (Option (Node T)) (Some n) (Some node) = sym there ∙ is in
            let same : n ≡ node = cc in
            updates.changed ∙ ap (λ (m : Node T). Some (record m { item = item })) (sym same);
        others = updates.others;
        count = grind (arith, common_steps, ContainsKey-within);
        capacity = refl;
      }

  -- the same nodes with other room
  pub grown : (nodes nodes' : Slab (Node T)) (ends : List Ends) (sound : IsSound nodes ends) → nodes'.slots ≡ nodes.slots
      → slab_len nodes' ≤ nodes'.capacity → nodes'.capacity ≤ 2147483648 → IsSound nodes' ends
  grown nodes nodes' ends sound slots room small =
      let cells : get nodes' ≡ get nodes = ap (λ (slots : List (Option (Node T))). λ key. get_or slots key None) slots in
      let count : slab_len nodes' ≡ slab_len nodes = ap (λ (slots : List (Option (Node T))). count_by is_some slots) slots in
      record {
        lists = sound.lists;
        linked = subst (λ f. AreLinked f ends sound.lists) (sym cells) sound.linked;
        counted = omega (arith, count, sound.counted);
        room = room;
        small = small;
        few = sound.few;
      }

  pub item-is : (nodes : Slab (Node T)) (ends : List Ends) (sound : IsSound nodes ends) (link list : ℕ) (item : T) (node : Node T)
      → IsIn sound.lists link list item → get nodes link ≡ Some node → node.item ≡ item
  item-is nodes ends sound link list item node live found = ap (λ (n : Node T). n.item) (node-is nodes ends sound link list item node live found)

  -- a walk begins with the first of the items that it goes over
  first-is : (cells : ℕ → Option (Node T)) (list : ℕ) (before at : Beside) (ns : List (Linked T)) (last : Beside) → IsSegment cells before at ns last (End list)
      → link_of at ≡ first_link ns
  first-is cells list before at [] last walk = ap link_of walk.1
  first-is cells list before at (n ∷ ns) last walk = ap link_of walk.0

  pub front-is : (nodes : Slab (Node T)) (ends : List Ends) (sound : IsSound nodes ends) (list : ℕ) → list < length sound.lists
      → link_of (end_at ends list).first ≡ first_link (list_at sound.lists list)
  front-is nodes ends sound list within =
      first-is (get nodes) list (End list) (end_at ends list).first (list_at sound.lists list) (end_at ends list).last (sound.linked.each list within)

  pub next-is : (nodes : Slab (Node T)) (ends : List Ends) (sound : IsSound nodes ends) (link list : ℕ) (item : T) (node : Node T)
      → IsIn sound.lists link list item → get nodes link ≡ Some node → link_of node.after ≡ first_link (after_first (is_at link) (list_at sound.lists list))
  next-is nodes ends sound link list item node live found =
      let has = node-there nodes ends sound link list item live in
      let here : Linked T = record { link = link; item = item } in
      let middle = middle-absent has.xs here has.ys has.apart in
      ap (λ (n : Node T). link_of n.after) (node-is nodes ends sound link list item node live found)
      ∙ first-is (get nodes) list (Neighbour link) has.q has.ys (end_at ends list).last has.around.right
      ∙ ap first_link (sym (ap (after_first (is_at link)) has.is ∙ after_first-at link has.xs here has.ys middle.0 refl))

  pub are-apart : (nodes : Slab (Node T)) (ends : List Ends) (sound : IsSound nodes ends) → AreLists sound.lists
  are-apart nodes ends sound =
      record {
        apart = λ list. apart-pairs (list_at sound.lists list) (sound.linked.apart list);
        once = λ link j k a b first second.
            elim (cases_eq j k) [
              | inl same ↦ same
              | inr differs ↦
                  let one = node-there nodes ends sound link j a first in
                  let two = node-there nodes ends sound link k b second in
                  let here : Linked T = record { link = link; item = b } in
                  let absent = elsewhere nodes ends sound.lists link j a one k (λ same. differs (sym same)) second.within in
                  absurd ((absent-append link two.xs (here ∷ two.ys) (subst (IsAbsent link) two.is absent)).1.0 refl)
            ];
      }

  -- empty lists
  none-at : (n list : ℕ) (none : List (Linked T)) → none ≡ [] → list_at (replicate n none) list ≡ []
  none-at n list none is =
      elim (cases_lt list n) [
        | inl inside ↦ get_or-replicate n list none [] inside ∙ is
        | inr past ↦ get_or_past (replicate n none) list [] (omega (arith, length-replicate n none))
      ]

  pub empty : (nodes : Slab (Node T)) (ends : List Ends) (n : ℕ) → nodes.slots ≡ [] → nodes.capacity ≡ 0 → AreEmpty n ends → n ≤ 2147483648
      → StandsFor nodes ends (replicate n [])
  empty nodes ends n none capacity are few =
      let lists : List (List (Linked T)) = replicate n [] in
      let count : slab_len nodes ≡ 0 = ap (λ (slots : List (Option (Node T))). count_by is_some slots) none in
      record {
        sound =
            record {
              lists = lists;
              linked =
                  record {
                    same = are.count ∙ sym (length-replicate n []);
                    each = λ list less.
                        let inside : list < n = omega (arith, length-replicate {A = List (Linked T)} n []) in
                        let end = are.each list inside in
                        subst (λ ns. IsSegment (get nodes) (End list) (end_at ends list).first ns (end_at ends list).last (End list)) (sym (none-at n list [] refl))
                        (ap (λ (e : Ends). e.last) end, ap (λ (e : Ends). e.first) end);
                    apart = λ list. subst (λ (ns : List (Linked T)). AreApart ns) (sym (none-at n list [] refl)) tt;
                  };
              counted = omega (arith, count, sum_by-replicate (length {A = Linked T}) n []);
              room = omega (arith, count);
              small = omega (arith, capacity);
              few = omega (arith, length-replicate {A = List (Linked T)} n [], few);
            };
        are = refl;
      }

  pub empty-shown : (nodes : Slab (Node T)) (ends : List Ends) (n : ℕ) → nodes.slots ≡ [] → nodes.capacity ≡ 0 → AreEmpty n ends → n ≤ 2147483648
      → shown nodes ends ≡ record { lists = replicate n []; spare = 0 }
  empty-shown nodes ends n none room are few =
      let stands = empty nodes ends n none room are few in
      let spare : nodes.capacity - slab_len nodes ≡ 0 = omega (arith, room) in
      ap (λ (ls : List (List (Linked T))). record { lists = ls; spare = nodes.capacity - slab_len nodes }) (shown-is nodes ends stands.sound ∙ stands.are)
      ∙ ap (λ (s : ℕ). record { lists = replicate n []; spare = s }) spare

  -- the first of a list is live, and so is the one after a live one
  pub front-live : (nodes : Slab (Node T)) (ends : List Ends) (sound : IsSound nodes ends) (list link : ℕ) → list < length sound.lists
      → link_of (end_at ends list).first ≡ Some link → (item : T) × IsIn sound.lists link list item
  front-live nodes ends sound list link within is =
      let found = live-first (list_at sound.lists list) link (sym (front-is nodes ends sound list within) ∙ is) in
      (found.0, record { within = within; found = found.1 })

  pub next-live : (nodes : Slab (Node T)) (ends : List Ends) (sound : IsSound nodes ends) (link list : ℕ) (item : T) (node : Node T) (next : ℕ)
      → IsIn sound.lists link list item → get nodes link ≡ Some node → link_of node.after ≡ Some next → (there : T) × IsIn sound.lists next list there
  next-live nodes ends sound link list item node next live found is =
      let has = node-there nodes ends sound link list item live in
      let here : Linked T = record { link = link; item = item } in
      let first : first_link has.ys ≡ Some next =
      sym (first-is (get nodes) list (Neighbour link) has.q has.ys (end_at ends list).last has.around.right)
      ∙ sym (ap (λ (n : Node T). link_of n.after) (node-is nodes ends sound link list item node live found)) ∙ is in
      let there = live-after has.xs here has.ys next has.apart first in
      (there.0, record { within = live.within; found = ap (find (is_at next)) has.is ∙ there.1 })
