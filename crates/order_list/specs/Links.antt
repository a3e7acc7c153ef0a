-- How an `OrderList` keeps its lists. No public clause cites this module.
use Rattle.std.specs.Prelude.{◌≡◌, ◌≢◌, ℕ, zero, suc, ◌+◌, ◌-◌, ◌<◌, ◌≤◌, List, [], ◌∷◌, length, map, Option, Some, None, option_map, slice_index_or, slice_set, sum_by, unwrap_or}
use Rattle.slab.specs.Slab.{HasRoomFor, Slab, get, slab_len}
use Rattle.order_list.specs.Lists.{Linked, Lists, list_at}
use Rattle.order_list.specs.declared.link.Beside.{Beside}
use Rattle.order_list.specs.declared.link.Beside.TheVariants.{Neighbour, End}
use Rattle.order_list.specs.declared.node.Node.{Node}
use Rattle.order_list.specs.declared.node.Ends.{Ends}

-- the ends of an empty list
abbrev pub no_ends : ℕ → Ends
no_ends list = record { first = End list; last = End list }

abbrev pub end_at : List Ends → ℕ → Ends
end_at ends list = slice_index_or ends list (no_ends list)

-- the ends of so many empty lists
pub record AreEmpty (lists : ℕ) (ends : List Ends) : Type 0 where
  pub count : length ends ≡ lists
  pub each : (list : ℕ) → list < lists → end_at ends list ≡ no_ends list

-- the same entries, with room for so many more and for no more than keys can name
pub record IsGrown {C : Type 0} (old : Slab C) (more : ℕ) (new : Slab C) : Type 0 where
  pub kept : new.slots ≡ old.slots
  pub room : HasRoomFor new more
  pub small : new.capacity ≤ 2147483648

module _ {T : Type 0} where
  -- a walk from `at`, before which `before` stands, over the nodes of a list gives these items; it ends with `last`, which
  -- `after` follows
  abbrev pub IsSegment : (ℕ → Option (Node T)) → Beside → Beside → List (Linked T) → Beside → Beside → Type 0
  IsSegment cells before at [] last after = (last ≡ before) × (at ≡ after)
  IsSegment cells before at (node ∷ nodes) last after =
      (at ≡ Neighbour node.link)
      × ((next : Beside)
      × (cells node.link ≡ Some (record { before = before; after = next; item = node.item }))
      × IsSegment cells (Neighbour node.link) next nodes last after)

  -- none of these has the link
  abbrev pub IsAbsent : ℕ → List (Linked T) → Type 0
  IsAbsent link [] = Unit {0}
  IsAbsent link (node ∷ nodes) = (node.link ≢ link) × IsAbsent link nodes

  -- no link stands twice
  abbrev pub AreApart : List (Linked T) → Type 0
  AreApart [] = Unit {0}
  AreApart (node ∷ nodes) = IsAbsent node.link nodes × AreApart nodes

  -- each list is walked from its first to its last node, before and after which the list ends
  pub record AreLinked (cells : ℕ → Option (Node T)) (ends : List Ends) (lists : List (List (Linked T))) : Type 0 where
    pub same : length ends ≡ length lists
    pub each : (list : ℕ) → list < length lists
        → IsSegment cells (End list) (end_at ends list).first (list_at lists list) (end_at ends list).last (End list)
    pub apart : (list : ℕ) → AreApart (list_at lists list)

  -- at most so many items on the way from a link
  abbrev pub walk_from : (ℕ → Option (Node T)) → ℕ → Beside → List (Linked T)
  walk_from cells zero at = []
  walk_from cells (suc most) (End list) = []
  walk_from cells (suc most) (Neighbour link) =
      unwrap_or (option_map (λ node. record { link = link; item = node.item } ∷ walk_from cells most node.after) (cells link)) []

  -- what the fields show: a walk from each list's first node, over at most as many nodes as there are
  abbrev pub shown : Slab (Node T) → List Ends → Lists T
  shown nodes ends =
      record {
        lists = map (λ e. walk_from (get nodes) (slab_len nodes) e.first) ends;
        spare = nodes.capacity - slab_len nodes;
      }

  -- the fields stand for lists that have all the nodes that there are
  pub record IsSound (nodes : Slab (Node T)) (ends : List Ends) : Type 0 where
    pub lists : List (List (Linked T))
    pub linked : AreLinked (get nodes) ends lists
    pub counted : slab_len nodes ≡ sum_by length lists
    pub room : slab_len nodes ≤ nodes.capacity
    pub small : nodes.capacity ≤ 2147483648
    pub few : length lists ≤ 2147483648

  -- a node more, under a key that had none
  pub record AddsNode (node : Node T) (key : ℕ) (old new : Slab (Node T)) : Type 0 where
    pub vacant : get old key ≡ None
    pub added : get new key ≡ Some node
    pub others : (other : ℕ) → other ≢ key → get new other ≡ get old other
    pub count : slab_len new ≡ slab_len old + 1
    pub capacity : new.capacity ≡ old.capacity

  -- one node is changed so
  pub record ChangesNode (change : Node T → Node T) (old : Slab (Node T)) (key : ℕ) (new : Slab (Node T)) : Type 0 where
    pub changed : (node : Node T) → get old key ≡ Some node → get new key ≡ Some (change node)
    pub others : (other : ℕ) → other ≢ key → get new other ≡ get old other
    pub count : slab_len new ≡ slab_len old
    pub capacity : new.capacity ≡ old.capacity

  -- what follows `before` is `after` now
  abbrev pub SetsAfter : Beside → Beside → Slab (Node T) → List Ends → Slab (Node T) → List Ends → Type 0
  SetsAfter after (End list) nodes ends nodes' ends' =
      (nodes' ≡ nodes) × (ends' ≡ slice_set ends list (record (end_at ends list) { first = after }))
  SetsAfter after (Neighbour key) nodes ends nodes' ends' =
      ChangesNode (λ n. record n { after = after }) nodes key nodes' × (ends' ≡ ends)

  -- what comes before `after` is `before` now
  abbrev pub SetsBefore : Beside → Beside → Slab (Node T) → List Ends → Slab (Node T) → List Ends → Type 0
  SetsBefore before (End list) nodes ends nodes' ends' =
      (nodes' ≡ nodes) × (ends' ≡ slice_set ends list (record (end_at ends list) { last = before }))
  SetsBefore before (Neighbour key) nodes ends nodes' ends' =
      ChangesNode (λ n. record n { before = before }) nodes key nodes' × (ends' ≡ ends)

  -- an item is added under this key, and stands between two neighbours of its list
  pub record PutsBetween (before after : Beside) (item : T) (key : ℕ) (nodes : Slab (Node T)) (ends : List Ends) (nodes' : Slab (Node T)) (ends' : List Ends) : Type 0 where
    pub more : Slab (Node T)
    pub adds : AddsNode (record { before = before; after = after; item = item }) key nodes more
    pub half : Slab (Node T)
    pub half_ends : List Ends
    pub follows : SetsAfter (Neighbour key) before more ends half half_ends
    pub precedes : SetsBefore (Neighbour key) after half half_ends nodes' ends'
