-- What contracts see of an `OrderList`: for each list number the items in order, each with its link.
use Rattle.std.specs.Prelude.{◌≡◌, ◌≢◌, ℕ, ◌<◌, ◌==◌, Bool, List, [], ◌∷◌, ◌++◌, length, map, filter, not, Option, Some, option_map, if◌then◌else◌, slice_get, slice_index_or, slice_set, find, All, AllPairs, refl}
use Rattle.std.specs.Coded.{Coded, code_by, coded×, coded_list, coded_ℕ}

-- an item and the link that names it
pub record Linked (T : Type 0) : Type 0 where
  pub link : ℕ
  pub item : T

-- the lists by their numbers, and how many more items can be put in without memory
pub record Lists (T : Type 0) : Type 0 where
  pub lists : List (List (Linked T))
  pub spare : ℕ

abbrev pub linked_code : {T : Type 0} → Coded T → Coded (Linked T)
linked_code {T} code = code_by (ℕ × T) (coded× coded_ℕ code) (λ n. (n.link, n.item)) (λ p. record { link = p.0; item = p.1 }) (λ _. refl)

-- the lists are stored as the pair of their fields
abbrev pub lists_code : {T : Type 0} → Coded T → Coded (Lists T)
lists_code {T} code =
    code_by (List (List (Linked T)) × ℕ) (coded× (coded_list (coded_list (linked_code code))) coded_ℕ)
    (λ l. (l.lists, l.spare)) (λ p. record { lists = p.0; spare = p.1 }) (λ _. refl)

module _ {T : Type 0} where
  -- the items of a list, in order; none beyond the last number
  abbrev pub list_at : List (List (Linked T)) → ℕ → List (Linked T)
  list_at lists list = slice_index_or lists list []

  abbrev pub is_at : ℕ → Linked T → Bool
  is_at link node = node.link == link

  -- the link is live: in this list, and in no other, it names this item
  pub record IsIn (lists : List (List (Linked T))) (link list : ℕ) (item : T) : Type 0 where
    pub within : list < length lists
    pub found : find (is_at link) (list_at lists list) ≡ Some (record { link = link; item = item })

  -- the link is live
  abbrev pub IsLive : List (List (Linked T)) → ℕ → Type 0
  IsLive lists link = (list : ℕ) × (item : T) × IsIn lists link list item

  -- each live link stays live, in its list, and names its item
  abbrev pub Stay : List (List (Linked T)) → List (List (Linked T)) → Type 0
  Stay old new = (link list : ℕ) (item : T) → IsIn old link list item → IsIn new link list item

  -- the same of each link but one
  abbrev pub OthersStay : ℕ → List (List (Linked T)) → List (List (Linked T)) → Type 0
  OthersStay link old new = (other list : ℕ) (item : T) → other ≢ link → IsIn old other list item → IsIn new other list item

  -- no list has this link
  abbrev pub IsFresh : List (List (Linked T)) → ℕ → Type 0
  IsFresh lists link = (list : ℕ) → All (λ node. node.link ≢ link) (list_at lists list)

  -- no link stands twice in a list, and none in two lists
  pub record AreLists (lists : List (List (Linked T))) : Type 0 where
    pub apart : (list : ℕ) → AllPairs (λ m n. m.link ≢ n.link) (list_at lists list)
    pub once : (link j k : ℕ) (a b : T) → IsIn lists link j a → IsIn lists link k b → j ≡ k

  -- the link of the first of these
  abbrev pub first_link : List (Linked T) → Option ℕ
  first_link nodes = option_map (λ node. node.link) (slice_get nodes 0)

  -- the lists with an item more at the end of one
  abbrev pub with_last : ℕ → Linked T → List (List (Linked T)) → List (List (Linked T))
  with_last list node lists = slice_set lists list (list_at lists list ++ node ∷ [])

  -- the lists without the item that the link names
  abbrev pub without : ℕ → List (List (Linked T)) → List (List (Linked T))
  without link lists = map (filter (λ node. not (is_at link node))) lists

  -- a list with an item more just before the one that the link names, if it is there
  abbrev pub put_before : ℕ → Linked T → List (Linked T) → List (Linked T)
  put_before link new [] = []
  put_before link new (node ∷ nodes) = if is_at link node then new ∷ node ∷ nodes else node ∷ put_before link new nodes

  abbrev pub with_before : ℕ → Linked T → List (List (Linked T)) → List (List (Linked T))
  with_before link new lists = map (put_before link new) lists

  -- the same link, with this item where it is the one named
  abbrev pub item_at : ℕ → T → Linked T → Linked T
  item_at link item node = record node { item = if is_at link node then item else node.item }

  -- the lists with this item in place of the one that the link names
  abbrev pub with_item : ℕ → T → List (List (Linked T)) → List (List (Linked T))
  with_item link item lists = map (map (item_at link item)) lists
