-- How a `Pool` keeps its items, and the list that it shows. No public clause cites this module.
use Rattle.std.specs.Prelude.{◌≡◌, ℕ, zero, suc, ◌-◌, ◌<◌, ◌≤◌, List, [], ◌∷◌, Option, Some, None, if◌then◌else◌, nat_lt, AllPairs}
use Rattle.slab.specs.Slab.{Slab, get, slab_len}
use Rattle.order_list.specs.Lists.{Linked, Lists}
use Rattle.order_list.specs.declared.kept.Kept.{Kept}

module _ {T : Type 0} (place : T → ℕ) where
  -- an item more, in front of the first whose place is not below its own
  abbrev pub put_by_place : Linked T → List (Linked T) → List (Linked T)
  put_by_place new [] = new ∷ []
  put_by_place new (node ∷ nodes) = if nat_lt (place node.item) (place new.item) then node ∷ put_by_place new nodes else new ∷ node ∷ nodes

  -- with what is kept under a key, if anything is; the key is its link
  abbrev pub with_kept : ℕ → Option (Kept T) → List (Linked T) → List (Linked T)
  with_kept key None nodes = nodes
  with_kept key (Some kept) nodes = put_by_place (record { link = key; item = kept.item }) nodes

  -- what is kept under so many keys from 0 on, by place
  abbrev pub by_place : (ℕ → Option (Kept T)) → ℕ → List (Linked T)
  by_place cells zero = []
  by_place cells (suc key) = with_kept key (cells key) (by_place cells key)

  -- what a pool shows: one list of all that it keeps, by place
  abbrev pub pooled : Slab (Kept T) → Lists T
  pooled cells =
      record {
        lists = by_place (get cells) cells.capacity ∷ [];
        spare = cells.capacity - slab_len cells;
      }

  -- nothing is kept beyond the capacity, and no two items have one place
  pub record IsPool (cells : Slab (Kept T)) : Type 0 where
    pub room : slab_len cells ≤ cells.capacity
    pub small : cells.capacity ≤ 2147483648
    pub within : (key : ℕ) → cells.capacity ≤ key → get cells key ≡ None
    pub rising : AllPairs (λ m n. place m.item < place n.item) (by_place (get cells) cells.capacity)
