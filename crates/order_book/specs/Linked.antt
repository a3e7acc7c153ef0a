-- How a `Book` keeps its orders: one list of them by place, one list of their handles for each level, and one for each bucket of
-- callers' own numbers. No public clause cites this module.
use Rattle.std.specs.Prelude.{◌≡◌, ◌≢◌, ℕ, ◌+◌, ◌*◌, ◌%◌, ◌<◌, ◌≤◌, ◌==◌, List, [], ◌∷◌, length, map, filter}
use Rattle.std.specs.List.{AllByRecursion}
use Rattle.order_list.specs.Lists.{Linked, Lists, list_at}
use Rattle.mkt_base.specs.declared.units.Caller.{Caller}
use Rattle.mkt_base.specs.declared.order.Side.{Side}
use Rattle.mkt_base.specs.declared.order.Side.TheVariants.{Buy, Sell}
use Rattle.mkt_base.specs.declared.order.Spot.{Spot}
use Rattle.mkt_base.specs.declared.order.Spot.TheVariants.{Market, At}
use Rattle.mkt_base.specs.declared.order.Order.{Order}
use Rattle.book_law.specs.BookView.{BookView, IsBookView, Slot, slot_of}
use Rattle.order_book.specs.Depths.{AreDepthsOf, DepthView}
use Rattle.order_book.specs.declared.held.Held.{Held}

-- the number of a level's list
abbrev pub level_no : Side → Spot → ℕ
level_no Buy Market = 0
level_no Sell Market = 1
level_no Buy (At i) = 2 * i + 2
level_no Sell (At i) = 2 * i + 3

abbrev pub level_key : Order → ℕ
level_key o = level_no o.side o.spot

-- the number of the list of a caller's own number: a caller's numbers have their lists side by side, and those of the callers begin far apart
abbrev pub bucket_of : ℕ → Caller → ℕ → ℕ
bucket_of buckets caller own = (own + caller.0 * 2654435769) % buckets

abbrev pub owner_key : ℕ → Order → ℕ
owner_key buckets o = bucket_of buckets o.caller o.own

-- the order's link in its level
abbrev pub level_at : Held → ℕ
level_at x = x.filed.level

-- and in its bucket
abbrev pub owner_at : Held → ℕ
owner_at x = x.filed.owner

abbrev pub slot_at : Linked Held → Slot
slot_at n = slot_of n.link n.item.order

-- the book that the list by place stands for
abbrev pub linked : ℕ → ℕ → List (List (Linked Held)) → BookView
linked prices capacity lists = record { prices = prices; capacity = capacity; slots = map slot_at (list_at lists 0) }

abbrev pub orders_in : List (Linked Held) → List Order
orders_in ns = map (λ n. n.item.order) ns

-- where an order is filed by such links its handle stands
abbrev pub filed_at : (Held → ℕ) → Linked Held → Linked ℕ
filed_at at n = record { link = at n.item; item = n.link }

-- no two of them have the same number
abbrev pub AreApart : (Linked Held → ℕ) → List (Linked Held) → Type 0
AreApart f [] = Unit {0}
AreApart f (n ∷ ns) = AllByRecursion (λ m. f n ≢ f m) ns × AreApart f ns

-- each list has the handles of the orders with its number as their key, by place
pub record IsFiled (key : Order → ℕ) (at : Held → ℕ) (lists : List (List (Linked ℕ))) (ns : List (Linked Held)) : Type 0 where
  pub lists_are : (k : ℕ) → k < length lists → list_at lists k ≡ map (filed_at at) (filter (λ n. key n.item.order == k) ns)
  pub within : AllByRecursion (λ n. key n.item.order < length lists) ns
  pub apart : AreApart (λ n. at n.item) ns

-- what holds of the orders by place and of where they are filed: the book stands; each order is filed in its level and its
-- bucket, the levels' numbers are theirs, and there is room for as many orders as the book was made for
pub record Holds (prices capacity buckets : ℕ) (ns : List (Linked Held)) (spare : ℕ) (levels owners : Lists ℕ) (d : DepthView) : Type 0 where
  pub book : IsBookView (record { prices = prices; capacity = capacity; slots = map slot_at ns })
  pub apart : AreApart (λ n. n.link) ns
  pub by_level : IsFiled level_key level_at levels.lists ns
  pub level_count : length levels.lists ≡ 2 * prices + 2
  pub by_owner : IsFiled (owner_key buckets) owner_at owners.lists ns
  pub owner_count : length owners.lists ≡ buckets
  pub some_bucket : 1 ≤ buckets
  pub depths : AreDepthsOf prices d (orders_in ns)
  pub held_room : capacity ≤ spare + length ns
  pub level_room : capacity ≤ levels.spare + length ns
  pub owner_room : capacity ≤ owners.spare + length ns

-- the same of the fields, where one list has the orders by place
pub record IsLinked (prices capacity buckets : ℕ) (held : Lists Held) (levels owners : Lists ℕ) (d : DepthView) : Type 0 where
  pub one : length held.lists ≡ 1
  pub holds : Holds prices capacity buckets (list_at held.lists 0) held.spare levels owners d
