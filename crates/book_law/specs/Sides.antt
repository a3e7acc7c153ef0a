-- The sides of a book: what they have left, and how often an order's place stands.
use Rattle.std.specs.Prelude.{ℕ, ◌==◌, Bool, List, count_by}
use Rattle.mkt_base.specs.Fills.{quantity, whole}
use Rattle.mkt_base.specs.declared.order.Order.{Order}

-- all that some orders have left
abbrev pub total : List Order → ℕ
total os = quantity (whole os)

-- the order stands at this place
abbrev pub has_place : ℕ → Order → Bool
has_place place o = place == o.place

-- how many of the orders stand at a place
abbrev pub count_at : ℕ → List Order → ℕ
count_at place os = count_by (has_place place) os
