-- The four sums that a book answers, as those of a price.
use Rattle.std.specs.Prelude.{ℕ}
use Rattle.mkt_base.specs.declared.auction.Sums.{Sums}
use Rattle.order_book.specs.declared.levels.Levels.{Levels}

-- the four sums with the price that they belong to
abbrev pub with_price : ℕ → Levels → Sums
with_price p l = record { price = record { 0 = p }; buys = l.buys; above = l.above; sells = l.sells; below = l.below }
