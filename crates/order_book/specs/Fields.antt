-- The fields of a `Book` as contracts and the crates above have them: a word for what holds of them and a word for the book that they
-- stand for, neither of which is seen through there. No public clause cites this module.
use Rattle.std.specs.Prelude.{ℕ, List}
use Rattle.order_list.specs.Lists.{Linked, Lists}
use Rattle.book_law.specs.BookView.{BookView}
use Rattle.order_book.specs.Linked.{IsLinked, linked}
use Rattle.order_book.specs.Depths.{DepthView}
use Rattle.order_book.specs.declared.held.Held.{Held}

-- what holds of the fields of every book
unfoldable pub AreFields : ℕ → ℕ → ℕ → Lists Held → Lists ℕ → Lists ℕ → DepthView → Type 0
AreFields prices capacity buckets held levels owners depths = IsLinked prices capacity buckets held levels owners depths

-- the book that they stand for
unfoldable pub book_of : ℕ → ℕ → List (List (Linked Held)) → BookView
book_of prices capacity lists = linked prices capacity lists
