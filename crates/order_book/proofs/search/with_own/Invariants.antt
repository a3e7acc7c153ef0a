use Rattle.std.proofs.Common.{◌≡◌}
use Rattle.std.specs.List.{find}
use Rattle.std.proofs.Math.ListN.{drop}
use Rattle.book_law.specs.BookView.{is_of}
use Rattle.order_book.proofs.search.with_own.Given as goal

abbrev pub invariant-loop-order : goal.invariant-loop-order
invariant-loop-order l = find (is_of l.caller l.own) (drop l.order-index l.orders) ≡ find (is_of l.caller l.own) l.orders
