use Rattle.std.proofs.Common.{take}
use Rattle.order_book.specs.Plain.{IsFirst}
use Rattle.order_book.proofs.search.first_of.Given as goal

abbrev pub invariant-loop-order : goal.invariant-loop-order
invariant-loop-order l = IsFirst l.prices l.side l.after (take l.order-index l.orders) l.first
