use Rattle.std.proofs.Common.{◌≡◌, ◌*◌, ◌≤◌, take}
use Rattle.mkt_base.specs.Book.{total_left}
use Rattle.order_book.specs.Plain.{is_part}
use Rattle.order_book.proofs.total.total.Given as goal

abbrev pub invariant-loop-order : goal.invariant-loop-order
invariant-loop-order l = (l.sum ≡ total_left (is_part l.part) (take l.order-index l.orders)) × (l.sum ≤ 100000000 * l.order-index)
