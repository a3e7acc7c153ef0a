use Rattle.std.proofs.Common.{◌+◌, ◌*◌, ◌/◌, arith, rules}
use Rattle.order_book.specs.Fields.{AreFields, book_of}
use Rattle.order_book.proofs.BookLemmas.{made-linked}
use Rattle.order_book.proofs.book.Book.make.Goals as goal

pub invariant_of-result : goal.invariant_of-result
unfolding AreFields book_of
invariant_of-result c =
    made-linked c.args.prices c.args.capacity (c.args.capacity / 4 + 1) c.in_ok-held_with_room.field-0 c.in_ok-lists_with_room.field-0 c.in_ok-lists_with_room-2.field-0 c.in_ok-map_err.field-0
    c.requires.some c.requires.few (omega (arith, c.ranges.capacity.fits)) (omega arith)
    c.in_ok-held_with_room.ensures.empty c.in_ok-lists_with_room.ensures.empty c.in_ok-lists_with_room-2.ensures.empty
    c.in_ok-held_with_room.ensures.room c.in_ok-lists_with_room.ensures.room c.in_ok-lists_with_room-2.ensures.room
    (search rules) (search rules) (search rules) (search rules) (search rules)
