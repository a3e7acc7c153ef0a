use Rattle.book_tests.proofs.OpenLemmas.{open-taken}
use Rattle.book_tests.proofs.tests.calls.take_from.Goals as goal

pub returns-then-by-order : goal.returns-then-by-order
returns-then-by-order c =
    open-taken c.args.next _ _ c.args.book.now c.take.new.book c.requires c.take.ensures.orders c.take.ensures.prices c.take.ensures.capacity c.take.ensures.count
