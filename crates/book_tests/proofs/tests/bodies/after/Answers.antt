use Rattle.book_tests.proofs.OpenLemmas.{next-live}
use Rattle.book_tests.proofs.tests.bodies.after.Goals as goal

pub returns : goal.returns
returns c = next-live c.args.book.now _ c.next.result (c.next.ensures.after c.order-named.result c.order-named.ensures)
