use Rattle.book_tests.proofs.OpenLemmas.{found-live}
use Rattle.book_tests.proofs.tests.bodies.named.Goals as goal

pub returns : goal.returns
returns c = found-live c.args.book.now _ c.find.result c.find.ensures
