use Rattle.std.proofs.Common.{subst, sym}
use Rattle.book_tests.specs.Open.{IsGrowing}
use Rattle.book_tests.proofs.OpenLemmas.{growing-without}
use Rattle.book_tests.proofs.tests.bodies.take_out_plain.Goals as goal

pub returns-in-Some : goal.returns-in-Some
returns-in-Some c = subst (IsGrowing c.args.next) (sym c.remove.ensures.book) (growing-without c.args.next _ c.args.book.now c.requires)
