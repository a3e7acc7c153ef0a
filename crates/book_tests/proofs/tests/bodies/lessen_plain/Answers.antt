use Rattle.std.proofs.Common.{subst, sym}
use Rattle.book_tests.specs.Open.{IsGrowing}
use Rattle.book_tests.proofs.OpenLemmas.{growing-reduced}
use Rattle.book_tests.proofs.tests.bodies.lessen_plain.Goals as goal

pub returns-then-by-order : goal.returns-then-by-order
returns-then-by-order c = subst (IsGrowing c.args.next) (sym c.reduce.ensures) (growing-reduced c.args.next _ _ c.args.book.now c.requires)
