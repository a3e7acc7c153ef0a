use Rattle.std.proofs.Common.{subst, sym}
use Rattle.book_tests.specs.Open.{IsOpen}
use Rattle.book_tests.proofs.OpenLemmas.{open-reduced}
use Rattle.book_tests.proofs.tests.calls.lessen.Goals as goal

pub returns-then-by-order : goal.returns-then-by-order
returns-then-by-order c = subst (IsOpen c.args.next) (sym c.reduce.ensures) (open-reduced c.args.next _ _ c.args.book.now c.requires)
