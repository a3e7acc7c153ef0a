use Rattle.std.proofs.Common.{subst, sym}
use Rattle.book_tests.specs.Open.{IsOpen}
use Rattle.book_tests.proofs.OpenLemmas.{open-without}
use Rattle.book_tests.proofs.tests.calls.take_out.Goals as goal

pub returns-in-Some : goal.returns-in-Some
returns-in-Some c = subst (IsOpen c.args.next) (sym c.remove.ensures.book) (open-without c.args.next _ c.args.book.now c.requires)
