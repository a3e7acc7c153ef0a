use Rattle.std.proofs.Common.{IsTrue, subst, sym}
use Rattle.auction_law.specs.Attempt.{is_calm}
use Rattle.book_law.specs.BookView.{orders}
use Rattle.zaraba_tests.proofs.OpenLemmas.{none-calm}
use Rattle.zaraba_tests.proofs.tests.arrivals.is_row.Goals as goal

pub arrivals-requires-clause-calm : goal.arrivals-requires-clause-calm
arrivals-requires-clause-calm c = subst (λ b. IsTrue (is_calm c.args.grid.now (orders b))) (sym c.requires.book) (none-calm c.args.grid.now)
