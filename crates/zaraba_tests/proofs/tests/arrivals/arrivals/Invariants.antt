use Rattle.std.proofs.Common.{◌≡◌, ◌<◌, IsTrue, length}
use Rattle.auction_law.specs.Attempt.{is_calm}
use Rattle.book_law.specs.BookView.{orders}
use Rattle.zaraba.specs.declared.stop.Stop.TheVariants.{Done}
use Rattle.zaraba_tests.specs.Open.{IsOpen}
use Rattle.zaraba_tests.proofs.tests.arrivals.arrivals.Given as goal

abbrev pub invariant-loop-rest : goal.invariant-loop-rest
invariant-loop-rest l = record {
  open_book : IsOpen l.number l.book;
  calm : l.arrived.stop ≡ Done → IsTrue (is_calm l.grid (orders l.book));
  within : l.arrived.last < 8;
}

abbrev pub decreases-loop-rest : goal.decreases-loop-rest
decreases-loop-rest l = length l.rest
