use Rattle.std.proofs.Common.{length}
use Rattle.itayose_tests.specs.Open.{IsOpen}
use Rattle.itayose_tests.proofs.tests.auctions.filled.Given as goal

abbrev pub invariant-loop-rest : goal.invariant-loop-rest
invariant-loop-rest l = IsOpen l.next l.book

abbrev pub decreases-loop-rest : goal.decreases-loop-rest
decreases-loop-rest l = length l.rest
