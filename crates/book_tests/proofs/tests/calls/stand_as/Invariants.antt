use Rattle.std.specs.Option.{IfSome}
use Rattle.book_law.specs.BookView.{IsLive}
use Rattle.book_tests.proofs.tests.calls.stand_as.Given as goal

-- the handle of the walk is live
abbrev pub invariant-loop-number : goal.invariant-loop-number
invariant-loop-number l = IfSome l.place (λ handle. IsLive l.book handle)
