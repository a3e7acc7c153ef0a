use Rattle.std.specs.Option.{IfSome}
use Rattle.book_law.specs.BookView.{IsLive}
use Rattle.book_tests.proofs.tests.bodies.walks_are_alike.Given as goal

-- the handles of both walks are live
abbrev pub invariant-loop-step : goal.invariant-loop-step
invariant-loop-step l = record {
  one : IfSome l.one (λ handle. IsLive l.linked handle);
  other : IfSome l.other (λ handle. IsLive l.plain handle);
}
