use Rattle.std.proofs.Common.{◌≡◌, []}
use Rattle.book_tests.proofs.tests.calls.room_comes_back.Given as goal

abbrev pub invariant-loop-number : goal.invariant-loop-number
invariant-loop-number g l = l.book ≡ record { prices = 1; capacity = 1; slots = [] }
