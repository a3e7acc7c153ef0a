use Rattle.book_tests.specs.Open.{IsOpen}
use Rattle.book_tests.proofs.tests.calls.a_table_of_calls.Given as goal

abbrev pub invariant-loop-line : goal.invariant-loop-line
invariant-loop-line g l = IsOpen l.next l.book
