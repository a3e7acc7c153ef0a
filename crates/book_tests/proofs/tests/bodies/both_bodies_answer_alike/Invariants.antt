use Rattle.book_tests.specs.Open.{IsGrowing}
use Rattle.book_tests.proofs.tests.bodies.both_bodies_answer_alike.Given as goal

abbrev pub invariant-loop-number : goal.invariant-loop-number
invariant-loop-number g l = record { linked : IsGrowing l.number l.linked; plain : IsGrowing l.number l.plain }
