use Rattle.book_tests.proofs.tests.bodies.answers_are_alike.Given as goal

abbrev pub ghosts-counts_are_alike : goal.ghosts-counts_are_alike
ghosts-counts_are_alike a = record { name = a.blank.name; parts = a.blank.parts }
