use Rattle.list_tests.proofs.tests.sums.reads_are_those_of_plain_sums.Given as goal

abbrev pub ghosts-compare_all : goal.ghosts-compare_all
ghosts-compare_all g a = record { name = a.blank.name; parts = a.blank.parts }
