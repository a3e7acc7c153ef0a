use Rattle.list_tests.proofs.tests.sums.a_sum_of_five_positions_is_read.Given as goal

abbrev pub ghosts-read_five : goal.ghosts-read_five
ghosts-read_five g a = record { name = a.blank.name; parts = a.blank.parts }
