use Rattle.itayose_tests.proofs.tests.searched.both_attempts_agree.Given as goal

abbrev pub ghosts-agree : goal.ghosts-agree
ghosts-agree g a = record { name = a.blank.name; parts = a.blank.parts }
