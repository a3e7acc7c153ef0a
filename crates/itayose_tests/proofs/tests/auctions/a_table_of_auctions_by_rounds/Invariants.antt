use Rattle.itayose_tests.proofs.tests.auctions.a_table_of_auctions_by_rounds.Given as goal

abbrev pub ghosts-auction : goal.ghosts-auction
ghosts-auction g a = record { name = a.blank.name; parts = a.blank.parts }
