use Rattle.order_book.proofs.book.Book.behind.Given as goal

abbrev pub ghosts-behind : goal.ghosts-behind
ghosts-behind a = record { name = a.blank.name; parts = a.blank.parts }
