use Rattle.order_book.proofs.depths.Depths.sub.Given as goal

abbrev pub ghosts-buy_after : goal.ghosts-buy_after
ghosts-buy_after a = record { name = a.blank.name; parts = a.blank.parts }

abbrev pub ghosts-sell_after : goal.ghosts-sell_after
ghosts-sell_after a = record { name = a.blank.name; parts = a.blank.parts }
