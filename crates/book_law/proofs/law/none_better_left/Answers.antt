use Rattle.book_law.proofs.LeftLemmas.{none-better_left}
use Rattle.book_law.proofs.law.none_better_left.Goals as goal

pub returns : goal.returns
returns c = none-better_left
