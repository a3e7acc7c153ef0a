use Rattle.book_law.proofs.Sides.{in_priority-after}
use Rattle.book_law.proofs.law.trades_keep_priority.Goals as goal

pub returns : goal.returns
returns c = in_priority-after
