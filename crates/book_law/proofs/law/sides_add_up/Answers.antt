use Rattle.book_law.proofs.SideSums.{sum-priority}
use Rattle.book_law.proofs.law.sides_add_up.Goals as goal

pub returns : goal.returns
returns c = λ f n side orders stands. sum-priority f n side orders stands.spots
