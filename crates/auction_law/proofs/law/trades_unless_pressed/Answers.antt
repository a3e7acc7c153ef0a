use Rattle.auction_law.proofs.AttemptLemmas.{trades_unless_pressed}
use Rattle.auction_law.proofs.law.trades_unless_pressed.Goals as goal

pub returns : goal.returns
returns c = trades_unless_pressed
