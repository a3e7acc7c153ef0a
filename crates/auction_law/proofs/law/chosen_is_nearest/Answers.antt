use Rattle.auction_law.proofs.LawLemmas.{chosen_is_nearest}
use Rattle.auction_law.proofs.law.chosen_is_nearest.Goals as goal

pub returns : goal.returns
returns c = chosen_is_nearest
