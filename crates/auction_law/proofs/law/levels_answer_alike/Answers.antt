use Rattle.auction_law.proofs.LevelLemmas.{levels_answer_alike}
use Rattle.auction_law.proofs.law.levels_answer_alike.Goals as goal

pub returns : goal.returns
returns c = levels_answer_alike
