use Rattle.auction_law.proofs.LawLemmas.{one_answer}
use Rattle.auction_law.proofs.law.one_answer.Goals as goal

pub returns : goal.returns
returns c = one_answer
