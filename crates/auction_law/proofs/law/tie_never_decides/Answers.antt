use Rattle.auction_law.proofs.LawLemmas.{tie_never_decides}
use Rattle.auction_law.proofs.law.tie_never_decides.Goals as goal

pub returns : goal.returns
returns c = tie_never_decides
