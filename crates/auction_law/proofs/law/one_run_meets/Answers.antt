use Rattle.auction_law.proofs.LawLemmas.{one_run_meets}
use Rattle.auction_law.proofs.law.one_run_meets.Goals as goal

pub returns : goal.returns
returns c = one_run_meets
