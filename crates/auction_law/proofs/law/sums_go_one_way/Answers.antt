use Rattle.auction_law.proofs.LawLemmas.{sums_go_one_way}
use Rattle.auction_law.proofs.law.sums_go_one_way.Goals as goal

pub returns : goal.returns
returns c = sums_go_one_way
