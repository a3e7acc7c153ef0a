use Rattle.auction_law.proofs.LawLemmas.{trades_where_some_meets}
use Rattle.auction_law.proofs.law.trades_where_some_meets.Goals as goal

pub returns : goal.returns
returns c = trades_where_some_meets
