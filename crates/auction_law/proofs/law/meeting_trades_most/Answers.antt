use Rattle.auction_law.proofs.LawLemmas.{meeting_trades_most}
use Rattle.auction_law.proofs.law.meeting_trades_most.Goals as goal

pub returns : goal.returns
returns c = meeting_trades_most
