use Rattle.mkt_base.proofs.TradeLemmas.{trades-twice}
use Rattle.mkt_base.proofs.law.trades_in_turn.Goals as goal

pub returns : goal.returns
returns c = trades-twice
