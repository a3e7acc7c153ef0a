use Rattle.itayose.proofs.FairLemmas.{none_trades_more}
use Rattle.itayose.proofs.law.none_trades_more.Goals as goal

pub returns : goal.returns
returns c = none_trades_more
