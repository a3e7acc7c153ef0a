use Rattle.itayose.proofs.FairLemmas.{close_trades_fairly}
use Rattle.itayose.proofs.law.close_trades_fairly.Goals as goal

pub returns : goal.returns
returns c = close_trades_fairly
