use Rattle.itayose.proofs.FairLemmas.{trades_are_whole}
use Rattle.itayose.proofs.law.trades_are_whole.Goals as goal

pub returns : goal.returns
returns c = trades_are_whole
