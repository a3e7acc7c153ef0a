use Rattle.zaraba.proofs.PriceLawLemmas.{trades_stand}
use Rattle.zaraba.proofs.law.trades_stand.Goals as goal

pub returns : goal.returns
returns c = trades_stand
