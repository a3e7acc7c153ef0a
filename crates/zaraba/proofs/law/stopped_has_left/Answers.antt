use Rattle.zaraba.proofs.PriceLawLemmas.{stopped_has_left}
use Rattle.zaraba.proofs.law.stopped_has_left.Goals as goal

pub returns : goal.returns
returns c = stopped_has_left
