use Rattle.zaraba.proofs.PriceLawLemmas.{last_is_near}
use Rattle.zaraba.proofs.law.last_is_near.Goals as goal

pub returns : goal.returns
returns c = last_is_near
