use Rattle.zaraba.proofs.ShareLawLemmas.{bought_is_sold}
use Rattle.zaraba.proofs.law.bought_is_sold.Goals as goal

pub returns : goal.returns
returns c = bought_is_sold
