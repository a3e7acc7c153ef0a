use Rattle.zaraba.proofs.ShareLawLemmas.{none_fills_more}
use Rattle.zaraba.proofs.law.none_fills_more.Goals as goal

pub returns : goal.returns
returns c = none_fills_more
