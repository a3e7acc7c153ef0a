use Rattle.itayose.proofs.LawLemmas.{calm_afterwards}
use Rattle.itayose.proofs.law.calm_afterwards.Goals as goal

pub returns : goal.returns
returns c = calm_afterwards
