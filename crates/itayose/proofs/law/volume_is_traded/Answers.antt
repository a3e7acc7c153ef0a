use Rattle.itayose.proofs.LawLemmas.{volume_is_traded}
use Rattle.itayose.proofs.law.volume_is_traded.Goals as goal

pub returns : goal.returns
returns c = volume_is_traded
