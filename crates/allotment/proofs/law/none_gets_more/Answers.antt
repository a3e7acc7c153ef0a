use Rattle.allotment.proofs.LawLemmas.{none_gets_more}
use Rattle.allotment.proofs.law.none_gets_more.Goals as goal

pub returns : goal.returns
returns c = none_gets_more
