use Rattle.allotment.proofs.LawLemmas.{shares_add_up}
use Rattle.allotment.proofs.law.shares_add_up.Goals as goal

pub returns : goal.returns
returns c = shares_add_up
