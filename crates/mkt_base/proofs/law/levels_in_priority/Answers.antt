use Rattle.mkt_base.proofs.PriorityLemmas.{in_priority-ranked}
use Rattle.mkt_base.proofs.law.levels_in_priority.Goals as goal

pub returns : goal.returns
returns c = in_priority-ranked
