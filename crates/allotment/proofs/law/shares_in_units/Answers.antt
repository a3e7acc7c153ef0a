use Rattle.allotment.proofs.UnitLemmas.{shares_in_units}
use Rattle.allotment.proofs.law.shares_in_units.Goals as goal

pub returns : goal.returns
returns c = shares_in_units
