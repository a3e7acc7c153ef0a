use Rattle.audit.proofs.FillLemmas.{none-asked}
use Rattle.audit.proofs.told.Told.finish.Goals as goal

pub returns-in_ok-close-in-Going-clause-asked : goal.returns-in_ok-close-in-Going-clause-asked
returns-in_ok-close-in-Going-clause-asked c = none-asked c.args.self.now c.fill_up.result c.in-Going.is c.in_ok-close-in-Going.ensures.none_asked
