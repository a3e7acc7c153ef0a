use Rattle.market_top.proofs.VerdictLemmas.{memory-status, refused-status}
use Rattle.market_top.proofs.check.status_of.Goals as goal

pub returns-in-Some : goal.returns-in-Some
returns-in-Some c = refused-status _ _ c.in-Some.ensures

pub returns-in-None : goal.returns-in-None
returns-in-None c = memory-status _ c.in-None.ensures
