use Rattle.session_phase.proofs.SessionLemmas.{boundaries-rise}
use Rattle.session_phase.proofs.law.boundaries_rise.Goals as goal

pub returns : goal.returns
returns c = boundaries-rise
