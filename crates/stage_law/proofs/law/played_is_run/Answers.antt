use Rattle.stage_law.proofs.Halting.{played-run}
use Rattle.stage_law.proofs.law.played_is_run.Goals as goal

pub returns : goal.returns
returns c = played-run
