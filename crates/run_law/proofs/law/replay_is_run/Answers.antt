use Rattle.run_law.proofs.RunLemmas.{replay-run}
use Rattle.run_law.proofs.law.replay_is_run.Goals as goal

pub returns : goal.returns
returns c = replay-run
