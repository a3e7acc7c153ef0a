use Rattle.issue_journal.proofs.FewLemmas.{losses-few}
use Rattle.issue_journal.proofs.law.losses_stay_few.Goals as goal

pub returns : goal.returns
returns c = losses-few
