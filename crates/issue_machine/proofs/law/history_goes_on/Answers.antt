use Rattle.issue_machine.proofs.HistoryLemmas.{history-on}
use Rattle.issue_machine.proofs.law.history_goes_on.Goals as goal

pub returns : goal.returns
returns c = history-on
