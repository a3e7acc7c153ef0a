use Rattle.issue_machine.proofs.HistoryLemmas.{history-journal}
use Rattle.issue_machine.proofs.law.history_is_journal.Goals as goal

pub returns : goal.returns
returns c = history-journal
