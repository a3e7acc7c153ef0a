use Rattle.issue_machine.proofs.HistoryLemmas.{nodes-go}
use Rattle.issue_machine.proofs.law.nodes_go_by_their_rules.Goals as goal

pub returns : goal.returns
returns c = nodes-go
