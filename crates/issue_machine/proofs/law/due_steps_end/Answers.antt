use Rattle.issue_machine.proofs.DueLemmas.{due-steps-end}
use Rattle.issue_machine.proofs.law.due_steps_end.Goals as goal

pub returns : goal.returns
returns c = due-steps-end
