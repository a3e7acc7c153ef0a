use Rattle.run_report.proofs.JournalLemmas.{step_shown}
use Rattle.run_report.proofs.issue.step_one.Goals as goal

pub returns-clause-shown : goal.returns-clause-shown
returns-clause-shown g c =
    step_shown c.args.machine.now c.args.entry.now c.entry.ensures c.step-reply.ensures.told (rw c.step-reply.ensures.reply at c.reply.ensures)
