use Rattle.run_report.proofs.events.print_reason.Goals as goal

pub returns-in-TimeBack : goal.returns-in-TimeBack
returns-in-TimeBack g c = rw c.in-TimeBack.is c.moment.ensures
