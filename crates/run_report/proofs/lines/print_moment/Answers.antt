use Rattle.run_report.proofs.lines.print_moment.Goals as goal

pub returns-in-Some : goal.returns-in-Some
returns-in-Some g c = rw c.in-Some.is c.moment.ensures
