use Rattle.mkt_io.specs.Printed.{before_lines}
use Rattle.run_report.proofs.FrontLemmas.{front_all, front_of_longer}
use Rattle.run_report.proofs.totals.print_sums.Goals as goal

pub returns-in_err-print_totals-clause-front : goal.returns-in_err-print_totals-clause-front
returns-in_err-print_totals-clause-front g c = front_of_longer _ c.print_totals.ensures.front

pub returns-clause-front : goal.returns-clause-front
returns-clause-front g c = front_all (before_lines c.in_ok-print_totals.ensures.whole c.print_end.ensures)

pub returns-clause-whole : goal.returns-clause-whole
returns-clause-whole g c = before_lines c.in_ok-print_totals.ensures.whole c.print_end.ensures
