use Rattle.mkt_io.specs.Printed.{before_lines}
use Rattle.run_report.proofs.FrontLemmas.{front_all, front_of_longer, front_then}
use Rattle.run_report.proofs.report.print_report.Goals as goal

pub returns-in_err-print_parts-clause-front : goal.returns-in_err-print_parts-clause-front
returns-in_err-print_parts-clause-front g c = front_of_longer _ (front_of_longer _ (front_then c.print_begin.ensures c.print_parts.ensures.front))

pub returns-clause-front : goal.returns-clause-front
returns-clause-front g c =
    front_all (before_lines (before_lines (before_lines c.print_begin.ensures c.in_ok-print_parts.ensures.whole) c.print_shows.ensures.printed) c.print_end.ensures)

pub returns-clause-whole : goal.returns-clause-whole
returns-clause-whole g c =
    before_lines (before_lines (before_lines c.print_begin.ensures c.in_ok-print_parts.ensures.whole) c.print_shows.ensures.printed) c.print_end.ensures
