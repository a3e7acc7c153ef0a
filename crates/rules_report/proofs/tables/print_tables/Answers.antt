use Rattle.mkt_io.specs.Printed.{before_lines}
use Rattle.rules_report.proofs.tables.print_tables.Goals as goal

pub returns : goal.returns
returns g c =
    let sessions = rw c.as_slice.ensures at c.print_rows.ensures in
    let rounds = rw c.as_slice-2.ensures at c.print_rows-2.ensures in
    before_lines (before_lines (before_lines c.print_issues.ensures sessions) rounds) c.print_end.ensures
