use Rattle.mkt_io.specs.Printed.{◌and_then◌, before_lines, ended}
use Rattle.run_report.proofs.issue.print_end.Goals as goal

pub returns : goal.returns
returns g c = before_lines c.print_halted.ensures (ended (c.word.ensures and_then c.print_nodes.ensures) c.line_end.ensures)
