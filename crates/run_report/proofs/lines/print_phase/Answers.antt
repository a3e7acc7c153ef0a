use Rattle.mkt_io.specs.Printed.{◌and_then◌, ended}
use Rattle.run_report.proofs.lines.print_phase.Goals as goal

pub returns : goal.returns
returns g c = rw c.phase_name.ensures at (ended (c.word.ensures and_then c.word-2.ensures) c.line_end.ensures)
