use Rattle.mkt_io.specs.Printed.{ended}
use Rattle.run_report.proofs.report.print_end.Goals as goal

pub returns : goal.returns
returns g c = ended c.word.ensures c.line_end.ensures
