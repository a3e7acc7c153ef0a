use Rattle.mkt_io.specs.Printed.{ended}
use Rattle.rules_report.proofs.tables.print_end.Goals as goal

pub returns : goal.returns
returns g c = ended c.word.ensures c.line_end.ensures
