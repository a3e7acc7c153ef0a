use Rattle.mkt_io.specs.Printed.{◌and_then◌}
use Rattle.rules_report.proofs.fault.print_counted.Goals as goal

pub returns : goal.returns
returns g c = c.word.ensures and_then c.number.ensures
