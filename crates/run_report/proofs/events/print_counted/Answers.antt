use Rattle.mkt_io.specs.Printed.{◌and_then◌}
use Rattle.run_report.proofs.events.print_counted.Goals as goal

pub returns : goal.returns
returns g c = c.word.ensures and_then c.number.ensures
