use Rattle.mkt_io.specs.Printed.{◌and_then◌}
use Rattle.run_report.proofs.events.print_taken.Goals as goal

pub returns : goal.returns
returns g c = c.word.ensures and_then c.number.ensures and_then c.number-2.ensures and_then c.number-3.ensures
