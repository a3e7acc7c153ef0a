use Rattle.mkt_io.specs.Printed.{◌and_then◌}
use Rattle.run_report.proofs.events.print_event.Goals as goal

pub returns-in-Clock : goal.returns-in-Clock
returns-in-Clock g c = rw c.in-Clock.is (c.word.ensures and_then c.moment.ensures)
