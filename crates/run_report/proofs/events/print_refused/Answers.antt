use Rattle.mkt_io.specs.Printed.{◌and_then◌}
use Rattle.run_report.proofs.events.print_refused.Goals as goal

pub returns : goal.returns
returns g c =
    rw c.number_of.ensures at (c.word.ensures and_then c.number.ensures and_then c.print_reason.ensures)
