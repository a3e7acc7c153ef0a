use Rattle.mkt_io.specs.Printed.{◌and_then◌}
use Rattle.auction_report.proofs.lines.print_sums.Goals as goal

pub returns : goal.returns
returns g c = c.number.ensures and_then c.number-2.ensures and_then c.number-3.ensures and_then c.number-4.ensures
