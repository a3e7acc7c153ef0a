use Rattle.mkt_io.specs.Printed.{before_lines}
use Rattle.auction_report.proofs.certificate.print_certificate.Goals as goal

pub returns : goal.returns
returns g c = rw c.as_slice.ensures at (before_lines c.print_nearer.ensures c.print_outcome.ensures)
