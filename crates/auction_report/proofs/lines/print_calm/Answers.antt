use Rattle.mkt_io.specs.Printed.{◌and_then◌, ended}
use Rattle.auction_report.proofs.lines.print_calm.Goals as goal

pub returns : goal.returns
returns g c = ended (c.word.ensures and_then c.print_price.ensures and_then c.print_price-2.ensures) c.line_end.ensures
