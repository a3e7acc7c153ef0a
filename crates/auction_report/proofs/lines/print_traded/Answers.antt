use Rattle.mkt_io.specs.Printed.{◌and_then◌, ended}
use Rattle.auction_report.proofs.lines.print_traded.Goals as goal

pub returns : goal.returns
returns g c = rw c.from.ensures at (ended (c.word.ensures and_then c.number.ensures and_then c.number-2.ensures and_then c.print_sums.ensures) c.line_end.ensures)
