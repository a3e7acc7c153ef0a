use Rattle.mkt_io.specs.Printed.{◌and_then◌, ended}
use Rattle.run_report.proofs.lines.print_auction.Goals as goal

pub returns : goal.returns
returns g c =
    rw (c.from.ensures, c.from-2.ensures, c.from-3.ensures) at
    (ended (c.word.ensures and_then c.number.ensures and_then c.number-2.ensures and_then c.number-3.ensures) c.line_end.ensures)
