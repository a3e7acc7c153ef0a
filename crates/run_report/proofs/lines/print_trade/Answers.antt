use Rattle.mkt_io.specs.Printed.{◌and_then◌, ended}
use Rattle.run_report.proofs.lines.print_trade.Goals as goal

pub returns : goal.returns
returns g c =
    rw c.from.ensures at
    (ended (c.word.ensures and_then c.number.ensures and_then c.number-2.ensures and_then c.number-3.ensures and_then c.number-4.ensures) c.line_end.ensures)
