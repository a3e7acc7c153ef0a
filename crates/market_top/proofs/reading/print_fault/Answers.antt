use Rattle.mkt_io.specs.Printed.{◌and_then◌, ended}
use Rattle.market_top.proofs.reading.print_fault.Goals as goal

pub returns : goal.returns
returns g c =
    rw (c.from.ensures, c.from-2.ensures) at (ended (c.word.ensures and_then c.number.ensures and_then c.number-2.ensures) c.line_end.ensures)
