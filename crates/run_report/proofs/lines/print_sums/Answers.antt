use Rattle.mkt_io.specs.Printed.{◌and_then◌}
use Rattle.run_report.proofs.lines.print_sums.Goals as goal

pub returns : goal.returns
returns g c =
    rw c.from.ensures at
    (c.word.ensures and_then c.number.ensures and_then c.word-2.ensures and_then c.number-2.ensures and_then c.word-3.ensures
    and_then c.number-3.ensures and_then c.word-4.ensures and_then c.number-4.ensures)
