use Rattle.mkt_io.specs.Printed.{◌and_then◌}
use Rattle.run_report.proofs.shows.print_board.Goals as goal

pub returns : goal.returns
returns g c =
    rw (c.phase_name.ensures, c.from.ensures) at
    (c.number.ensures and_then c.word.ensures and_then c.number-2.ensures and_then c.print_price.ensures and_then c.print_price-2.ensures and_then c.print_quote.ensures)
