use Rattle.mkt_io.specs.Printed.{◌and_then◌}
use Rattle.run_report.proofs.lines.print_quote_words.Goals as goal

pub returns : goal.returns
returns g c =
    rw (c.quote_kind_name.ensures, c.side_name.ensures, c.from.ensures) at
    (c.word.ensures and_then c.word-2.ensures and_then c.number.ensures and_then c.print_moment.ensures)
