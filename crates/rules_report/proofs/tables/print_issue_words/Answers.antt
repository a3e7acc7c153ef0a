use Rattle.mkt_io.specs.Printed.{◌and_then◌}
use Rattle.rules_report.proofs.tables.print_issue_words.Goals as goal

pub returns : goal.returns
returns g c =
    rw (c.from.ensures, c.from-2.ensures, c.from-3.ensures, c.from-4.ensures, c.from-5.ensures) at
    (c.word.ensures and_then c.number.ensures and_then c.word-2.ensures and_then c.number-2.ensures and_then c.word-3.ensures
    and_then c.number-3.ensures and_then c.word-4.ensures and_then c.number-4.ensures and_then c.word-5.ensures and_then c.number-5.ensures)
