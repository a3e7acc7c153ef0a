use Rattle.mkt_io.specs.Printed.{◌and_then◌}
use Rattle.rules_report.proofs.tables.print_round_words.Goals as goal

pub returns-in-Units : goal.returns-in-Units
returns-in-Units g c = rw (c.in-Units.is, ← c.from.ensures) (c.word.ensures and_then c.number.ensures)

pub returns-in-Part : goal.returns-in-Part
returns-in-Part g c =
    rw (c.in-Part.is, ← c.from-in-Part.ensures, ← c.from-in-Part-2.ensures) (c.word-in-Part.ensures and_then c.number-in-Part.ensures and_then c.number-in-Part-2.ensures)
