use Rattle.mkt_io.specs.Printed.{◌and_then◌}
use Rattle.rules_report.proofs.fault.print_words.Goals as goal

pub returns-in-Some : goal.returns-in-Some
returns-in-Some g c =
    rw (← c.in-Some.ensures) (rw c.from.ensures at (c.word.ensures and_then c.number-in-Some.ensures and_then c.print_details.ensures))
