use Rattle.mkt_io.specs.Printed.{ended}
use Rattle.rules_report.proofs.fault.print_fault.Goals as goal

pub returns : goal.returns
returns g c = ended c.print_words.ensures c.line_end.ensures
