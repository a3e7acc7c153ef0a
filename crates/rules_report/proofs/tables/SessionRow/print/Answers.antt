use Rattle.mkt_io.specs.Printed.{◌and_then◌, ended}
use Rattle.rules_report.proofs.tables.SessionRow.print.Goals as goal

pub returns : goal.returns
returns g c = ended (c.word.ensures and_then c.moment.ensures and_then c.moment-2.ensures and_then c.moment-3.ensures) c.line_end.ensures
