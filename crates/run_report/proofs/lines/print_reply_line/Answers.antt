use Rattle.mkt_io.specs.Printed.{◌and_then◌, ended}
use Rattle.run_report.proofs.lines.print_reply_line.Goals as goal

pub returns : goal.returns
returns g c = ended (c.word.ensures and_then c.print_reply.ensures) c.line_end.ensures
