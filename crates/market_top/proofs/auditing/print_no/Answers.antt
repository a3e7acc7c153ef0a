use Rattle.mkt_io.specs.Printed.{◌and_then◌, ended}
use Rattle.market_top.proofs.auditing.print_no.Goals as goal

pub returns : goal.returns
returns g c = ended (c.word.ensures and_then c.number.ensures) c.line_end.ensures
