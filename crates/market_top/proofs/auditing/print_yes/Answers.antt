use Rattle.mkt_io.specs.Printed.{ended}
use Rattle.market_top.proofs.auditing.print_yes.Goals as goal

pub returns : goal.returns
returns g c = ended c.word.ensures c.line_end.ensures
