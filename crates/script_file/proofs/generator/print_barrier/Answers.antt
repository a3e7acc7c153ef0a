use Rattle.mkt_io.specs.Printed.{ended}
use Rattle.script_file.proofs.generator.print_barrier.Goals as goal

pub returns : goal.returns
returns g c = ended c.word.ensures c.line_end.ensures
