use Rattle.mkt_io.specs.Printed.{◌and_then◌, ended}
use Rattle.script_file.proofs.generator.print_clock.Goals as goal

pub returns : goal.returns
returns g c = ended (c.word.ensures and_then c.word-2.ensures and_then c.word-3.ensures and_then c.word-4.ensures) c.line_end.ensures
