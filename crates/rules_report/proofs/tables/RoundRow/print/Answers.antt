use Rattle.mkt_io.specs.Printed.{◌and_then◌, ended}
use Rattle.rules_report.proofs.tables.RoundRow.print.Goals as goal

pub returns : goal.returns
returns g c = ended (c.word.ensures and_then c.print_round_words.ensures) c.line_end.ensures
