use Rattle.mkt_io.specs.Printed.{◌and_then◌, ended}
use Rattle.script_file.proofs.generator.print_order.Goals as goal

pub returns : goal.returns
returns g c =
    rw (c.gateway_word.ensures, c.issue_word.ensures, c.participant_word.ensures, c.side_word.ensures)
    at (ended (c.word.ensures and_then c.word-2.ensures and_then c.word-3.ensures and_then c.word-4.ensures and_then c.word-5.ensures and_then c.print_limit.ensures and_then c.number.ensures) c.line_end.ensures)
