use Rattle.mkt_io.specs.Printed.{◌and_then◌}
use Rattle.run_report.proofs.events.print_order.Goals as goal

pub returns : goal.returns
returns g c =
    rw (c.participant_name.ensures, c.side_name.ensures, c.from.ensures) at
    (c.word.ensures and_then c.word-2.ensures and_then c.word-3.ensures and_then c.print_kind.ensures and_then c.number.ensures)
