use Rattle.mkt_io.specs.Printed.{◌and_then◌, ended}
use Rattle.run_report.proofs.lines.print_entry_line.Goals as goal

pub returns : goal.returns
returns g c =
    let caller = rw c.caller_name.ensures at c.word.ensures in
    let own = rw c.from.ensures at c.number-2.ensures in
    ended (c.number.ensures and_then caller and_then own and_then c.print_event.ensures) c.line_end.ensures
