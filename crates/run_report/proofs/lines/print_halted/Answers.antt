use Rattle.mkt_io.specs.Printed.{◌and_then◌, ended}
use Rattle.run_report.proofs.lines.print_halted.Goals as goal

pub returns-in-Some : goal.returns-in-Some
returns-in-Some g c =
    let caller = rw c.caller_name.ensures at c.word-in-Some.ensures in
    let own = rw c.from.ensures at c.number.ensures in
    rw c.in-Some.is (ended (c.word.ensures and_then caller and_then own and_then c.print_event.ensures) c.line_end.ensures)
