use Rattle.mkt_io.specs.Printed.{◌and_then◌, ended}
use Rattle.run_report.proofs.shows.print_show.Goals as goal

pub returns : goal.returns
returns g c =
    let line = rw c.from.ensures at c.number.ensures in
    let gateway = rw c.caller_name.ensures at c.word-2.ensures in
    let issue = rw c.issue_name.ensures at c.word-3.ensures in
    ended (c.word.ensures and_then line and_then gateway and_then issue and_then c.print_board.ensures) c.line_end.ensures
