use Rattle.mkt_io.specs.Printed.{◌and_then◌, ended}
use Rattle.rules_report.proofs.tables.print_issue.Goals as goal

pub returns : goal.returns
returns g c =
    rw c.issue-issue.ensures.value
    (rw c.issue_name.ensures at (ended (c.word.ensures and_then c.word-2.ensures and_then c.print_issue_words.ensures) c.line_end.ensures))
