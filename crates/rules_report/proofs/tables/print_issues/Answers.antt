use Rattle.std.proofs.Common.{◌≡◌, ap, arith, length, flat_map}
use Rattle.std.specs.List.{range_with_len}
use Rattle.mkt_io.specs.Printed.{before_lines, no_lines, same_lines}
use Rattle.rules_file.specs.Rules.{issues_in}
use Rattle.rules_report.proofs.LineLemmas.{lines-next}
use Rattle.rules_report.specs.Tables.{issue_line}
use Rattle.rules_report.proofs.tables.print_issues.Goals as goal

pub loop-i-init : goal.loop-i-init
loop-i-init g c = no_lines

pub loop-i-preserved : goal.loop-i-preserved
loop-i-preserved g c = same_lines (lines-next (issue_line c.args.rules.now) c.loop-i.i) (before_lines c.loop-i.invariant c.print_issue.ensures)

pub returns : goal.returns
returns g c =
    let all : c.loop-i.i ≡ length (issues_in c.args.rules.now) = omega (arith, c.issues-i-end.ensures.value) in
    same_lines (ap (λ n. flat_map (issue_line c.args.rules.now) (range_with_len 0 n)) all) c.loop-i.invariant
