use Rattle.std.proofs.Common.{flat_map}
use Rattle.std.specs.List.{range_with_len}
use Rattle.mkt_io.specs.Printed.{PrintsLines}
use Rattle.rules_report.specs.Tables.{issue_line}
use Rattle.rules_report.proofs.tables.print_issues.Given as goal

-- the lines of the issues so far
abbrev pub invariant-loop-i : goal.invariant-loop-i
invariant-loop-i g l =
    PrintsLines g.O.Sink.contents g.O.Sink.faults l.fn.printer l.printer (flat_map (issue_line l.rules) (range_with_len 0 l.i))
