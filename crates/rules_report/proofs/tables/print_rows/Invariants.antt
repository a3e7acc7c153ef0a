use Rattle.std.proofs.Common.{flat_map, take}
use Rattle.mkt_io.specs.Printed.{PrintsLines}
use Rattle.rules_report.proofs.tables.print_rows.Given as goal

-- the lines of the rows so far
abbrev pub invariant-loop-row : goal.invariant-loop-row
invariant-loop-row g l =
    PrintsLines g.O.Sink.contents g.O.Sink.faults l.fn.printer l.printer (flat_map g.R.Row.text (take l.row-index l.rows))
