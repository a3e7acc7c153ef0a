use Rattle.std.proofs.Common.{flat_map, take}
use Rattle.mkt_io.specs.Printed.{PrintsLines}
use Rattle.run_report.specs.Report.{show_line}
use Rattle.run_report.proofs.shows.print_all.Given as goal

-- the lines of the reads so far
abbrev pub invariant-loop-show : goal.invariant-loop-show
invariant-loop-show g l =
    PrintsLines g.O.Sink.contents g.O.Sink.faults l.fn.printer l.printer (flat_map (show_line l.rules) (take l.show-index l.shows))
