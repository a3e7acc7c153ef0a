use Rattle.std.proofs.Common.{◌≡◌, ℕ, List, ◌++◌, drop}
use Rattle.mkt_io.specs.Printed.{PrintsLines}
use Rattle.run_report.specs.Summed.{issue_totals}
use Rattle.run_report.proofs.totals.print_totals.Given as goal

-- the lines so far are printed, and those that are left make them all
abbrev pub invariant-loop-i : goal.invariant-loop-i
invariant-loop-i g l = record {
  text : List ℕ;
  printed : PrintsLines g.O.Sink.contents g.O.Sink.faults l.fn.printer l.printer text;
  whole : text ++ issue_totals l.rules l.i (drop l.i l.issues) ≡ issue_totals l.rules 0 l.issues;
}
