use Rattle.std.proofs.Common.{◌≡◌, ◌<◌, length, map, take}
use Rattle.mkt_base.specs.ReportWords.{node_state_word}
use Rattle.mkt_io.specs.Printed.{PrintsWords}
use Rattle.run_report.specs.Report.{nodes_at_end}
use Rattle.run_report.proofs.issue.print_nodes.Given as goal

-- the words of the first nodes; and there are three, once one was asked for
abbrev pub invariant-loop-n : goal.invariant-loop-n
invariant-loop-n g l = record {
  printed : PrintsWords g.O.Sink.contents g.O.Sink.faults l.fn.printer l.printer (map node_state_word (take l.n (nodes_at_end l.halt l.machine.issue.state)));
  three : 0 < l.n → length (nodes_at_end l.halt l.machine.issue.state) ≡ 3;
}
