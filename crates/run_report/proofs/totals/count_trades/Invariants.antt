use Rattle.std.proofs.Common.{drop}
use Rattle.issue_machine.specs.Step.{replay, state_from}
use Rattle.run_report.specs.Report.{trades_of}
use Rattle.run_report.proofs.CountLemmas.{IsCounting}
use Rattle.run_report.proofs.totals.count_trades.Given as goal

abbrev pub invariant-loop-entry : goal.invariant-loop-entry
invariant-loop-entry l =
    IsCounting l.initial.watch.tally (trades_of (replay l.fn.machine.issue.terms l.fn.machine.issue.state l.journal))
    (state_from l.fn.machine.issue.terms l.journal l.fn.machine.issue.state) l.machine l.watch (drop l.entry-index l.journal)
