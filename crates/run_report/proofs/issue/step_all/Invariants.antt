use Rattle.std.proofs.Common.{drop, flat_map}
use Rattle.issue_machine.specs.Step.{replay, state_from}
use Rattle.run_report.specs.Report.{done_text, trades_of}
use Rattle.run_report.proofs.JournalLemmas.{IsStepping}
use Rattle.run_report.proofs.issue.step_all.Given as goal

abbrev pub invariant-loop-entry : goal.invariant-loop-entry
invariant-loop-entry g l =
    let done = replay l.fn.machine.issue.terms l.fn.machine.issue.state l.journal in
    IsStepping g.O.Sink.contents g.O.Sink.faults l.fn.watch (flat_map (done_text l.fn.watch.rules.now) done) (trades_of done)
    (state_from l.fn.machine.issue.terms l.journal l.fn.machine.issue.state) l.machine l.watch (drop l.entry-index l.journal)
