use Rattle.std.proofs.Common.{[], rules}
use Rattle.run_report.proofs.ReportLemmas.{report-failed, report-written}
use Rattle.run_report.proofs.totals.write_totals.Goals as goal

pub returns-in-Ok : goal.returns-in-Ok
returns-in-Ok g c =
    search (
      rules,
      report-written g.O.Sink.contents g.O.Sink.faults c.args.out.now _ _ c.new-printer.ensures.nothing c.print_sums-printed.ensures.front
          c.print_sums-printed.result c.print_sums-printed.ensures.whole c.print_sums-printed.ensures.cause
          (λ bytes printed. let told = c.in-Ok.ensures c.args.out.now bytes [] printed in (told.all, told.count)),
    )

pub returns-in-Err : goal.returns-in-Err
returns-in-Err g c =
    search (
      rules,
      report-failed g.O.Sink.contents g.O.Sink.faults c.args.out.now _ _ c.new-printer.ensures.nothing c.print_sums-printed.ensures.front
          (λ bytes printed. let told = c.in-Err.ensures c.args.out.now bytes [] printed in (told.part, told.failed, told.count)),
    )
