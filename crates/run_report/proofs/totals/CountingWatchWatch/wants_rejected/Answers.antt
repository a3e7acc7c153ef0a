use Rattle.run_report.proofs.CountLemmas.{rejected_counted}
use Rattle.run_report.proofs.totals.CountingWatchWatch.wants_rejected.Goals as goal

pub returns : goal.returns
returns c = λ not from outputs rejected counted. rejected_counted from _ outputs rejected counted
