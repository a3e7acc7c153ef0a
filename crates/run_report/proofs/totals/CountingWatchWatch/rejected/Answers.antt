use Rattle.run_report.specs.Watched.{nothing_counted}
use Rattle.run_report.proofs.CountLemmas.{output_counted}
use Rattle.run_report.proofs.totals.CountingWatchWatch.rejected.Goals as goal

pub returns : goal.returns
returns c = λ from outputs before. output_counted outputs _ before nothing_counted
