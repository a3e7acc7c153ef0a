use Rattle.std.proofs.Common.{refl}
use Rattle.run_report.specs.Watched.{nothing_counted}
use Rattle.run_report.proofs.ShownLemmas.{lines_shown, output_shown}
use Rattle.run_report.proofs.watch.PrintWatchWatch.outcome.Goals as goal

pub returns : goal.returns
returns g c = λ from outputs before. output_shown outputs _ before (lines_shown refl refl c.print_outcome.ensures nothing_counted)
