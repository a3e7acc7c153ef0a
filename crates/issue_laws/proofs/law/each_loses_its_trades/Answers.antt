use Rattle.std.proofs.Common.{refl}
use Rattle.mkt_base.specs.Fills.{traded_at}
use Rattle.issue_book.specs.State.{start}
use Rattle.issue_machine.specs.Journal.{no_own}
use Rattle.issue_machine.specs.Step.{state_after}
use Rattle.issue_laws.specs.Brought.{left_at}
use Rattle.issue_laws.proofs.Moves.{step-balanced}
use Rattle.issue_laws.proofs.PlaceMeasure.{place-measure}
use Rattle.issue_laws.proofs.Steps.{next-behind, sound-start}
use Rattle.issue_laws.proofs.law.each_loses_its_trades.Goals as goal

pub returns : goal.returns
returns c = λ t participants journal e is entries place.
    let laws = c.lower_laws.ensures in
    let behind = next-behind laws t is participants 0 no_own journal e (start t) refl (sound-start t is) entries in
    step-balanced laws t is (λ ts. traded_at ts place) (left_at place) (place-measure place laws t is) e (state_after t journal) behind.place behind.sound
