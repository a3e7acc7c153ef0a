use Rattle.std.proofs.Common.{refl}
use Rattle.issue_book.specs.State.{start}
use Rattle.issue_machine.specs.Journal.{no_own}
use Rattle.issue_machine.specs.Step.{state_after}
use Rattle.issue_laws.specs.Brought.{left_on, shares_of}
use Rattle.issue_laws.proofs.Moves.{step-balanced}
use Rattle.issue_laws.proofs.SideMeasure.{side-measure}
use Rattle.issue_laws.proofs.Steps.{next-behind, sound-start}
use Rattle.issue_laws.proofs.law.bought_is_sold.Goals as goal

pub returns : goal.returns
returns c = λ t participants journal e is entries side.
    let laws = c.lower_laws.ensures in
    let behind = next-behind laws t is participants 0 no_own journal e (start t) refl (sound-start t is) entries in
    step-balanced laws t is shares_of (left_on side) (side-measure laws t is side) e (state_after t journal) behind.place behind.sound
