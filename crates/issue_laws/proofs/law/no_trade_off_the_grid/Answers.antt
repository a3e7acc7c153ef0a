use Rattle.std.proofs.Common.{refl}
use Rattle.std.proofs.lemmas.List.Elements.{All-from_recursion}
use Rattle.issue_book.specs.State.{start}
use Rattle.issue_machine.specs.Journal.{no_own}
use Rattle.issue_machine.specs.Step.{state_after, step}
use Rattle.issue_laws.specs.Brought.{trades_in}
use Rattle.issue_laws.specs.Laws.{IsWithinLimits}
use Rattle.issue_laws.proofs.Steps.{next-behind, sound-start, step-is, within-limits}
use Rattle.issue_laws.proofs.law.no_trade_off_the_grid.Goals as goal

pub returns : goal.returns
returns c = λ t participants journal e is entries.
    let behind = next-behind c.lower_laws.ensures t is participants 0 no_own journal e (start t) refl (sound-start t is) entries in
    let s = state_after t journal in
    let ts = trades_in (step t e s).outputs in
    All-from_recursion (λ x. IsWithinLimits t.grid x.price.0) ts (within-limits t is ts (step-is c.lower_laws.ensures t is e s behind.place behind.sound).priced)
