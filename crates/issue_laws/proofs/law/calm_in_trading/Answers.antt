use Rattle.std.proofs.Common.{refl}
use Rattle.issue_book.specs.State.{start}
use Rattle.issue_machine.specs.Journal.{no_own}
use Rattle.issue_laws.proofs.Steps.{sound-behind, sound-start}
use Rattle.issue_laws.proofs.law.calm_in_trading.Goals as goal

pub returns : goal.returns
returns c = λ t participants journal is entries. (sound-behind c.lower_laws.ensures t is participants 0 no_own journal (start t) refl (sound-start t is) entries).calm
