use Rattle.std.proofs.Common.{◌<◌, length, refl, arith}
use Rattle.std.proofs.lemmas.List.Elements.{All-from_recursion}
use Rattle.book_law.proofs.Pairs.{weaken}
use Rattle.issue_book.specs.State.{start}
use Rattle.issue_machine.specs.Journal.{no_own}
use Rattle.issue_machine.specs.Step.{state_after}
use Rattle.issue_laws.proofs.Auctions.{book-on}
use Rattle.issue_laws.proofs.Steps.{counted-behind, sound-behind, sound-start}
use Rattle.issue_laws.proofs.law.book_stands.Goals as goal

pub returns : goal.returns
returns c = λ t participants journal is entries.
    let s = state_after t journal in
    let stands = (sound-behind c.lower_laws.ensures t is participants 0 no_own journal (start t) refl (sound-start t is) entries).stands in
    let count = counted-behind c.lower_laws.ensures t is participants 0 no_own journal (start t) refl (sound-start t is) entries in (
      book-on t s.entries s stands,
      All-from_recursion (λ o. o.place < length journal) s.orders (weaken (λ o. o.place < s.entries) (λ o. o.place < length journal) (λ o h. omega (arith, h, count)) s.orders stands.below),
      stands.last,
    )
