use Rattle.std.proofs.lemmas.List.Elements.{All-from_recursion}
use Rattle.std.proofs.Common.{◌≡◌, true}
use Rattle.mkt_base.specs.Priority.{in_priority, is_same_side}
use Rattle.book_law.proofs.AheadLemmas.{in_priority-side}
use Rattle.book_law.proofs.PlaceLemmas.{at-most-once, once-at, sums-of_sides}
use Rattle.book_law.proofs.law.stands_once.Goals as goal

pub returns : goal.returns
returns c = λ n orders stands. (
  (λ side. All-from_recursion (λ o. is_same_side side o.side ≡ true) (in_priority n side orders) (in_priority-side side orders n)),
  (λ place. sums-of_sides (once-at place) n orders stands.spots),
  (λ place. at-most-once place orders stands.book.by_place),
)
