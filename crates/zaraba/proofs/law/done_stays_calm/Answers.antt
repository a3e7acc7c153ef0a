use Rattle.std.proofs.Common.{◌<◌}
use Rattle.std.proofs.lemmas.List.Elements.{recursion_from_All}
use Rattle.zaraba.proofs.DoneLemmas.{done-calm}
use Rattle.zaraba.proofs.law.done_stays_calm.Goals as goal

pub returns : goal.returns
returns c = λ grid range orders o last is calm done.
    done-calm grid range orders o last is.book.spots (recursion_from_All (λ x. 0 < x.left) orders is.book.book.left) calm done
