use Rattle.book_law.proofs.DrainLemmas.{drained}
use Rattle.book_law.proofs.law.fronts_are_traded.Goals as goal

pub returns : goal.returns
returns c = λ n p v orders stands bought sold. drained n orders stands.book.by_place stands.spots stands.book.left p v bought sold
