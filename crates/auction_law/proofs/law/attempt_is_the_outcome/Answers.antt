use Rattle.auction_law.proofs.AttemptLemmas.{attempt_is_the_outcome}
use Rattle.auction_law.proofs.law.attempt_is_the_outcome.Goals as goal

pub returns : goal.returns
returns c = attempt_is_the_outcome
