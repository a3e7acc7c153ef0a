use Rattle.zaraba.proofs.PriceLawLemmas.{sequence_is_beyond}
use Rattle.zaraba.proofs.law.sequence_is_beyond.Goals as goal

pub returns : goal.returns
returns c = sequence_is_beyond
