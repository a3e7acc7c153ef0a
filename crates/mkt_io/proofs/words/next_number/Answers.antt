use Rattle.mkt_io.proofs.ReadLemmas.{number_in-range}
use Rattle.mkt_io.proofs.words.next_number.Goals as goal

pub returns-clause-range : goal.returns-clause-range
returns-clause-range c = rw c.number_in.ensures (number_in-range _ _ _)
