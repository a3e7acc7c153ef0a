use Rattle.mkt_io.proofs.PairLemmas.{ones-at}
use Rattle.mkt_io.proofs.text.ones.Goals as goal

pub returns : goal.returns
returns c = ones-at c.args.n c.requires
