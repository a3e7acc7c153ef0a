use Rattle.mkt_io.proofs.PairLemmas.{tens-at}
use Rattle.mkt_io.proofs.text.tens.Goals as goal

pub returns : goal.returns
returns c = tens-at c.args.n c.requires
