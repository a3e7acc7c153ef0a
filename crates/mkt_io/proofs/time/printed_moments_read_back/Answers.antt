use Rattle.mkt_io.proofs.TimeLemmas.{read_back}
use Rattle.mkt_io.proofs.time.printed_moments_read_back.Goals as goal

pub returns : goal.returns
returns c = read_back
