use Rattle.itayose.proofs.FairLemmas.{sides_lose_trades}
use Rattle.itayose.proofs.law.sides_lose_trades.Goals as goal

pub returns : goal.returns
returns c = sides_lose_trades
