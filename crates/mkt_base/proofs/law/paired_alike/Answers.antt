use Rattle.mkt_base.proofs.FillLemmas.{bought-front, pair-quantity, sold-front}
use Rattle.mkt_base.proofs.law.paired_alike.Goals as goal

pub returns : goal.returns
returns c = λ p place buys sells. (bought-front p place buys sells, sold-front p place buys sells, pair-quantity p buys sells)
