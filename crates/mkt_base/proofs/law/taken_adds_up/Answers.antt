use Rattle.mkt_base.proofs.FillLemmas.{front-and-rest, from_front-quantity}
use Rattle.mkt_base.proofs.law.taken_adds_up.Goals as goal

pub returns : goal.returns
returns c = λ n fills. (from_front-quantity n fills, front-and-rest n fills)
