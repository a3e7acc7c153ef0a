use Rattle.std.proofs.Common.{arith}
use Rattle.allotment.proofs.RoundLemmas.{part-is}
use Rattle.allotment.proofs.sharing.part.Goals as goal

pub returns : goal.returns
returns c = let e = part-is c.args.whole c.args.n c.args.d (omega arith) in cc
