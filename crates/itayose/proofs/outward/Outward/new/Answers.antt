use Rattle.itayose.proofs.WalkLemmas.{begins}
use Rattle.itayose.proofs.outward.Outward.new.Goals as goal

pub returns-clause-left : goal.returns-clause-left
returns-clause-left c = rw c.price.ensures.value (begins c.args.grid.now c.args.reference c.stands.ensures.rising c.requires.in_range)
