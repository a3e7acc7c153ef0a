use Rattle.itayose.proofs.WalkLemmas.{begins}
use Rattle.level_auction.proofs.walk.LevelWalk.new.Goals as goal

pub returns-clause-left : goal.returns-clause-left
returns-clause-left c = begins c.args.grid.now c.args.reference c.requires.can.rising c.requires.in_range
