use Rattle.std.proofs.Common.{sym}
use Rattle.tick_grid.proofs.GridLemmas.{index_of-at}
use Rattle.tick_grid.proofs.grid.Grid.index.Goals as goal

pub returns-in-Some-clause-exact : goal.returns-in-Some-clause-exact
returns-in-Some-clause-exact c =
    sym (index_of-at c.args.self.now c.in-Some.i c.args.p.0 c.stands.ensures.rising c.in-Some.ensures.0 c.in-Some.ensures.1)
