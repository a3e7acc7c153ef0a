use Rattle.tick_grid.proofs.GridLemmas.{floor-is-greatest}
use Rattle.tick_grid.proofs.law.floor_is_greatest.Goals as goal

pub returns : goal.returns
returns c = floor-is-greatest
