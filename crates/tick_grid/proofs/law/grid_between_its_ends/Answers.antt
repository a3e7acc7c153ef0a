use Rattle.tick_grid.proofs.EndLemmas.{grid_of-between}
use Rattle.tick_grid.proofs.law.grid_between_its_ends.Goals as goal

pub returns : goal.returns
returns c = grid_of-between
