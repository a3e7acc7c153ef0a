use Rattle.tick_grid.proofs.GridLemmas.{ceil-is-least}
use Rattle.tick_grid.proofs.law.ceil_is_least.Goals as goal

pub returns : goal.returns
returns c = ceil-is-least
