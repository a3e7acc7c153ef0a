use Rattle.std.proofs.Common.{refl}
use Rattle.mkt_base.specs.Book.{price_at}
use Rattle.tick_grid.proofs.GridLemmas.{index_of-at}
use Rattle.tick_grid.proofs.law.positions_are_found.Goals as goal

pub returns : goal.returns
returns c = λ prices i rising inside. index_of-at prices i (price_at prices i) rising inside refl
