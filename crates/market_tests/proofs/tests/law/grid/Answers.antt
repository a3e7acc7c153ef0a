use Rattle.std.proofs.Common.{refl}
use Rattle.market_tests.proofs.SampleLemmas.{rising, sample_grid}
use Rattle.market_tests.proofs.tests.law.grid.Goals as goal

pub returns : goal.returns
returns c = rising 0 sample_grid refl
