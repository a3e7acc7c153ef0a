use Rattle.itayose.proofs.TradingLemmas.{some-first}
use Rattle.itayose.proofs.trading.first_of.Goals as goal

pub unreachable-requires : goal.unreachable-requires
unreachable-requires c = some-first _ c.requires c.in_default.ensures
