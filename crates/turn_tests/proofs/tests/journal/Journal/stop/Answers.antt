use Rattle.std.proofs.Common.{refl}
use Rattle.turn_tests.proofs.Adding.{adds_stop}
use Rattle.turn_tests.proofs.tests.journal.Journal.stop.Goals as goal

pub returns-then-is_none-clause-turn : goal.returns-then-is_none-clause-turn
returns-then-is_none-clause-turn c = adds_stop _ _ _ c.args.self.now.halt _ c.if-is_none.ensures refl refl
