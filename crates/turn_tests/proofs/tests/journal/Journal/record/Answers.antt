use Rattle.std.proofs.Common.{refl, sym, ◌∙◌}
use Rattle.turn_tests.proofs.Adding.{adds_pushed}
use Rattle.turn_tests.proofs.tests.journal.Journal.record.Goals as goal

pub returns-clause-turn : goal.returns-clause-turn
returns-clause-turn c = adds_pushed _ _ _ _ _ c.args.self.now.halt _ (sym c.is_some.ensures ∙ c.if-is_some.false) c.push.ensures.items refl refl
