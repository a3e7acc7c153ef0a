use Rattle.turn_cell.proofs.Marks.{entries_in-made, halt_in-made}
use Rattle.turn_cell.proofs.law.marks_are_the_journal.Goals as goal

pub returns-clause-entries : goal.returns-clause-entries
returns-clause-entries g c = entries_in-made (g.V.TurnValue.entries c.args._value.now) (g.V.TurnValue.halt c.args._value.now)

pub returns-clause-halt : goal.returns-clause-halt
returns-clause-halt g c = halt_in-made (g.V.TurnValue.entries c.args._value.now) (g.V.TurnValue.halt c.args._value.now)
