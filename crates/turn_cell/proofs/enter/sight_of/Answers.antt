use Rattle.std.proofs.Common.{ap, ◌∙◌}
use mir.Val.{bool_byte}
use Rattle.std.specs.Prelude.{Option, is_some}
use Rattle.mkt_base.specs.declared.journal.Halt.{Halt}
use Rattle.turn_cell.proofs.Seeing.{sight_made}
use Rattle.turn_cell.proofs.enter.sight_of.Goals as goal

pub returns-clause-sight : goal.returns-clause-sight
returns-clause-sight g c =
    let same = c.halted-halt.ensures in
    rw same (sight_made (g.V.TurnValue.entries c.args.value.now) (g.V.TurnValue.halt c.args.value.now) c.length-entries.result c.from.result c.length-entries.ensures.count
    (c.from.ensures ∙ ap bool_byte (c.is_some.ensures ∙ ap (λ (h : Option Halt). is_some h) same)))
