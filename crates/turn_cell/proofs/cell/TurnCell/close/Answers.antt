use Rattle.std.proofs.Common.{rules}
use Rattle.turn_cell.proofs.Ending.{closed, closed_as}
use Rattle.turn_cell.proofs.cell.TurnCell.close.Goals as goal

pub unreachable-requires : goal.unreachable-requires
unreachable-requires g c =
    let i = c.pass.invariant in
    let t = closed _ _ _ _ _ _ _ c.pass.inside.seat.me.0 c.take-slot.result c.close_with-closed.ensures.values.2 i.idle i.real (search rules) c.take-slot.ensures.value in
    c.in_default.not-Some t.0 t.1

pub returns-clause-marks : goal.returns-clause-marks
returns-clause-marks g c =
    let i = c.pass.invariant in
    let t = closed_as _ _ _ _ _ _ _ c.pass.inside.seat.me.0 c.take-slot.result c.in-Some.value c.close_with-closed.ensures.values.2 i.idle i.real (search rules) c.take-slot.ensures.value c.in-Some.is in
    rw (← c.pass.view_is) t.0

pub returns-clause-fixed : goal.returns-clause-fixed
returns-clause-fixed g c =
    let i = c.pass.invariant in
    let t = closed_as _ _ _ _ _ _ _ c.pass.inside.seat.me.0 c.take-slot.result c.in-Some.value c.close_with-closed.ensures.values.2 i.idle i.real (search rules) c.take-slot.ensures.value c.in-Some.is in
    rw (← c.pass.view_is) t.1

pub returns-clause-nobody_else : goal.returns-clause-nobody_else
returns-clause-nobody_else g c =
    let i = c.pass.invariant in
    let t = closed_as _ _ _ _ _ _ _ c.pass.inside.seat.me.0 c.take-slot.result c.in-Some.value c.close_with-closed.ensures.values.2 i.idle i.real (search rules) c.take-slot.ensures.value c.in-Some.is in
    rw (← c.pass.view_is) t.2

pub returns-clause-numbered : goal.returns-clause-numbered
returns-clause-numbered g c =
    let i = c.pass.invariant in
    let t = closed_as _ _ _ _ _ _ _ c.pass.inside.seat.me.0 c.take-slot.result c.in-Some.value c.close_with-closed.ensures.values.2 i.idle i.real (search rules) c.take-slot.ensures.value c.in-Some.is in
    rw (← c.pass.view_is) t.3
