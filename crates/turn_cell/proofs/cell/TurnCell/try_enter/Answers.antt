use Rattle.std.proofs.Common.{rules, refl}
use Rattle.std.specs.Prelude.{Some}
use Rattle.turn_cell.proofs.Turning.{notes_number, tries_once}
use Rattle.turn_cell.proofs.Seeing.{held_first}
use Rattle.turn_cell.specs.Views.{noted}
use Rattle.turn_cell.proofs.cell.TurnCell.try_enter.Goals as goal

pub load-served-requires : goal.load-served-requires
load-served-requires g c = let i = c.pass.invariant in
    (search rules, search rules, notes_number _ _ _ _ _ _ _ i.idle)

pub compare_exchange-ticket-requires : goal.compare_exchange-ticket-requires
compare_exchange-ticket-requires g c = let i = c.pass.invariant in (
  search rules,
  search rules,
  tries_once _ _ _ _ _ _ _ (noted c.pass.inside.seat.me.0 c.load-served.result) _ _ (search rules) refl i.real (search rules) refl refl,
)

pub exchange-requires : goal.exchange-requires
exchange-requires g c =
    let t = c.compare_exchange-ticket.ensures.2.0 (search rules) in
    (search rules, (Some t.0, held_first _ _ _ t.1))
