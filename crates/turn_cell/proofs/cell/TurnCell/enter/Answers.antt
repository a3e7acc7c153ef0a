use Rattle.std.proofs.Common.{rules}
use Rattle.std.specs.Prelude.{Some}
use Rattle.turn_cell.proofs.Turning.{draws_ticket}
use Rattle.turn_cell.proofs.Seeing.{held_first}
use Rattle.turn_cell.proofs.cell.TurnCell.enter.Goals as goal

pub fetch_add-ticket-requires : goal.fetch_add-ticket-requires
fetch_add-ticket-requires g c = let i = c.pass.invariant in
    (search rules, search rules, draws_ticket _ _ _ _ _ _ _ i.idle i.real (search rules))

pub exchange-requires : goal.exchange-requires
exchange-requires g c = let t = c.wait_for.ensures.takes in (search rules, (Some t.0, held_first _ _ _ t.1))
