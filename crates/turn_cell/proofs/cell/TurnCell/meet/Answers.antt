use Rattle.std.proofs.Common.{rules}
use Rattle.turn_cell.specs.Views.{joined}
use Rattle.turn_cell.proofs.Sharing.{joins_in, learns_all}
use Rattle.turn_cell.proofs.cell.TurnCell.meet.Goals as goal

pub join_seat-requires : goal.join_seat-requires
join_seat-requires g c = let i = c.pass.invariant in let o = c.other.invariant in
    (search rules, search rules, o.empty, search rules, joins_in _ _ _ _ _ _ _ _ i.idle i.real o.idle o.real (search rules))

pub load-requires : goal.load-requires
load-requires g c = let i = c.pass.invariant in
    (search rules, search rules, learns_all _ _ _ _ _ _ _ (joined c.pass.inside.seat.me.0 c.other.inside.seat.me.0) (search rules) i.real)
