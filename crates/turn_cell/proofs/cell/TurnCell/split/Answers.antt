use Rattle.std.proofs.Common.{rules, arith}
use Rattle.turn_cell.specs.Views.{newcomer}
use Rattle.turn_cell.proofs.Sharing.{splits_off, learns_all}
use Rattle.turn_cell.proofs.cell.TurnCell.split.Goals as goal

pub split_seat-seat-requires : goal.split_seat-seat-requires
split_seat-seat-requires g c = let i = c.pass.invariant in
    (search rules, search rules, splits_off _ _ _ _ _ _ i.idle i.real (search rules))

pub load-requires : goal.load-requires
load-requires g c = let i = c.pass.invariant in let some_left = c.pass.invariant.block in
    (search rules, search rules, learns_all _ _ _ _ _ _ _ (newcomer c.pass.inside.seat.me.0) (search rules) (omega arith))
