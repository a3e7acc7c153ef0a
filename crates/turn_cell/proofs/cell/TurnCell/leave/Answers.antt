use Rattle.std.proofs.Common.{rules, length}
use Rattle.turn_cell.specs.Marks.{marks_by, entries_in}
use Rattle.turn_cell.proofs.Seeing.{rests_after}
use Rattle.turn_cell.proofs.cell.TurnCell.leave.Goals as goal

pub invariant_of-result : goal.invariant_of-result
invariant_of-result g c =
    let a = c.requires.added in let v = c.turn.inside.seat.me.0 in
    rests_after v c.turn.inside.seat.me.1 c.put_back-next.new.seat.me (marks_by g.V.TurnValue.entries g.V.TurnValue.halt c.turn.inside.value) a.0 (length (entries_in v.made))
    c.turn.inside.numbers c.numbers_after-numbers.result c.turn.inside.start c.sight_of-sight.result c.turn.invariant c.put_back-next.ensures.rests c.put_back-next.ensures.holds (search rules) (search rules)
    c.numbers_after-numbers.ensures c.sight_of-sight.ensures.sight
