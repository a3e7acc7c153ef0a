use Rattle.std.proofs.Common.{rules, refl}
use Rattle.turn_cell.proofs.Ending.{opens_at}
use Rattle.turn_cell.proofs.cell.TurnCell.make.Goals as goal

pub new-requires : goal.new-requires
new-requires g c =
    let made = c.requires.no_marks in
    opens_at _ _ c.args.callers c.args.value c.of.result.value c.push.new.self.items _ (search rules) (search rules) (search rules) (search rules)
    (rw (made.0, made.1) refl) refl refl refl refl
