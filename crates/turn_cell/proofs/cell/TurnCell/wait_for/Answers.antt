use Rattle.std.proofs.Common.{rules}
use Rattle.turn_cell.proofs.Turning.{looks_for}
use Rattle.turn_cell.proofs.cell.TurnCell.wait_for.Goals as goal

pub load-served-requires : goal.load-served-requires
load-served-requires g c = (search rules, search rules, looks_for _ _ _ _ _ _ _ (search rules) (search rules) (search rules))
