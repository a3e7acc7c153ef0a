use Rattle.std.proofs.lemmas.Result.{IfOk-weaker}
use Rattle.tick_grid.specs.Rows.{AreBandRows}
use Rattle.rules_file.proofs.ListLemmas.{AreBandRows-checked}
use Rattle.rules_file.proofs.lists.bands_at.Goals as goal

pub returns-clause-sound : goal.returns-clause-sound
returns-clause-sound c = IfOk-weaker c.checked_rows.result _ AreBandRows AreBandRows-checked c.checked_rows.ensures.sound
