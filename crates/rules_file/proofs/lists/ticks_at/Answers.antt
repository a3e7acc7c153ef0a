use Rattle.std.proofs.lemmas.Result.{IfOk-weaker}
use Rattle.tick_grid.specs.Rows.{AreTickRows}
use Rattle.rules_file.proofs.ListLemmas.{AreTickRows-checked}
use Rattle.rules_file.proofs.lists.ticks_at.Goals as goal

pub returns-clause-sound : goal.returns-clause-sound
returns-clause-sound c = IfOk-weaker c.checked_rows.result _ AreTickRows AreTickRows-checked c.checked_rows.ensures.sound
