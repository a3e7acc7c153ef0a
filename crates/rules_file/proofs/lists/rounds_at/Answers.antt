use Rattle.std.proofs.lemmas.Result.{IfOk-weaker}
use Rattle.allotment.specs.Rounds.{AreRounds}
use Rattle.rules_file.proofs.ListLemmas.{AreRounds-checked}
use Rattle.rules_file.proofs.lists.rounds_at.Goals as goal

pub returns-clause-sound : goal.returns-clause-sound
returns-clause-sound c = IfOk-weaker c.checked_rows.result _ AreRounds AreRounds-checked c.checked_rows.ensures.sound
