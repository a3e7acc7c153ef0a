use Rattle.std.proofs.lemmas.Result.{IfOk-weaker}
use Rattle.session_phase.specs.Sessions.{AreSessions}
use Rattle.rules_file.proofs.ListLemmas.{AreSessions-checked}
use Rattle.rules_file.proofs.lists.sessions_at.Goals as goal

pub returns-clause-sound : goal.returns-clause-sound
returns-clause-sound c = IfOk-weaker c.checked_rows.result _ AreSessions AreSessions-checked c.checked_rows.ensures.sound
