use Rattle.run_room.proofs.RoomLemmas.{journal-has-room}
use Rattle.run_room.proofs.law.no_journal_is_full.Goals as goal

pub returns : goal.returns
returns c = journal-has-room c.losses_stay_few.ensures
