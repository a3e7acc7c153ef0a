use Rattle.desk_law.proofs.Ended.{end-is-played}
use Rattle.desk_law.proofs.law.end_is_played.Goals as goal

pub returns : goal.returns
returns c = end-is-played c.no_journal_is_full.ensures
