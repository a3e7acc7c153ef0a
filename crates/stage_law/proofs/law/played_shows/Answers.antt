use Rattle.stage_law.proofs.Boards.{played-shows}
use Rattle.stage_law.proofs.law.played_shows.Goals as goal

pub returns : goal.returns
returns c = played-shows
