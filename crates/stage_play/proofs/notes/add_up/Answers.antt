use Rattle.std.proofs.Common.{rules}
use Rattle.stage_play.proofs.NoteLemmas.{noted-more}
use Rattle.stage_play.proofs.notes.add_up.Goals as goal

pub loop-note-preserved : goal.loop-note-preserved
loop-note-preserved c = noted-more c.args.board.now c.loop-note.note-index _ c.loop-note.sights c.add_note.new.sights _ c.loop-note-test.true (search rules) c.add_note.ensures c.loop-note.invariant
