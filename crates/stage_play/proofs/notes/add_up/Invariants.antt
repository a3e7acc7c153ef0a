use Rattle.std.proofs.Common.{◌≡◌, drop, length}
use Rattle.stage_play.specs.Blocks.{noted, sights_of}
use Rattle.stage_play.proofs.notes.add_up.Given as goal

-- with the notes that are left it comes to what all notes say
abbrev pub invariant-loop-note : goal.invariant-loop-note
invariant-loop-note l = noted l.sights (drop l.note-index l.board) ≡ sights_of (length l.initial.sights) l.board
