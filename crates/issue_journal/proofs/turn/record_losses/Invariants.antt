use Rattle.std.proofs.Common.{drop}
use Rattle.issue_journal.specs.Inside.{IsRecording}
use Rattle.issue_journal.proofs.turn.record_losses.Given as goal

abbrev pub invariant-loop-i : goal.invariant-loop-i
invariant-loop-i l = IsRecording l.lost (drop l.i l.lost) l.fn.work l.work
