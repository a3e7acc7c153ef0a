use Rattle.std.proofs.Common.{take}
use Rattle.issue_journal.specs.Inside.{IsReplaying}
use Rattle.issue_journal.proofs.adopt.replayed.Given as goal

abbrev pub invariant-loop-i : goal.invariant-loop-i
invariant-loop-i l = IsReplaying l.fn.machine l.machine (take l.i l.log.items)
