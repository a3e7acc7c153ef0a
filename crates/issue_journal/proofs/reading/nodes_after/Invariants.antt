use Rattle.std.proofs.Common.{◌≡◌, take}
use Rattle.issue_machine.specs.History.{nodes_after}
use Rattle.issue_journal.proofs.reading.nodes_after.Given as goal

abbrev pub invariant-loop-i : goal.invariant-loop-i
invariant-loop-i l = l.nodes ≡ nodes_after (take l.i l.journal)
