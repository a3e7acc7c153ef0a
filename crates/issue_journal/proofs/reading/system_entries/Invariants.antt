use Rattle.std.proofs.Common.{◌≡◌, length, take}
use Rattle.issue_machine.specs.History.{entries_by}
use Rattle.issue_journal.proofs.reading.system_entries.Given as goal

abbrev pub invariant-loop-i : goal.invariant-loop-i
invariant-loop-i l = l.count ≡ length (entries_by 0 (take l.i l.journal))
