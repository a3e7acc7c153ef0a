use Rattle.std.proofs.Common.{◌≡◌, ◌+◌, ◌≤◌, ◌++◌, drop, length}
use Rattle.issue_machine.specs.Journal.{AreEntries}
use Rattle.audit.specs.Told.{boards_from}
use Rattle.audit.proofs.shows.boards_along.Given as goal

-- the boards so far, and those of the entries that are left; and the machine may do them
abbrev pub invariant-loop-entry : goal.invariant-loop-entry
invariant-loop-entry l = record {
  all : l.boards.items ++ boards_from l.machine.issue.terms l.machine.issue.state (drop l.entry-index l.journal)
      ≡ l.fn.boards.items ++ boards_from l.fn.machine.issue.terms l.fn.machine.issue.state l.journal;
  room : l.machine.issue.state.entries + length (drop l.entry-index l.journal) ≤ l.machine.issue.capacity;
  entries : AreEntries l.machine.participants l.machine.issue.state.entries l.machine.next_own (drop l.entry-index l.journal);
}
