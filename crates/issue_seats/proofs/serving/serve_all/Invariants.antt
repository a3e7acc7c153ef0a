use Rattle.std.proofs.Common.{◌≡◌, ◌≤◌, ◌++◌, length, vec_capacity}
use Rattle.issue_seats.specs.Seats.{AreServed}
use Rattle.issue_seats.proofs.serving.serve_all.Given as goal

-- the issues so far have their servers, and there is room for those of the others
abbrev pub invariant-loop-issue : goal.invariant-loop-issue
invariant-loop-issue g l = record {
  whole : l.yielded ++ l.issue-iterator.rest.items ≡ l.fn.issues.items;
  served : AreServed l.callers l.yielded l.servers.items l.passes.items;
  servers : length l.fn.issues.items ≤ vec_capacity l.servers;
  passes : length l.fn.issues.items ≤ vec_capacity l.passes;
}
