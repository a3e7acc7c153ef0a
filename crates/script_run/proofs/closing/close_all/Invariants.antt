use Rattle.std.proofs.Common.{◌≡◌, ◌≤◌, ◌++◌, ℕ, Some, length, map, slice_get, vec_capacity}
use Rattle.run_report.specs.declared.ended.EndedIssue.{EndedIssue}
use Rattle.script_run.specs.Nodes.{AreGivenBack}
use Rattle.script_run.specs.Running.{AreOutFrom, ended_as}
use Rattle.script_run.proofs.closing.close_all.Given as goal

-- the issues so far are closed and their nodes given back; those of the others are out
abbrev pub invariant-loop-issue : goal.invariant-loop-issue
invariant-loop-issue g l = record {
  whole : l.yielded ++ l.issue-iterator.rest.items ≡ l.fn.issues.items;
  ended : l.ended.items ≡ map ended_as l.yielded;
  given : (number : ℕ) (e : EndedIssue) → slice_get l.ended.items number ≡ Some e → AreGivenBack (g.R.Rack.given l.rack) number e;
  out : AreOutFrom (g.R.Rack.is_out l.rack) (length l.yielded) (length l.fn.issues.items);
  room : length l.fn.issues.items ≤ vec_capacity l.ended;
}
