use Rattle.std.proofs.Common.{◌≡◌, length, vec_capacity}
use Rattle.script_run.specs.Running.{AreOutBelow, EachFrom, IsFresh}
use Rattle.script_run.proofs.opening.open_all.Given as goal

-- the issues so far are open, their nodes are out, and there is room for the others
abbrev pub invariant-loop-i : goal.invariant-loop-i
invariant-loop-i g l = record {
  each : length l.issues.items ≡ l.i;
  fresh : EachFrom (IsFresh l.rules l.counts) 0 l.issues.items;
  out : AreOutBelow (g.R.Rack.is_out l.rack) l.i;
  room : vec_capacity l.issues ≡ length l.counts;
}
