use Rattle.std.proofs.Common.{◌≡◌, take}
use Rattle.script_run.specs.Running.{counts_for}
use Rattle.script_run.proofs.counting.count_events.Given as goal

abbrev pub invariant-loop-of : goal.invariant-loop-of
invariant-loop-of l = l.counts.items ≡ counts_for l.issues (take l.of-index l.lines)
