use Rattle.std.proofs.Common.{◌-◌}
use Rattle.turn_writer.specs.Went.{Recording}
use Rattle.turn_writer.proofs.losses.record_losses.Given as goal

-- how many losses were recorded
abbrev pub invariant-loop-lost : goal.invariant-loop-lost
invariant-loop-lost g l = Recording l.own l.done l.fn.lost l.lost l.fn.mirror l.mirror

abbrev pub decreases-loop-lost : goal.decreases-loop-lost
decreases-loop-lost g l = 3 - l.done
