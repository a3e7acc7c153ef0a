use Rattle.issue_machine.specs.Advancing.{IsAdvancing, steps_left}
use Rattle.issue_machine.proofs.clock.catch_up.Given as goal

abbrev pub invariant-loop-now_passed : goal.invariant-loop-now_passed
invariant-loop-now_passed g l = IsAdvancing g.W.Watch.took l.passed l.to l.steps l.fn.floor l.floor l.fn.watch l.watch

abbrev pub decreases-loop-now_passed : goal.decreases-loop-now_passed
decreases-loop-now_passed g l = steps_left l.floor.terms l.passed l.to l.floor.state
