use Rattle.std.proofs.Common.{length}
use Rattle.gateway_tests.specs.Left.{AreLeft}
use Rattle.gateway_tests.proofs.tests.stages.told_of_stages.Given as goal

abbrev pub invariant-loop-stage : goal.invariant-loop-stage
invariant-loop-stage g l = AreLeft l.stage (length l.desks) l.gateway.lines
