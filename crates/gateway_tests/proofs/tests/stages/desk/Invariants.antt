use Rattle.std.proofs.Common.{◌≤◌, vec_len}
use Rattle.gateway_tests.proofs.tests.stages.desk.Given as goal

abbrev pub invariant-loop-digit : goal.invariant-loop-digit
invariant-loop-digit l = vec_len l.list ≤ 20
