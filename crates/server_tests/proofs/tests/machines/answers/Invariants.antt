use Rattle.server_tests.specs.Replaying.{HasDone}
use Rattle.server_tests.proofs.tests.machines.answers.Given as goal

-- the machine has done as many entries as were gone over
abbrev pub invariant-loop-i : goal.invariant-loop-i
invariant-loop-i l = HasDone l.i l.machine
