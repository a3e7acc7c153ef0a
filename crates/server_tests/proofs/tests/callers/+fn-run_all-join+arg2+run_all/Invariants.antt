use Rattle.std.proofs.Common.{◌+◌, ◌*◌}
use Rattle.server_tests.proofs.tests.callers.+fn-run_all-join+arg2+run_all.Given as goal

abbrev pub decreases-join+arg2 : goal.decreases-join+arg2
decreases-join+arg2 g l = 2 * l.pass.block + 1

abbrev pub decreases-run_all : goal.decreases-run_all
decreases-run_all g l = 2 * l.pass.block
