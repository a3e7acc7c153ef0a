use Rattle.std.proofs.Common.{◌-◌, arith}
use Rattle.level_tests.proofs.tests.agree.Goals as goal
