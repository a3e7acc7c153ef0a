use Rattle.std.proofs.Common.{◌≡◌}
use Rattle.journal_tests.proofs.tests.issues.played.Given as goal

-- what is fixed of the issue stays
abbrev pub invariant-loop-i : goal.invariant-loop-i
invariant-loop-i g l = l.issue.fixed ≡ l.fn.issue.fixed
