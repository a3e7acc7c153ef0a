use Rattle.std.proofs.Common.{◌≤◌, ◌+◌}
use Rattle.server_tests.specs.Submitting.{HasTheCallers, MaySubmit}
use Rattle.server_tests.proofs.tests.turns.played.Given as goal

-- the pass may still submit, has the callers that it had, and has made no more turns than there were acts
abbrev pub invariant-loop-i : goal.invariant-loop-i
invariant-loop-i g l = MaySubmit l.server l.pass × HasTheCallers l.fn.before.pass l.pass × (l.pass.turns ≤ l.fn.before.pass.turns + l.i)
