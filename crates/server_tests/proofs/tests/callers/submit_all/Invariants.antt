use Rattle.server_tests.specs.Submitting.{HasTheCallers, MaySubmit}
use Rattle.server_tests.proofs.tests.callers.submit_all.Given as goal

-- the pass may still submit, and has the callers that it had
abbrev pub invariant-loop-n : goal.invariant-loop-n
invariant-loop-n g l = MaySubmit l.server l.pass × HasTheCallers l.fn.pass l.pass
