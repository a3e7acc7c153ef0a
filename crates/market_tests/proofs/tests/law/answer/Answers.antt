use Rattle.std.proofs.Common.{rules}
use Rattle.market_tests.proofs.SampleLemmas.{few_fit}
use Rattle.market_tests.proofs.tests.law.answer.Goals as goal

pub plain_attempt-requires-clause-fits : goal.plain_attempt-requires-clause-fits
plain_attempt-requires-clause-fits c = few_fit c.args.orders.now (search rules) (search rules)
