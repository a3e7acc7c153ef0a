use Rattle.zaraba_tests.proofs.OpenLemmas.{open-arrived}
use Rattle.zaraba_tests.proofs.tests.arrivals.arrive.Goals as goal

pub returns-clause-open : goal.returns-clause-open
returns-clause-open c =
    open-arrived c.args.number _ _ c.args.order c.args.book.now c.incoming.new.book c.requires.open c.requires.order c.incoming.ensures.book c.incoming.ensures.prices c.incoming.ensures.capacity
