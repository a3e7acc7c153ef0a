use Rattle.issue_machine.proofs.OrderLemmas.{may-again}
use Rattle.issue_machine.proofs.orders.change.Goals as goal

pub enter_again-requires-clause-enters : goal.enter_again-requires-clause-enters
enter_again-requires-clause-enters g c =
    may-again c.args.floor.now c.args.entry.now c.args.order.now c.args.spot c.args.qty c.stands.ensures.issue c.requires.entry c.requires.named c.requires.spot c.requires.some c.requires.limit
    c.requires.units
