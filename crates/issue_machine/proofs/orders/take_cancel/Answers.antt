use Rattle.issue_machine.proofs.OrderLemmas.{named-itself}
use Rattle.issue_machine.proofs.orders.take_cancel.Goals as goal

pub take_out-requires : goal.take_out-requires
take_out-requires g c = named-itself c.args.entry.now.caller c.args.target c.args.floor.now.state c.in-Ok.order c.in-Ok.ensures.named
