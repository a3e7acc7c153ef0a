use Rattle.std.proofs.Common.{[], ◌∷◌}
use Rattle.issue_machine.specs.Answering.{bad_price, bad_qty, closed, first_reason}
use Rattle.issue_machine.proofs.OrderLemmas.{order-taken, replied-refused}
use Rattle.issue_machine.proofs.orders.take_order.Goals as goal

pub returns-in-Err : goal.returns-in-Err
returns-in-Err g c =
    let v = c.args.floor.now in
    replied-refused g.W.Watch.took (first_reason (closed v.state ∷ bad_qty v.terms c.args.qty ∷ bad_price v.terms c.args.kind ∷ [])) c.in-Err.reason _ v c.args.watch.now (c.in-Err.ensures [])

pub returns : goal.returns
returns g c =
    order-taken g.W.Watch.took c.args.floor.now c.enter-left.new.floor c.args.watch.now c.enter-left.new.watch c.args.entry.now c.args.participant c.args.side c.args.kind c.args.qty c.in-Ok.spot c.from.result c.enter-left.result c.from.ensures
    c.in-Ok.ensures c.enter-left.ensures.moved c.enter-left.ensures.left
