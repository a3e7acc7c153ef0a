use Rattle.issue_machine.specs.Answering.{take_change, take_order}
use Rattle.issue_machine.proofs.EventLemmas.{finish-moved}
use Rattle.issue_machine.proofs.MoveLemmas.{OfEach, of-each, take_change-keeps, take_order-keeps}
use Rattle.issue_machine.proofs.machine.take_event.Goals as goal

pub returns-in-Order-clause-finish : goal.returns-in-Order-clause-finish
returns-in-Order-clause-finish g c =
    let v = c.args.floor.now in
    let e = c.args.entry.now in
    finish-moved v c.take_order.new.floor (take_order v.terms e c.in-Order.participant c.in-Order.side c.in-Order.kind c.in-Order.qty v.state).move.state c.take_order.ensures.move.state
    (take_order-keeps OfEach of-each e (λ participant side spot qty. tt) v.terms c.in-Order.participant c.in-Order.side c.in-Order.kind c.in-Order.qty v.state) c.requires.finish

pub returns-in-Change-clause-finish : goal.returns-in-Change-clause-finish
returns-in-Change-clause-finish g c =
    let v = c.args.floor.now in
    let e = c.args.entry.now in
    finish-moved v c.take_change.new.floor (take_change v.terms e c.in-Change.participant c.in-Change.target c.in-Change.kind c.in-Change.qty v.state).move.state c.take_change.ensures.move.state
    (take_change-keeps OfEach of-each e (λ o spot qty h. tt) v.terms c.in-Change.participant c.in-Change.target c.in-Change.kind c.in-Change.qty v.state) c.requires.finish
