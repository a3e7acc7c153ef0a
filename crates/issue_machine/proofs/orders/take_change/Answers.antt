use Rattle.std.proofs.Common.{ℕ, ◌∙◌, [], ◌∷◌, subst}
use Rattle.issue_book.specs.Entering.{named}
use Rattle.issue_machine.specs.Answering.{bad_price, bad_qty, change_to, closed, first_reason, not_yours, unknown}
use Rattle.issue_machine.specs.Replying.{WasReplied}
use Rattle.issue_machine.proofs.OrderLemmas.{change-reasons, change-taken, named-itself, replied-refused}
use Rattle.issue_machine.proofs.orders.take_change.Goals as goal

pub returns-in-Err : goal.returns-in-Err
returns-in-Err g c =
    let v = c.args.floor.now in
    let found = named c.args.entry.now.caller c.args.target v.state in
    let more = unknown c.args.target found ∷ not_yours c.args.participant found ∷ [] in
    replied-refused g.W.Watch.took (first_reason (closed v.state ∷ bad_qty v.terms c.args.qty ∷ bad_price v.terms c.args.kind ∷ more)) c.in-Err.reason _ v c.args.watch.now (c.in-Err.ensures more)

pub returns-in-Err-own_order : goal.returns-in-Err-own_order
returns-in-Err-own_order g c =
    let v = c.args.floor.now in
    let found = named c.args.entry.now.caller c.args.target v.state in
    let more = unknown c.args.target found ∷ not_yours c.args.participant found ∷ [] in
    replied-refused g.W.Watch.took (first_reason (closed v.state ∷ bad_qty v.terms c.args.qty ∷ bad_price v.terms c.args.kind ∷ more)) c.in-Err-own_order.reason _ v c.args.watch.now
    (change-reasons v c.args.entry.now c.args.participant c.args.target c.args.kind c.args.qty c.in-Ok.spot found c.in-Ok.ensures ∙ c.in-Err-own_order.ensures)

pub change-requires-clause-named : goal.change-requires-clause-named
change-requires-clause-named g c = named-itself c.args.entry.now.caller c.args.target c.args.floor.now.state c.in-Ok-own_order.order c.in-Ok-own_order.ensures.named

pub returns : goal.returns
returns g c =
    let v = c.args.floor.now in
    change-taken g.W.Watch.took v c.change.new.floor c.args.watch.now c.change.new.watch c.args.entry.now c.args.participant c.args.target c.args.kind c.args.qty c.in-Ok.spot
    c.in-Ok-own_order.order c.change.result c.in-Ok.ensures c.in-Ok-own_order.ensures
    (subst (λ (q : ℕ). WasReplied g.W.Watch.took (change_to v.terms c.args.entry.now c.in-Ok.spot q c.in-Ok-own_order.order v.state) v c.change.new.floor c.args.watch.now c.change.new.watch c.change.result)
    c.from.ensures c.change.ensures)
