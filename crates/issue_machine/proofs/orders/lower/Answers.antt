use Rattle.issue_book.specs.Entering.{lower}
use Rattle.issue_book.specs.Quoting.{try_quote}
use Rattle.issue_book.specs.State.{State, stay, ◌then◌}
use Rattle.issue_machine.specs.Replying.{WasLeft}
use Rattle.issue_machine.proofs.OrderLemmas.{left-within, lowered-left, moved-then, replied-lowered}
use Rattle.issue_machine.proofs.orders.lower.Goals as goal

pub overflow_sub-result : goal.overflow_sub-result
overflow_sub-result g c =
    let v = c.args.floor.now in
    let o = c.args.order.now in
    let s : State = lower o.caller o.own c.args.qty v.state in
    let left : WasLeft (record o { left = c.args.qty }) (stay s then try_quote v.terms) c.left_of-left.result =
    lowered-left o c.args.qty v c.lower.new.self c.try_quote.new.self try_quote c.left_of-left.result c.stands.ensures.issue c.requires.named c.lower.ensures c.try_quote.ensures.state c.try_quote.ensures.filled
    c.left_of-left.ensures in
    left-within (record o { left = c.args.qty }) (stay s then try_quote v.terms) c.left_of-left.result left

pub returns : goal.returns
returns g c =
    let v = c.args.floor.now in
    let o = c.args.order.now in
    let s : State = lower o.caller o.own c.args.qty v.state in
    let left : WasLeft (record o { left = c.args.qty }) (stay s then try_quote v.terms) c.left_of-left.result =
    lowered-left o c.args.qty v c.lower.new.self c.try_quote.new.self try_quote c.left_of-left.result c.stands.ensures.issue c.requires.named c.lower.ensures c.try_quote.ensures.state c.try_quote.ensures.filled
    c.left_of-left.ensures in
    replied-lowered g.W.Watch.took o c.args.qty (stay s then try_quote v.terms) v c.try_quote.new.self c.args.watch.now c.try_quote.new.watch c.left_of-left.result
    (moved-then g.W.Watch.took s v c.lower.new.self c.try_quote.new.self c.args.watch.now c.try_quote.new.watch try_quote c.lower.ensures c.try_quote.ensures.state c.try_quote.ensures.told) left
