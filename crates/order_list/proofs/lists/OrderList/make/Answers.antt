use Rattle.std.proofs.Common.{◌≤◌, rules}
use Rattle.order_list.specs.Links.{AreEmpty}
use Rattle.order_list.proofs.CallLemmas.{empty, empty-shown}
use Rattle.order_list.proofs.lists.OrderList.make.Goals as goal

pub invariant_of-result : goal.invariant_of-result
invariant_of-result g c =
    let made : AreEmpty c.args.lists c.in_ok-ends.ends.items = search rules in
    let few : c.args.lists ≤ 2147483648 = search rules in
    (empty c.new.result c.in_ok-ends.ends.items c.args.lists c.new.ensures.empty c.new.ensures.capacity made few).sound

pub returns : goal.returns
returns g c =
    let made : AreEmpty c.args.lists c.in_ok-ends.ends.items = search rules in
    let few : c.args.lists ≤ 2147483648 = search rules in
    empty-shown c.new.result c.in_ok-ends.ends.items c.args.lists c.new.ensures.empty c.new.ensures.capacity made few
