use Rattle.std.proofs.Common.{sym, subst}
use Rattle.order_list.specs.Lists.{AreLists}
use Rattle.order_list.proofs.CallLemmas.{are-apart}
use Rattle.order_list.proofs.SoundLemmas.{lists-are}
use Rattle.order_list.proofs.lists.OrderList.stands.Goals as goal

pub returns : goal.returns
returns g c =
    let nodes = c.self.inside.nodes in
    let ends = c.self.inside.ends.items in
    subst AreLists (sym (lists-are nodes ends c.args.self.now c.self.invariant c.self.view_is)) (are-apart nodes ends c.self.invariant)
