use Rattle.std.proofs.Common.{sym, ◌∙◌, ap, subst}
use Rattle.slab.specs.Slab.{ContainsKey, get}
use Rattle.order_list.proofs.CallLemmas.{has-key, item-is, live-in}
use Rattle.order_list.proofs.lists.OrderList.item.Goals as goal

pub index-requires : goal.index-requires
index-requires g c =
    subst (ContainsKey c.self.inside.nodes) (sym c.key.ensures.value)
    (has-key c.self.inside.nodes c.self.inside.ends.items c.self.invariant c.args.self.now c.args.link c.self.view_is c.requires)

pub returns : goal.returns
returns g c list item live =
    item-is c.self.inside.nodes c.self.inside.ends.items c.self.invariant c.args.link list item c.index.result.now
    (live-in c.self.inside.nodes c.self.inside.ends.items c.self.invariant c.args.self.now c.args.link list item c.self.view_is live)
    (ap (get c.self.inside.nodes) (sym c.key.ensures.value) ∙ c.index.ensures)
