use Rattle.std.proofs.Common.{sym, subst}
use Rattle.order_list.specs.Lists.{IsLive, OthersStay}
use Rattle.order_list.proofs.PoolCallLemmas.{has-key, item-is, lists-without, pool-without}
use Rattle.order_list.proofs.StayLemmas.{gone-without, others-without}
use Rattle.order_list.proofs.pool.Pool.unlink.Goals as goal

pub remove-requires : goal.remove-requires
remove-requires g c =
    has-key g.T.Placed.place c.self.inside.cells c.self.invariant c.args.self.now c.self.view_is c.key.result c.args.link c.key.ensures.value c.requires

pub invariant_of-self : goal.invariant_of-self
invariant_of-self g c =
    let e = c.remove.ensures in
    pool-without g.T.Placed.place c.self.inside.cells c.self.invariant c.args.self.now c.self.view_is c.remove.new.self c.key.result c.args.link c.key.ensures.value e.updates e.len e.capacity

pub returns-clause-item : goal.returns-clause-item
returns-clause-item g c =
    item-is g.T.Placed.place c.self.inside.cells c.self.invariant c.args.self.now c.self.view_is c.key.result c.args.link c.remove.result c.key.ensures.value c.remove.ensures.value

pub returns-clause-lists : goal.returns-clause-lists
returns-clause-lists g c =
    let e = c.remove.ensures in
    lists-without g.T.Placed.place c.self.inside.cells c.self.invariant c.args.self.now c.self.view_is c.remove.new.self c.key.result c.args.link c.key.ensures.value e.updates e.len e.capacity

pub returns-clause-gone : goal.returns-clause-gone
returns-clause-gone g c = subst (λ ls. ¬ IsLive ls c.args.link) (sym (returns-clause-lists g c)) (gone-without c.args.self.now.lists c.args.link)

pub returns-clause-others : goal.returns-clause-others
returns-clause-others g c =
    subst (OthersStay c.args.link c.args.self.now.lists) (sym (returns-clause-lists g c)) (others-without c.args.self.now.lists c.args.link)
