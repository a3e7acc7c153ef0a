use Rattle.order_list.proofs.PoolCallLemmas.{has-key, item-is}
use Rattle.order_list.proofs.pool.Pool.item.Goals as goal

pub index-requires : goal.index-requires
index-requires g c =
    has-key g.T.Placed.place c.self.inside.cells c.self.invariant c.args.self.now c.self.view_is c.key.result c.args.link c.key.ensures.value c.requires

pub returns : goal.returns
returns g c =
    item-is g.T.Placed.place c.self.inside.cells c.self.invariant c.args.self.now c.self.view_is c.key.result c.args.link c.index.result.now c.key.ensures.value c.index.ensures
