use Rattle.std.proofs.Common.{sym, subst}
use Rattle.order_list.specs.Lists.{IsIn, OthersStay}
use Rattle.order_list.proofs.PoolCallLemmas.{changed-lists, changed-pool, has-key}
use Rattle.order_list.proofs.StayLemmas.{names-item, others-item}
use Rattle.order_list.proofs.pool.Pool.set.Goals as goal

pub index_mut-kept-requires : goal.index_mut-kept-requires
index_mut-kept-requires g c =
    has-key g.T.Placed.place c.self.inside.cells c.self.invariant c.args.self.now c.self.view_is c.key.result c.args.link c.key.ensures.value c.requires.live

pub invariant_of-self : goal.invariant_of-self
invariant_of-self g c =
    let live = c.requires.live in
    changed-pool g.T.Placed.place c.self.inside.cells c.self.invariant c.args.self.now c.self.view_is c.key.result c.args.link live.0 live.1 c.args.item c.key.ensures.value live.2
    (c.requires.place live.0 live.1 live.2)

pub returns-clause-lists : goal.returns-clause-lists
returns-clause-lists g c =
    let live = c.requires.live in
    changed-lists g.T.Placed.place c.self.inside.cells c.self.invariant c.args.self.now c.self.view_is c.key.result c.args.link live.0 live.1 c.args.item c.key.ensures.value live.2
    (c.requires.place live.0 live.1 live.2)

pub returns-clause-names : goal.returns-clause-names
returns-clause-names g c list old live =
    subst (λ ls. IsIn ls c.args.link list c.args.item) (sym (returns-clause-lists g c)) (names-item c.args.self.now.lists c.args.link list old c.args.item live)

pub returns-clause-others : goal.returns-clause-others
returns-clause-others g c =
    subst (OthersStay c.args.link c.args.self.now.lists) (sym (returns-clause-lists g c)) (others-item c.args.self.now.lists c.args.link c.args.item)
