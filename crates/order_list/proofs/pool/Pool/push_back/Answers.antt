use Rattle.std.proofs.Common.{sym, ◌∙◌, ap, subst}
use Rattle.order_list.specs.Lists.{IsFresh, IsIn, IsLive, Stay, with_last}
use Rattle.order_list.proofs.PoolCallLemmas.{absent, added-lists, added-pool, fresh, has-list}
use Rattle.order_list.proofs.StayLemmas.{names-last, not-live, stay-last}
use Rattle.order_list.proofs.pool.Pool.push_back.Goals as goal

pub invariant_of-self : goal.invariant_of-self
invariant_of-self g c =
    let e = c.insert_reserved.ensures in
    added-pool g.T.Placed.place c.self.inside.cells c.self.invariant c.args.self.now c.self.view_is c.insert_reserved.new.self c.insert_reserved.result c.args.item
    e.was_vacant e.updates e.len e.capacity e.key_in_range c.requires.last c.requires.room

pub returns-clause-lists : goal.returns-clause-lists
returns-clause-lists g c =
    let e = c.insert_reserved.ensures in
    added-lists g.T.Placed.place c.self.inside.cells c.self.invariant c.args.self.now c.self.view_is c.insert_reserved.new.self c.insert_reserved.result c.args.item
    e.was_vacant e.updates e.len e.capacity e.key_in_range c.requires.last c.requires.room
    ∙ ap (λ k. with_last 0 (record { link = k; item = c.args.item }) c.args.self.now.lists) (sym c.new.ensures)

pub returns-clause-fresh : goal.returns-clause-fresh
returns-clause-fresh g c =
    let e = c.insert_reserved.ensures in
    subst (IsFresh c.args.self.now.lists) (sym c.new.ensures)
    (fresh g.T.Placed.place c.self.inside.cells c.self.invariant c.args.self.now c.self.view_is c.insert_reserved.new.self c.insert_reserved.result c.args.item
    e.was_vacant e.updates e.len e.capacity e.key_in_range)

pub returns-clause-names : goal.returns-clause-names
returns-clause-names g c =
    let e = c.insert_reserved.ensures in
    let absent =
    absent g.T.Placed.place c.self.inside.cells c.self.invariant c.args.self.now c.self.view_is c.insert_reserved.new.self c.insert_reserved.result c.args.item
    e.was_vacant e.updates e.len e.capacity e.key_in_range 0 in
    let within = has-list g.T.Placed.place c.self.inside.cells c.self.invariant c.args.self.now c.self.view_is in
    subst (λ ls. IsIn ls c.new.result 0 c.args.item) (sym (returns-clause-lists g c))
    (subst (λ k. IsIn (with_last 0 (record { link = k; item = c.args.item }) c.args.self.now.lists) k 0 c.args.item) (sym c.new.ensures)
    (names-last c.args.self.now.lists 0 c.insert_reserved.result c.args.item within absent))

pub returns-clause-stay : goal.returns-clause-stay
returns-clause-stay g c =
    subst (Stay c.args.self.now.lists) (sym (returns-clause-lists g c))
    (stay-last c.args.self.now.lists 0 (record { link = c.new.result; item = c.args.item }) (has-list g.T.Placed.place c.self.inside.cells c.self.invariant c.args.self.now c.self.view_is))

pub returns-clause-unused : goal.returns-clause-unused
returns-clause-unused g c =
    let e = c.insert_reserved.ensures in
    subst (λ k. ¬ IsLive c.args.self.now.lists k) (sym c.new.ensures)
    (not-live c.args.self.now.lists c.insert_reserved.result
    (absent g.T.Placed.place c.self.inside.cells c.self.invariant c.args.self.now c.self.view_is c.insert_reserved.new.self c.insert_reserved.result c.args.item
    e.was_vacant e.updates e.len e.capacity e.key_in_range))
