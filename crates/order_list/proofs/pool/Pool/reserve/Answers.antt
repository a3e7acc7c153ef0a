use Rattle.std.proofs.Common.{arith}
use Rattle.order_list.proofs.PoolCallLemmas.{grown-lists, grown-pool}
use Rattle.order_list.proofs.pool.Pool.reserve.Goals as goal

pub invariant_of-self : goal.invariant_of-self
invariant_of-self g c =
    let is = c.in_ok-self-inside.ensures in
    grown-pool g.T.Placed.place c.self.inside.cells c.self.invariant c.args.self.now c.self.view_is c.in_ok-self-inside.field-0 is.kept c.args.n (omega arith) is.room is.small

pub returns-in_ok-self-inside-clause-lists : goal.returns-in_ok-self-inside-clause-lists
returns-in_ok-self-inside-clause-lists g c =
    let is = c.in_ok-self-inside.ensures in
    grown-lists g.T.Placed.place c.self.inside.cells c.self.invariant c.args.self.now c.self.view_is c.in_ok-self-inside.field-0 is.kept c.args.n (omega arith) is.room
