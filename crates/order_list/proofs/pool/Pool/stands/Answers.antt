use Rattle.order_list.proofs.PoolCallLemmas.{stands}
use Rattle.order_list.proofs.pool.Pool.stands.Goals as goal

pub returns-clause-lists : goal.returns-clause-lists
returns-clause-lists g c = stands g.T.Placed.place c.self.inside.cells c.self.invariant c.args.self.now c.self.view_is
