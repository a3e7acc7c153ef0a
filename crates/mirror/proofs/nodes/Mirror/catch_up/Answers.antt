use Rattle.std.proofs.Common.{rules}
use Rattle.mirror.specs.Calls.{caught}
use Rattle.mirror.specs.Members.{CameAll}
use Rattle.mirror.specs.Replicas.{Replicas, node_at, with_state}
use Rattle.mirror.proofs.Catching.{became-all}
use Rattle.mirror.proofs.nodes.Mirror.catch_up.Goals as goal

pub returns-clause-lost : goal.returns-clause-lost
returns-clause-lost g c =
    let before : Replicas = c.args.self.now in
    let aim : Replicas = with_state c.args.k (caught c.args.limit before.length (node_at c.args.k before).state) before in
    let came : CameAll aim before c.fill.new.self = search rules in
    rw (c.fell.ensures, c.fell-2.ensures, c.fell-3.ensures, c.states-before.ensures.value, c.states-after.ensures.value)
    (became-all aim before c.fill.new.self came)
