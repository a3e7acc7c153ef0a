use Rattle.std.proofs.Common.{◌<◌, rules, subst}
use Rattle.mirror.specs.Calls.{AllFell}
use Rattle.mirror.specs.Replicas.{Replicas, node_at, with_node}
use Rattle.mirror.proofs.Catching.{third-fell}
use Rattle.mirror.proofs.nodes.Mirror.fill.Goals as goal

pub returns-in_default-clause-fell : goal.returns-in_default-clause-fell
returns-in_default-clause-fell g c = λ e.
    let before : Replicas = record { first = c.self.inside.first; second = c.self.inside.second; third = c.self.inside.third; length = c.self.inside.entries } in
    let after : Replicas = record { first = c.fill-in_default.new.a; second = c.fill-in_default.new.b; third = c.fill-in_default.new.to; length = c.self.inside.entries } in
    let last : 1 < c.args.k = search rules in
    subst (λ m. AllFell (with_node c.args.k (node_at c.args.k after) m) after) c.self.view_is
    (third-fell c.args.k last before after c.fill-in_default.ensures.a_read (c.fill-in_default.ensures.a_none e)
    c.fill-in_default.ensures.b_read (c.fill-in_default.ensures.b_none e) (c.fill-in_default.ensures.joins e))
