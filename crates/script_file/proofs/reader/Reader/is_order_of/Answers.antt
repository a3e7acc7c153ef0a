use Rattle.std.proofs.Common.{arith, ap, ◌∙◌}
use Rattle.script_file.specs.Orders.{rows_of}
use Rattle.script_file.specs.Own.{is_order_of}
use Rattle.script_file.specs.declared.script.Script.{Script}
use Rattle.script_file.proofs.OrderLemmas.{order-told}
use Rattle.script_file.proofs.reader.Reader.is_order_of.Goals as goal

pub is_order-requires : goal.is_order-requires
is_order-requires c = omega (arith, c.self.invariant.orders.count)

pub returns : goal.returns
returns c =
    c.is_order.ensures
    ∙ order-told (rows_of c.self.inside.orders) c.self.inside.lines.items c.args.gateway c.args.issue c.args.own c.self.invariant.orders c.requires.gateway c.requires.issue
    ∙ ap (λ (script : Script). is_order_of script.lines c.args.gateway c.args.issue c.args.own) c.self.view_is
