use Rattle.std.proofs.Common.{[], refl, subst, sym, lit≤}
use Rattle.script_file.specs.Orders.{rows_of}
use Rattle.script_file.specs.Reader.{IsKept}
use Rattle.script_file.specs.declared.script.GatewayScriptLine.{GatewayScriptLine}
use Rattle.std.specs.Prelude.{List}
use Rattle.script_file.proofs.OrderLemmas.{AreRowsOf-none}
use Rattle.script_file.proofs.reader.Reader.make.Goals as goal

pub invariant_of-result : goal.invariant_of-result
invariant_of-result c =
    let start : IsKept [] (rows_of c.in_ok-orders.orders) 1 0 = record { open_stage = lit≤ tt; count = refl; few = lit≤ tt; orders = AreRowsOf-none (rows_of c.in_ok-orders.orders) c.in_ok-orders.ensures } in
    subst (λ (lines : List GatewayScriptLine). IsKept lines (rows_of c.in_ok-orders.orders) 1 0) (sym c.new.ensures.items) start
