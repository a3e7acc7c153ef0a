use Rattle.std.proofs.Common.{◌≡◌, ◌/◌}
use Rattle.mkt_io.specs.Printed.{PrintsLines}
use Rattle.script_file.specs.Generated.{orders_text, state_before}
use Rattle.script_file.proofs.generator.print_orders.Given as goal

-- the lines of the orders so far are printed, and the generator stands before the next one
abbrev pub invariant-loop-i : goal.invariant-loop-i
invariant-loop-i g l = record {
  printed : PrintsLines g.O.Sink.contents g.O.Sink.faults l.fn.printer l.printer (orders_text l.number (l.orders / 4) l.i);
  state : l.draws.state ≡ state_before l.number l.i;
}
