use Rattle.mkt_io.specs.Printed.{before_lines}
use Rattle.script_file.proofs.generator.print_generated.Goals as goal

pub returns : goal.returns
returns g c = before_lines (before_lines (before_lines c.print_clock.ensures c.print_orders.ensures) c.print_barrier.ensures) c.print_clock-2.ensures
