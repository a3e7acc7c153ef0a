use Rattle.mkt_io.specs.Printed.{before_lines}
use Rattle.script_file.proofs.generator.print_opening_at.Goals as goal

pub returns-then-here : goal.returns-then-here
returns-then-here g c = rw c.if-here.true (before_lines (before_lines c.print_barrier.ensures c.print_clock.ensures) c.print_barrier-then-here.ensures)
