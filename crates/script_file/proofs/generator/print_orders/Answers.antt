use Rattle.std.proofs.Common.{◌/◌, sym, ap, ◌∙◌}
use Rattle.mkt_io.specs.Printed.{before_lines, no_lines, same_lines}
use Rattle.script_file.specs.Generated.{order_from, order_line}
use Rattle.script_file.proofs.GeneratorLemmas.{state-next, state-none, text-next, text-none}
use Rattle.script_file.proofs.generator.print_orders.Goals as goal

pub loop-i-init : goal.loop-i-init
loop-i-init g c = record {
  printed = same_lines (sym (text-none c.args.number _)) no_lines;
  state = c.new-draws.ensures ∙ state-none c.args.number 0;
}

pub loop-i-preserved : goal.loop-i-preserved
loop-i-preserved g c =
    let before = c.loop-i.invariant in
    let own = same_lines (ap order_line (c.order.ensures.order ∙ ap order_from before.state)) c.print_order.ensures in
    record {
      printed = same_lines (text-next c.args.number (c.args.orders / 4) c.loop-i.i) (before_lines before.printed (before_lines c.print_opening_at.ensures own));
      state = c.order.ensures.state ∙ state-next c.args.number 0 c.loop-i.i _ before.state;
    }
