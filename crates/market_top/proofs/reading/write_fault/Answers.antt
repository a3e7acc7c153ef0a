use Rattle.std.proofs.Common.{rules}
use Rattle.market_top.proofs.reading.write_fault.Goals as goal

pub returns : goal.returns
returns g c = search (rules, c.finish.ensures _ _ _ (c.print_fault.ensures.printed _ _ c.new-printer.ensures.nothing))
