use Rattle.std.proofs.Common.{rules}
use Rattle.rules_report.proofs.tables.write_tables.Goals as goal

pub returns : goal.returns
returns g c = search (rules, c.finish.ensures _ _ _ (c.print_tables.ensures.printed _ _ c.new-printer.ensures.nothing))
