use Rattle.std.proofs.Common.{rules}
use Rattle.script_file.proofs.generator.write_generated.Goals as goal

pub returns : goal.returns
returns g c = search (rules, c.finish.ensures _ _ _ (c.print_generated.ensures.printed _ _ c.new-printer.ensures.nothing))
