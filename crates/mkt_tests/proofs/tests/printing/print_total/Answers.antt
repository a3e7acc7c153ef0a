use Rattle.std.proofs.Common.{rules}
use Rattle.mkt_tests.proofs.tests.printing.print_total.Goals as goal

pub returns : goal.returns
returns g c =
    let printed = c.line_end.ensures.printed _ _ _ (c.number.ensures.printed _ _ _ (c.word-2.ensures.printed _ _ _ (c.word.ensures.printed _ _ _ c.new-printer.ensures.nothing))) in
    search (rules, c.finish.ensures _ _ _ printed)
