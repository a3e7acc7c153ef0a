use Rattle.std.proofs.Common.{[], ◌∷◌, arith}
use Rattle.std.specs.Fmt.{decimal}
use Rattle.mkt_base.specs.Text.{line}
use Rattle.mkt_io.specs.Printed.{ended}
use Rattle.mkt_io.proofs.PrintsLemmas.{more_lines}
use Rattle.mkt_tests.proofs.tests.printing.print_lines.Goals as goal

pub loop-number-preserved : goal.loop-number-preserved
loop-number-preserved g c =
    more_lines (λ n. line (decimal n ∷ [])) c.args.numbers.now c.loop-number.number-index 0 (omega arith) c.loop-number.invariant (ended c.number.ensures c.line_end.ensures)
