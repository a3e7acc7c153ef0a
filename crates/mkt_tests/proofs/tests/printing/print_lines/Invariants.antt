use Rattle.std.proofs.Common.{[], ◌∷◌, take, flat_map}
use Rattle.std.specs.Fmt.{decimal}
use Rattle.mkt_base.specs.Text.{line}
use Rattle.mkt_io.specs.Printed.{PrintsLines}
use Rattle.mkt_tests.proofs.tests.printing.print_lines.Given as goal

-- the lines of the numbers so far are printed
abbrev pub invariant-loop-number : goal.invariant-loop-number
invariant-loop-number g l =
    PrintsLines g.O.Sink.contents g.O.Sink.faults l.fn.printer l.printer (flat_map (λ n. line (decimal n ∷ [])) (take l.number-index l.numbers))
