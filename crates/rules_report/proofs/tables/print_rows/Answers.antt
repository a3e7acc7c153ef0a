use Rattle.std.proofs.Common.{ap, flat_map}
use Rattle.std.proofs.lemmas.List.{take_all}
use Rattle.mkt_io.specs.Printed.{before_lines, no_lines, same_lines}
use Rattle.rules_report.proofs.LineLemmas.{lines-taken}
use Rattle.rules_report.proofs.tables.print_rows.Goals as goal

pub loop-row-init : goal.loop-row-init
loop-row-init g c = no_lines

pub loop-row-preserved : goal.loop-row-preserved
loop-row-preserved g c =
    same_lines (lines-taken g.R.Row.text c.args.rows.now c.loop-row.row-index c.row-item.result c.loop-row-test.true c.row-item.is)
    (before_lines c.loop-row.invariant c.print.ensures)

pub returns : goal.returns
returns g c = same_lines (ap (flat_map g.R.Row.text) (take_all c.loop-row.row-index c.args.rows.now c.loop-row-test.false)) c.loop-row.invariant
