use Rattle.std.proofs.Common.{ap, flat_map}
use Rattle.std.proofs.lemmas.List.{take_all}
use Rattle.mkt_io.specs.Printed.{before_lines, no_lines, same_lines}
use Rattle.rules_report.proofs.LineLemmas.{lines-taken}
use Rattle.run_report.specs.Report.{show_line}
use Rattle.run_report.proofs.shows.print_all.Goals as goal

pub loop-show-init : goal.loop-show-init
loop-show-init g c = no_lines

pub loop-show-preserved : goal.loop-show-preserved
loop-show-preserved g c =
    same_lines (lines-taken (show_line c.args.rules.now) c.args.shows.now c.loop-show.show-index c.show-item.result c.loop-show-test.true c.show-item.is)
    (before_lines c.loop-show.invariant c.print_show.ensures)

pub returns : goal.returns
returns g c = same_lines (ap (flat_map (show_line c.args.rules.now)) (take_all c.loop-show.show-index c.args.shows.now c.loop-show-test.false)) c.loop-show.invariant
