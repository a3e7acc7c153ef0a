use Rattle.std.proofs.Common.{◌≡◌, ap, arith, length, map}
use Rattle.std.proofs.lemmas.List.{take_all}
use Rattle.mkt_base.specs.ReportWords.{node_state_word}
use Rattle.mkt_io.specs.Printed.{◌and_then◌, same_words}
use Rattle.run_report.specs.Report.{nodes_at_end}
use Rattle.run_report.proofs.NodeLemmas.{no_words, words-taken}
use Rattle.run_report.proofs.issue.print_nodes.Goals as goal

pub loop-n-init : goal.loop-n-init
loop-n-init g c = record { printed = no_words; three = λ h. absurd (omega (arith, h)) }

pub loop-n-preserved : goal.loop-n-preserved
loop-n-preserved g c =
    let nodes = nodes_at_end c.args.halt.now c.args.machine.now.issue.state in
    let word = rw c.node_state_name.ensures at c.word.ensures in
    record {
      printed = same_words (words-taken nodes c.loop-n.n c.state_at_end.result c.state_at_end.ensures.state) (c.loop-n.invariant.printed and_then word);
      three = λ _. c.state_at_end.ensures.three;
    }

pub returns : goal.returns
returns g c =
    let nodes = nodes_at_end c.args.halt.now c.args.machine.now.issue.state in
    let three : length nodes ≡ 3 = c.loop-n.invariant.three (omega arith) in
    same_words (ap (map node_state_word) (take_all c.loop-n.n nodes (omega (arith, three)))) c.loop-n.invariant.printed
