use Rattle.std.proofs.Common.{◌≡◌, ◌<◌, ◌++◌, [], IfSome, Option, Some, arith, ap, get_or, length, refl, subst, sym, ◌∙◌}
use Rattle.mkt_io.specs.Printed.{before_lines, no_lines, same_lines}
use Rattle.rules_file.specs.Rules.{issues_in}
use Rattle.rules_file.specs.declared.issue.IssueRules.{IssueRules}
use Rattle.issue_book.specs.IssueView.{terms_of}
use Rattle.run_report.specs.declared.ended.EndedIssue.{EndedIssue}
use Rattle.run_report.specs.Summed.{issue_total, totals_by}
use Rattle.run_report.proofs.CountLemmas.{line-is, there-is, total-next}
use Rattle.run_report.proofs.FrontLemmas.{front_all, front_of_longer, same_front}
use Rattle.run_report.proofs.totals.print_totals.Goals as goal

pub loop-i-init : goal.loop-i-init
loop-i-init g c = record { text = []; printed = no_lines; whole = refl }

pub loop-i-preserved : goal.loop-i-preserved
loop-i-preserved g c =
    let rules = c.args.rules.now in
    let item = c.index-issues-from.result in
    let i = c.loop-i.i in
    let within : i < length c.args.issues.now = omega (arith, c.loop-i-test.true, c.issues-i-end.ensures.value, c.requires.each) in
    let is : item ≡ get_or c.args.issues.now i item = rw c.from.ensures at c.index-issues-from.is in
    let it = there-is rules i (omega (arith, within, c.requires.each)) in
    let P : Option IssueRules → Type 0 = λ found. IfSome found (λ r. c.in_ok-totals.totals ≡ totals_by (terms_of rules r) c.as_slice-journal.result.now) in
    let totals = subst P it.1 c.in_ok-totals.ensures.totals in
    let same = c.as_slice-journal.ensures ∙ ap (λ (ended : EndedIssue). ended.journal) (sym c.index-issues-from.is) in
    let line = same_lines (line-is rules i item it.0 c.as_slice-journal.result.now c.in_ok-totals.totals it.1 totals same) c.print_totals.ensures in
    record {
      text = c.loop-i.invariant.text ++ issue_total rules i item;
      printed = before_lines c.loop-i.invariant.printed line;
      whole = total-next rules i c.args.issues.now item c.loop-i.invariant.text _ within is c.loop-i.invariant.whole;
    }
