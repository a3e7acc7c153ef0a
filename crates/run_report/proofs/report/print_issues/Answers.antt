use Rattle.std.proofs.Common.{◌≡◌, ◌<◌, ◌++◌, [], arith, get_or, length, refl}
use Rattle.mkt_io.specs.Printed.{before_lines, no_lines, same_lines}
use Rattle.run_report.specs.Report.{issue_text}
use Rattle.run_report.proofs.FrontLemmas.{front_of_longer, front_then, lines_behind, same_front}
use Rattle.run_report.proofs.ReportLemmas.{failed_write, had_too, issue-next}
use Rattle.run_report.proofs.report.print_issues.Goals as goal

pub loop-i-init : goal.loop-i-init
loop-i-init g c = record { text = []; printed = no_lines; whole = refl }

pub returns-in-Err-clause-front : goal.returns-in-Err-clause-front
returns-in-Err-clause-front g c =
    let item = c.index-issues-from.result in
    let i = c.loop-i.i in
    let within : i < length c.args.issues.now = omega (arith, c.loop-i-test.true, c.issues-i-end.ensures.value, c.requires.each) in
    let is : item ≡ get_or c.args.issues.now i item = rw c.from.ensures at c.index-issues-from.is in
    let front = rw c.as_slice.ensures at c.print_issue.ensures.front in
    same_front (issue-next c.args.rules.now i c.args.issues.now item c.loop-i.invariant.text _ within is c.loop-i.invariant.whole)
    (front_of_longer _ (front_then c.loop-i.invariant.printed front))

pub returns-in-Err-clause-whole : goal.returns-in-Err-clause-whole
returns-in-Err-clause-whole g c had =
    let item = c.index-issues-from.result in
    let i = c.loop-i.i in
    let within : i < length c.args.issues.now = omega (arith, c.loop-i-test.true, c.issues-i-end.ensures.value, c.requires.each) in
    let is : item ≡ get_or c.args.issues.now i item = rw c.from.ensures at c.index-issues-from.is in
    let part = rw c.as_slice.ensures at c.in-Err.ensures.whole (had_too c.in-Err.fault had) in
    let fault = c.in-Err.ensures.failed (failed_write c.in-Err.fault had) in
    same_lines (issue-next c.args.rules.now i c.args.issues.now item c.loop-i.invariant.text _ within is c.loop-i.invariant.whole)
    (lines_behind _ fault (before_lines c.loop-i.invariant.printed part))

pub loop-i-preserved : goal.loop-i-preserved
loop-i-preserved g c =
    let item = c.index-issues-from.result in
    let i = c.loop-i.i in
    let within : i < length c.args.issues.now = omega (arith, c.loop-i-test.true, c.issues-i-end.ensures.value, c.requires.each) in
    let is : item ≡ get_or c.args.issues.now i item = rw c.from.ensures at c.index-issues-from.is in
    let part = rw c.as_slice.ensures at c.in-Ok.ensures.whole tt in
    record {
      text = c.loop-i.invariant.text ++ issue_text c.args.rules.now i item;
      printed = before_lines c.loop-i.invariant.printed part;
      whole = issue-next c.args.rules.now i c.args.issues.now item c.loop-i.invariant.text _ within is c.loop-i.invariant.whole;
    }
