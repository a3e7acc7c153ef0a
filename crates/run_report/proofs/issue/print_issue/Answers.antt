use Rattle.std.proofs.Common.{◌≡◌, Some, ap, length, refl, slice_get, sym}
use Rattle.mkt_base.specs.declared.quote.Board.{Board}
use Rattle.mkt_io.specs.Printed.{before_lines, same_lines}
use Rattle.rules_file.specs.Rules.{issues_in}
use Rattle.rules_file.specs.declared.issue.IssueRules.{IssueRules}
use Rattle.issue_machine.specs.Journal.{new_machine}
use Rattle.run_report.specs.Issue.{totals_line}
use Rattle.run_report.specs.declared.ended.EndedIssue.{EndedIssue}
use Rattle.run_report.proofs.FrontLemmas.{front_all, front_of_longer, same_front}
use Rattle.run_report.proofs.IssueLemmas.{head-printed, machine-made, part-is, stopped-part, totals-are}
use Rattle.run_report.proofs.issue.print_issue.Goals as goal

-- what is printed up to a fault counts as the whole part
stopped : goal.returns-in_default-print_journal-clause-whole
stopped g c had =
    let said = c.args.rules.now in
    let issue = c.args.issue in
    let entries = length c.args.journal.now in
    let m = c.in-Ok.machine in
    let ended : EndedIssue = record { journal = c.args.journal.now; halt = c.args.halt } in
    let making : (r : IssueRules) → slice_get (issues_in said) issue ≡ Some r → m ≡ new_machine said r entries = c.in-Ok.ensures in
    let is = machine-made said issue entries m c.requires.number making in
    let fault = c.in_default-print_journal.ensures.failed in
    same_lines (sym (part-is said issue ended is.rules_of is.there))
    (stopped-part said issue is.rules_of entries ended m is.made fault c.print_issue.ensures c.in_default-print_journal.ensures.printed)

pub returns-in_default-print_journal-clause-whole : goal.returns-in_default-print_journal-clause-whole
returns-in_default-print_journal-clause-whole g c = stopped g c

pub returns-in_default-print_journal-clause-front : goal.returns-in_default-print_journal-clause-front
returns-in_default-print_journal-clause-front g c = front_all (stopped g c tt)

pub returns-then-tally-clause-front : goal.returns-then-tally-clause-front
returns-then-tally-clause-front g c =
    let said = c.args.rules.now in
    let issue = c.args.issue in
    let entries = length c.args.journal.now in
    let m = c.in-Ok.machine in
    let ended : EndedIssue = record { journal = c.args.journal.now; halt = c.args.halt } in
    let making : (r : IssueRules) → slice_get (issues_in said) issue ≡ Some r → m ≡ new_machine said r entries = c.in-Ok.ensures in
    let is = machine-made said issue entries m c.requires.number making in
    let all = part-is said issue ended is.rules_of is.there in
    let head = head-printed said issue is.rules_of entries ended m c.print_journal.new.machine is.made c.in-Ok-print_journal.ensures.state c.print_issue.ensures c.in-Ok-print_journal.ensures.printed c.print_end.ensures in
    same_front (sym all) (front_of_longer _ (front_all head))

pub returns-clause-front : goal.returns-clause-front
returns-clause-front g c =
    let said = c.args.rules.now in
    let issue = c.args.issue in
    let entries = length c.args.journal.now in
    let m = c.in-Ok.machine in
    let ended : EndedIssue = record { journal = c.args.journal.now; halt = c.args.halt } in
    let making : (r : IssueRules) → slice_get (issues_in said) issue ≡ Some r → m ≡ new_machine said r entries = c.in-Ok.ensures in
    let is = machine-made said issue entries m c.requires.number making in
    let all = part-is said issue ended is.rules_of is.there in
    let head = head-printed said issue is.rules_of entries ended m c.print_journal.new.machine is.made c.in-Ok-print_journal.ensures.state c.print_issue.ensures c.in-Ok-print_journal.ensures.printed c.print_end.ensures in
    let totals = totals-are said issue is.rules_of entries ended m c.print_journal.new.machine is.made c.in-Ok-print_journal.ensures.state c.in-Ok-print_journal.tally _ entries c.board.result.last refl refl
    c.in-Ok-print_journal.ensures.counted c.if-tally.false refl (ap (λ (b : Board). b.last) c.board.ensures) in
    let whole = same_lines (sym all) (before_lines head (same_lines (ap (totals_line said issue) totals) c.print_totals.ensures)) in
    front_all whole

pub returns-clause-whole : goal.returns-clause-whole
returns-clause-whole g c had =
    let said = c.args.rules.now in
    let issue = c.args.issue in
    let entries = length c.args.journal.now in
    let m = c.in-Ok.machine in
    let ended : EndedIssue = record { journal = c.args.journal.now; halt = c.args.halt } in
    let making : (r : IssueRules) → slice_get (issues_in said) issue ≡ Some r → m ≡ new_machine said r entries = c.in-Ok.ensures in
    let is = machine-made said issue entries m c.requires.number making in
    let all = part-is said issue ended is.rules_of is.there in
    let head = head-printed said issue is.rules_of entries ended m c.print_journal.new.machine is.made c.in-Ok-print_journal.ensures.state c.print_issue.ensures c.in-Ok-print_journal.ensures.printed c.print_end.ensures in
    let totals = totals-are said issue is.rules_of entries ended m c.print_journal.new.machine is.made c.in-Ok-print_journal.ensures.state c.in-Ok-print_journal.tally _ entries c.board.result.last refl refl
    c.in-Ok-print_journal.ensures.counted c.if-tally.false refl (ap (λ (b : Board). b.last) c.board.ensures) in
    let whole = same_lines (sym all) (before_lines head (same_lines (ap (totals_line said issue) totals) c.print_totals.ensures)) in
    whole
