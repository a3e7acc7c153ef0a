use Rattle.std.proofs.Common.{◌≡◌, IfSome, None, Option, Some, ap, length, refl, slice_get, subst, sym}
use Rattle.mkt_base.specs.declared.quote.Board.{Board}
use Rattle.rules_file.specs.Rules.{issues_in, participants_in}
use Rattle.rules_file.specs.declared.issue.IssueRules.{IssueRules}
use Rattle.issue_book.specs.IssueView.{terms_of}
use Rattle.issue_machine.specs.Journal.{new_machine}
use Rattle.run_report.specs.Summed.{totals_by}
use Rattle.run_report.specs.declared.ended.EndedIssue.{EndedIssue}
use Rattle.run_report.specs.declared.ended.Totals.{Totals}
use Rattle.run_report.proofs.IssueLemmas.{journal-ready, machine-made, totals-are}
use Rattle.run_report.proofs.totals.totals_of.Goals as goal

pub count_trades-tally-requires-clause-room : goal.count_trades-tally-requires-clause-room
count_trades-tally-requires-clause-room c =
    let said = c.args.rules.now in
    let entries = length c.args.journal.now in
    let m = c.in-Ok.machine in
    let ended : EndedIssue = record { journal = c.args.journal.now; halt = None } in
    let making : (r : IssueRules) → slice_get (issues_in said) c.args.issue ≡ Some r → m ≡ new_machine said r entries = c.in-Ok.ensures in
    let is = machine-made said c.args.issue entries m c.requires.number making in
    let ready = journal-ready said is.rules_of entries m ended is.made refl (c.history_is_journal.ensures (length (participants_in said)) c.args.journal.now c.requires.history) in
    ready.0

pub count_trades-tally-requires-clause-entries : goal.count_trades-tally-requires-clause-entries
count_trades-tally-requires-clause-entries c =
    let said = c.args.rules.now in
    let entries = length c.args.journal.now in
    let m = c.in-Ok.machine in
    let ended : EndedIssue = record { journal = c.args.journal.now; halt = None } in
    let making : (r : IssueRules) → slice_get (issues_in said) c.args.issue ≡ Some r → m ≡ new_machine said r entries = c.in-Ok.ensures in
    let is = machine-made said c.args.issue entries m c.requires.number making in
    let ready = journal-ready said is.rules_of entries m ended is.made refl (c.history_is_journal.ensures (length (participants_in said)) c.args.journal.now c.requires.history) in
    ready.1

pub returns-clause-totals : goal.returns-clause-totals
returns-clause-totals c =
    let said = c.args.rules.now in
    let issue = c.args.issue in
    let entries = length c.args.journal.now in
    let m = c.in-Ok.machine in
    let ended : EndedIssue = record { journal = c.args.journal.now; halt = None } in
    let making : (r : IssueRules) → slice_get (issues_in said) issue ≡ Some r → m ≡ new_machine said r entries = c.in-Ok.ensures in
    let is = machine-made said issue entries m c.requires.number making in
    let totals = totals-are said issue is.rules_of entries ended m c.count_trades-tally.new.machine is.made c.count_trades-tally.ensures.state c.count_trades-tally.result _ entries c.board.result.last refl refl
    c.count_trades-tally.ensures.counted c.if-tally.false refl (ap (λ (b : Board). b.last) c.board.ensures) in
    let all : Totals = record { entries = entries; trades = c.count_trades-tally.result.trades; shares = c.count_trades-tally.result.shares; last = c.board.result.last } in
    let P : Option IssueRules → Type 0 = λ found. IfSome found (λ r. all ≡ totals_by (terms_of said r) c.args.journal.now) in
    subst P (sym is.there) totals
