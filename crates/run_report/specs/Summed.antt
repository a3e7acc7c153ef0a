-- The sums of a run alone: the lines of its report that give the totals of the issues, and the last one.
use Rattle.std.specs.Prelude.{ℕ, ◌+◌, List, [], ◌∷◌, ◌++◌, filter_map, length, slice_get, codes}
use Rattle.std.specs.Option.{option_map_or}
use Rattle.mkt_base.specs.Text.{line}
use Rattle.mkt_base.specs.declared.event.Entry.{Entry}
use Rattle.mkt_base.specs.declared.output.Output.{Output}
use Rattle.rules_file.specs.Rules.{issues_in}
use Rattle.rules_file.specs.declared.rules.Rules.{Rules}
use Rattle.issue_book.specs.Filled.{trade_in}
use Rattle.issue_book.specs.IssueView.{terms_of}
use Rattle.issue_book.specs.State.{Terms, start}
use Rattle.issue_machine.specs.Step.{replay, state_after}
use Rattle.run_report.specs.Issue.{totals_line, totals_with}
use Rattle.run_report.specs.Report.{trades_of}
use Rattle.run_report.specs.Watched.{Counted}
use Rattle.run_report.specs.declared.ended.EndedIssue.{EndedIssue}
use Rattle.run_report.specs.declared.ended.Totals.{Totals}
use Rattle.run_report.specs.declared.totals.CountingWatch.{CountingWatch}

-- what a journal adds up to under an issue's terms
abbrev pub totals_by : Terms → List Entry → Totals
totals_by t journal = totals_with (length journal) (trades_of (replay t (start t) journal)) (state_after t journal).last

-- the last line of an issue's part, under its terms
abbrev pub issue_total_on : Rules → ℕ → Terms → EndedIssue → List ℕ
issue_total_on rules issue t ended = totals_line rules issue (totals_by t ended.journal)

-- the same, by the issue's number
abbrev pub issue_total : Rules → ℕ → EndedIssue → List ℕ
issue_total rules issue ended = option_map_or (λ r. issue_total_on rules issue (terms_of rules r) ended) (slice_get (issues_in rules) issue) []

-- the totals of the issues from this number on
abbrev pub issue_totals : Rules → ℕ → List EndedIssue → List ℕ
issue_totals rules issue [] = []
issue_totals rules issue (ended ∷ more) = issue_total rules issue ended ++ issue_totals rules (issue + 1) more

-- the totals of a run, and the last line of its report
abbrev pub totals_text : Rules → List EndedIssue → List ℕ
totals_text rules issues = issue_totals rules 0 issues ++ line (codes "end" ∷ [])

-- a watch has counted the trades among these outputs
abbrev pub CountedOutputs : CountingWatch → List Output → CountingWatch → Type 0
CountedOutputs old outputs new = Counted old.tally (filter_map trade_in outputs) new.tally
