-- What is told of a run of a script.
use Rattle.std.specs.Prelude.{◌≡◌, ◌⊎◌, ℕ, Bool, List, [], ◌∷◌, take, Option, Some, None, codes, if◌then◌else◌}
use Rattle.std.specs.List.{list_all}
use Rattle.mkt_base.specs.Text.{line}
use Rattle.mkt_base.specs.declared.event.Entry.{Entry}
use Rattle.mkt_base.specs.declared.journal.Halt.{Halt}
use Rattle.mkt_base.specs.declared.journal.NodeState.{NodeState}
use Rattle.mkt_base.specs.declared.journal.NodeState.TheVariants.{Lost}
use Rattle.node_rules.specs.Nodes.{has_synchronised}
use Rattle.rules_file.specs.declared.rules.Rules.{Rules}
use Rattle.issue_machine.specs.History.{nodes_after}
use Rattle.run_report.specs.Report.{Run, report_text}
use Rattle.run_report.specs.Summed.{totals_text}
use Rattle.run_report.specs.declared.ended.EndedIssue.{EndedIssue}
use Rattle.market_top.specs.Verdict.{Verdict, no_memory}
use Rattle.market_top.specs.declared.extent.Extent.{Extent}
use Rattle.market_top.specs.declared.extent.Extent.TheVariants.{Totals, Whole}

-- the nodes as a journal leaves them; all are lost where the issue is halted
abbrev pub nodes_left : List Entry → Option Halt → List NodeState
nodes_left journal None = nodes_after journal
nodes_left journal (Some h) = Lost ∷ Lost ∷ Lost ∷ []

-- some node of an issue is synchronised at its end
abbrev pub has_node : EndedIssue → Bool
has_node ended = has_synchronised (nodes_left ended.journal ended.halt)

-- 6 where an issue has no synchronised node at its end
unfoldable pub status_of : List EndedIssue → ℕ
status_of issues = if list_all has_node issues then 0 else 6

-- what is told of a run: its whole report, or of that the totals of its issues and the last line
unfoldable pub text_of : Extent → Rules → Run → List ℕ
text_of Whole rules run = report_text rules run
text_of Totals rules run = totals_text rules run.issues

-- the report of a run, to this extent
abbrev pub reported : Extent → Rules → Run → Verdict
reported extent rules run = record { status = status_of run.issues; out = text_of extent rules run; err = [] }

-- there was no memory once so many bytes of the report were written
abbrev pub cut_report : Extent → Rules → Run → ℕ → Verdict
cut_report extent rules run written = record { status = 5; out = take written (text_of extent rules run); err = line (codes "memory" ∷ []) }

-- a run is reported, or the memory gave out
abbrev pub IsReported : Extent → Rules → Run → Verdict → Type 0
IsReported extent rules run v = (v ≡ reported extent rules run) ⊎ ((written : ℕ) × (v ≡ cut_report extent rules run written))

-- a run that was made so is reported; or there was no memory for it
abbrev pub IsReportOf : Extent → Rules → (Run → Type 0) → Verdict → Type 0
IsReportOf extent rules IsMade v = (v ≡ no_memory) ⊎ ((run : Run) × IsMade run × IsReported extent rules run v)
