-- Which texts are reports under rules, and the verdict on a text.
use Rattle.std.specs.Prelude.{◌≡◌, ℕ, ◌<◌, ◌^◌, List, IfSome, All}
use Rattle.mkt_base.specs.declared.event.Entry.{Entry}
use Rattle.mkt_base.specs.declared.event.Event.{Event}
use Rattle.mkt_base.specs.declared.event.Event.TheVariants as events
use Rattle.mkt_base.specs.declared.journal.Halt.{Halt}
use Rattle.mkt_base.specs.declared.order.Kind.{Kind}
use Rattle.mkt_base.specs.declared.order.Kind.TheVariants.{Market, Limit}
use Rattle.mkt_base.specs.declared.script.ShowLine.{ShowLine}
use Rattle.rules_file.specs.declared.rules.Rules.{Rules}
use Rattle.run_report.specs.Report.{IsRun, Run, report_text}
use Rattle.run_report.specs.declared.ended.EndedIssue.{EndedIssue}
use Rattle.text_match.specs.Verdicts.{IsVerdictOf}
use Rattle.text_match.specs.declared.matcher.Verdict.{Verdict}

-- a limit price of 32 bits, where there is one
abbrev pub IsPriced : Kind → Type 0
IsPriced Market = Unit {0}
IsPriced (Limit price) = price.0 < 2 ^ 32

-- an event whose prices, quantities and own numbers are numbers of 32 bits, as the program keeps them
abbrev pub HasNumbers : Event → Type 0
HasNumbers (events.Order participant side kind qty) = IsPriced kind × (qty.0 < 2 ^ 32)
HasNumbers (events.Change participant target kind qty) = (target < 2 ^ 32) × IsPriced kind × (qty.0 < 2 ^ 32)
HasNumbers (events.Cancel participant target) = target < 2 ^ 32
HasNumbers event = Unit {0}

-- an issue of which all events have such numbers
pub record AreNumbered (ended : EndedIssue) : Type 0 where
  pub entries : All (λ (e : Entry). HasNumbers e.event) ended.journal
  pub halt : IfSome ended.halt (λ (h : Halt). HasNumbers h.event)

-- A text is a report under rules: the text of issues with journals that are well formed, with halts and with reads of boards, as the
-- report of a run tells them.
pub record IsReport (rules : Rules) (text : List ℕ) : Type 0 where
  pub run : Run
  pub sound : IsRun rules run
  pub numbers : All AreNumbered run.issues
  pub lines : All (λ (s : ShowLine). s.line < 2 ^ 32) run.shows
  pub told : text ≡ report_text rules run

-- a text is a report; or it is none, and this is the least number of lines with which no report begins
abbrev pub IsVerdict : Rules → List ℕ → Verdict → Type 0
IsVerdict rules text verdict = IsVerdictOf (IsReport rules) text verdict
