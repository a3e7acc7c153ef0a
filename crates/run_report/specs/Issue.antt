-- What is printed and answered of one issue.
use Rattle.std.specs.Prelude.{◌≡◌, ℕ, List, [], ◌∷◌, ◌++◌, Option, Result, Ok, Err, length, codes}
use Rattle.std.specs.Fmt.{decimal}
use Rattle.mkt_base.specs.ReportWords.{name_of}
use Rattle.mkt_base.specs.Text.{line}
use Rattle.mkt_base.specs.declared.auction.Trade.{Trade}
use Rattle.mkt_base.specs.declared.event.Entry.{Entry}
use Rattle.mkt_io.specs.Printed.{PrintsLines}
use Rattle.mkt_io.specs.declared.printer.Printer.{Printer}
use Rattle.rules_file.specs.Rules.{codes_in}
use Rattle.rules_file.specs.declared.rules.Rules.{Rules}
use Rattle.issue_book.specs.State.{Terms, start}
use Rattle.issue_machine.specs.Journal.{MachineView}
use Rattle.issue_machine.specs.Step.{Done, replay, state_after, step}
use Rattle.run_report.specs.Report.{trades_of}
use Rattle.run_report.specs.Watched.{shares_of}
use Rattle.run_report.specs.declared.ended.EndedIssue.{EndedIssue}
use Rattle.run_report.specs.declared.ended.ReportFault.{ReportFault}
use Rattle.run_report.specs.declared.ended.ReportFault.TheVariants.{Write, Memory}
use Rattle.run_report.specs.declared.ended.Totals.{Totals}

-- what a machine does of an entry
abbrev pub done_of : MachineView → Entry → Done
done_of m e = record { entry = e; stepped = step m.issue.terms e m.issue.state }

-- what so many entries with these trades and this last price add up to
abbrev pub totals_with : ℕ → List Trade → ℕ → Totals
totals_with entries trades last =
    record { entries = entries; trades = length trades; shares = shares_of trades; last = record { 0 = last } }

-- what an issue under its terms adds up to
abbrev pub totals_on : Terms → EndedIssue → Totals
totals_on t ended = totals_with (length ended.journal) (trades_of (replay t (start t) ended.journal)) (state_after t ended.journal).last

-- what is told of totals
abbrev pub totals_words : Totals → List (List ℕ)
totals_words totals =
    codes "entries" ∷ decimal totals.entries ∷ codes "trades" ∷ decimal totals.trades ∷ codes "shares" ∷ decimal totals.shares
    ∷ codes "last" ∷ decimal totals.last.0 ∷ []

-- the line of an issue's totals
abbrev pub totals_line : Rules → ℕ → Totals → List ℕ
totals_line rules issue totals = line (codes "total" ∷ name_of (codes_in rules) issue ∷ totals_words totals)

-- no memory was wanting: all is done, or the sink failed
abbrev pub HadMemory : {A : Type 0} → Result A ReportFault → Type 0
HadMemory (Ok x) = Unit {0}
HadMemory (Err Write) = Unit {0}
HadMemory (Err Memory) = ⊥

-- whole lines from the front of a text were printed, and no more, over the same sink
pub record PrintsFront {O : Type 0} (contents : O → Option (List ℕ)) (faults : O → ℕ) (old new : Printer O) (text : List ℕ) : Type 0 where
  pub same_sink : new.sink.ghost_name ≡ old.sink.ghost_name
  pub front : List ℕ
  pub rest : List ℕ
  pub whole : text ≡ front ++ rest
  pub printed : PrintsLines contents faults old new front
