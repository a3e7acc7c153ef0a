-- A report, from what was printed of it.
use Rattle.std.proofs.Common.{◌≡◌, ℕ, ◌+◌, ◌<◌, ◌≤◌, List, [], ◌∷◌, ◌++◌, Option, Result, Ok, Err, OnOk, IfErr, drop, get_or, length, take, append_assoc, length-append, refl, sym, ap, subst, ◌∙◌, arith}
use Rattle.std.proofs.lemmas.List.{drop_more, take_all, take-append-le}
use Rattle.std.specs.Io.KnownBytes.{Appends}
use Rattle.mkt_io.specs.Faults.{Rises}
use Rattle.mkt_io.specs.Printed.{Printed, PrintsLines}
use Rattle.mkt_io.specs.Sink.{AppendsPart}
use Rattle.mkt_io.specs.declared.printer.Printer.{Printer}
use Rattle.rules_file.specs.declared.rules.Rules.{Rules}
use Rattle.run_report.specs.Issue.{HadMemory, PrintsFront}
use Rattle.run_report.specs.Report.{issue_text, issues_text}
use Rattle.run_report.specs.Reported.{Reports}
use Rattle.run_report.specs.declared.ended.EndedIssue.{EndedIssue}
use Rattle.run_report.specs.declared.ended.ReportFault.{ReportFault}
use Rattle.run_report.specs.declared.ended.ReportFault.TheVariants.{Memory, Write}
use Rattle.run_report.specs.declared.ended.Totals.{Totals}

-- the part of one issue more
pub issue-next : (rules : Rules) (i : ℕ) (issues : List EndedIssue) (item : EndedIssue) (text whole : List ℕ) → i < length issues → item ≡ get_or issues i item
    → text ++ issues_text rules i (drop i issues) ≡ whole → (text ++ issue_text rules i item) ++ issues_text rules (i + 1) (drop (i + 1) issues) ≡ whole
issue-next rules i issues item text whole within is all =
    let left : drop i issues ≡ item ∷ drop (i + 1) issues = drop_more issues i item within ∙ ap (λ x. x ∷ drop (i + 1) issues) (sym is) in
    append_assoc text (issue_text rules i item) (issues_text rules (i + 1) (drop (i + 1) issues)) ∙ ap (λ more. text ++ issues_text rules i more) (sym left) ∙ all

-- a fault that is no want of memory is the sink's, whatever was to be answered
pub had_too : (fault : ReportFault) → HadMemory {A = Unit {0}} (Err fault) → HadMemory {A = Totals} (Err fault)
had_too Write had = tt
had_too Memory had = absurd had

pub failed_write : (fault : ReportFault) → HadMemory {A = Unit {0}} (Err fault) → let one : Result Totals ReportFault = Err fault in one ≡ Err Write
failed_write Write had = refl
failed_write Memory had = absurd had

-- a front part of a front part is one of the whole
part-of_longer : (old new : Option (List ℕ)) (front rest text : List ℕ) → text ≡ front ++ rest → AppendsPart old new front → AppendsPart old new text
part-of_longer old new front rest text whole part =
    let P : List ℕ → Type 0 = λ xs. Appends old new xs in
    let within : part.0 ≤ length front = part.1 in
    let same : take part.0 front ≡ take part.0 text = sym (ap (take part.0) whole ∙ take-append-le part.0 front rest within) in
    (part.0, omega (arith, within, ap length whole, length-append front rest), subst P same part.2)

-- all of a text is a part of it
part-all : (old new : Option (List ℕ)) (text : List ℕ) → Appends old new text → AppendsPart old new text
part-all old new text all =
    let P : List ℕ → Type 0 = λ xs. Appends old new xs in
    (length text, omega arith, subst P (sym (take_all (length text) text (omega arith))) all)

module _ {O : Type 0} (contents : O → Option (List ℕ)) (faults : O → ℕ) (from new : O) (text : List ℕ) {p q : Printer O} (begun : Printed contents faults from [] [] p)
    (front : PrintsFront contents faults p q text) where
  -- the sink failed
  pub report-failed : ((bytes : List ℕ) → Printed contents faults from bytes [] q → AppendsPart (contents from) (contents new) bytes × Rises (faults from) (faults new) × (faults from ≤ faults new))
      → Reports contents faults from text new (Err Write)
  report-failed failed =
      let told = failed front.front (front.printed.printed from [] begun) in
      record {
        all = tt;
        part = part-of_longer _ _ front.front front.rest text front.whole told.0;
        cause = λ fault is. let write : fault ≡ Write = cc in rw write told.1;
        count = told.2;
      }

  -- what was printed is written
  pub report-written : (result : Result (Unit {0}) ReportFault) → OnOk result (PrintsLines contents faults p q text) → IfErr result (λ fault. fault ≡ Memory)
      → ((bytes : List ℕ) → Printed contents faults from bytes [] q → Appends (contents from) (contents new) bytes × (faults from ≤ faults new))
      → Reports contents faults from text new result
  report-written (Ok x) whole cause written =
      let told = written text (whole.printed from [] begun) in
      record { all = told.0; part = tt; cause = λ fault is. absurd (cc); count = told.1 }
  report-written (Err memory) whole cause written =
      let told = written front.front (front.printed.printed from [] begun) in
      record {
        all = tt;
        part = part-of_longer _ _ front.front front.rest text front.whole (part-all _ _ front.front told.0);
        cause = λ fault is. let want : fault ≡ Memory = cc in rw want tt;
        count = told.1;
      }
