-- The report of what is told goes along with the text as far as any report does.
use Rattle.std.proofs.Common.{◌≡◌, ℕ, ◌≤◌, true, ltb, List, [], ◌∷◌, ◌++◌, Result, Ok, Err, IfOk, codes, flat_map, drop, length, map, slice_get, take, append_assoc, append-nil, refl, sym, ap, subst, ◌∙◌, arith}
use Rattle.std.specs.List.{All}
use Rattle.std.proofs.lemmas.Bool.Decides.{nat_tests}
use Rattle.rules_file.specs.Rules.{IsRules, issues_in}
use Rattle.rules_file.specs.declared.rules.Rules.{Rules}
use Rattle.run_report.specs.Report.{IsRun, Run, report_text}
use Rattle.run_report.specs.declared.ended.EndedIssue.{EndedIssue}
use Rattle.text_match.specs.Lines.{lines_of, text_of}
use Rattle.text_match.specs.Matched.{IsComparison}
use Rattle.text_match.specs.Verdicts.{Begins}
use Rattle.text_match.specs.declared.matcher.Verdict.{Verdict}
use Rattle.text_match.proofs.FormLemmas.{IsPath, IsReadable, Unread, after, behind, determined, gather, gather-lines, gather-path, gather-unread, lines_from, lines_from-append}
use Rattle.text_match.proofs.FrontLemmas.{take_drop}
use Rattle.text_match.proofs.JudgeLemmas.{GoesAlong, judged}
use Rattle.text_match.proofs.LineLemmas.{AreLines-take, lines-of_text, tail_of, text-of_append}
use Rattle.audit.specs.Reading.{scanned}
use Rattle.audit.specs.Reports.{IsReport, IsVerdict}
use Rattle.audit.specs.Told.{At, Going, Over, Choice, Finish, IsAsked, asked_told, behind as behind_issues, issues_told, next, run_told, shown}
use Rattle.audit.specs.declared.told.Asked.{Asked}
use Rattle.audit.proofs.Choices.{choices_of, issue_choices, report_form, show_choice}
use Rattle.audit.proofs.FormLemmas.{quiet-forced, quiet-opening, reads}
use Rattle.audit.proofs.LineLemmas.{silent}
use Rattle.audit.proofs.PathLemmas.{choices_told, path-over, run-begins, run-over, scanned-after, sound-after, told-after}
use Rattle.audit.proofs.RunLemmas.{IsNumbered, head, report_lines, report-lines_are, run-path, run-text}
use Rattle.audit.proofs.SoundLemmas.{Sound, sound-asked, sound-run, sound-start}
use Rattle.audit.proofs.TakenLemmas.{taken-allowed}

module _ (rules : Rules) (is : IsRules rules) where
  -- the choices of a report are read back
  readable : IsReadable (report_form rules)
  readable = record {
    reads = reads rules is;
    sound = λ at l c h. taken-allowed rules at l c is h;
    unread = λ at c may. (quiet-forced rules is at c).unread (next rules at c);
  }

  first : behind_issues rules [] ≡ Going [] []
  first = let some : ltb 0 (length (issues_in rules)) ≡ true = grind (arith, nat_tests, is.issue_count.0) in rw some refl

  head-unread : (at : At) → Unread (report_form rules) at (head rules is)
  head-unread at = (
    (silent (codes "market") (codes "1" ∷ []) refl (record { plain = refl; some = omega arith }) (refl, tt)).unread rules at,
    (quiet-opening rules is 0 (slice_get (issues_in rules) 0)).unread at,
  )

  -- a report and its run, which is told by choices
  module _ (text : List ℕ) (report : IsReport rules text) where
    numbered : IsNumbered report.run
    numbered = record { issues = report.numbers; lines = report.lines }

    -- the lines of its text
    report-lines : lines_of text ≡ report_lines rules is (choices_of report.run)
    unfolding lines_of
    report-lines =
        let lines = report_lines rules is (choices_of report.run) in
        let whole : text ≡ text_of lines ++ [] = report.told ∙ run-text rules is report.run report.sound numbered ∙ sym (append-nil (text_of lines)) in
        ap lines_of whole ∙ lines-of_text lines [] (report-lines_are rules is (choices_of report.run)) ∙ append-nil lines

    report-path : IsPath (report_form rules) (behind_issues rules []) (choices_of report.run)
    report-path = run-path rules is report.run report.sound numbered

  -- before the first entry
  abbrev start : At
  start = behind_issues rules []

  sound-first : Sound rules start
  sound-first = subst (Sound rules) (sym first) (sound-start rules is)

  module _ (text : List ℕ) where
    -- the choices that the lines of a text tell, where they lead, and the run that is told there
    abbrev told : List Choice
    told = gather (report_form rules) start (lines_of text)

    abbrev at_end : At
    at_end = after (report_form rules) start told

    abbrev run : Run
    run = run_told rules at_end

    told-path : IsPath (report_form rules) start told
    told-path = gather-path (report_form rules) readable start (lines_of text)

    told-sound : Sound rules at_end
    told-sound = sound-after rules is start told told-path sound-first

    told-choices : choices_told at_end ≡ told
    told-choices = told-after rules start told told-path ∙ ap (λ s. choices_told s ++ told) first

    -- the report of that run
    report-of : IsReport rules (report_text rules run)
    report-of = let sound = sound-run rules at_end told-sound in record { run = run; sound = sound.0; numbers = sound.1.issues; lines = sound.1.lines; told = refl }

    run-lines : report_text rules run ≡ text_of (report_lines rules is (choices_of run))
    run-lines = let sound = sound-run rules at_end told-sound in run-text rules is run sound.0 sound.1

    -- it begins with the lines of what is told
    run-goes-on : (tail : List (List ℕ)) × (report_lines rules is (choices_of run) ≡ (head rules is ++ lines_from (report_form rules) start told) ++ tail)
    run-goes-on =
        let more = run-begins rules at_end told-sound in
        let choices : choices_of run ≡ told ++ more.rest = more.is ∙ ap (λ cs. cs ++ more.rest) told-choices in
        let tail = lines_from (report_form rules) at_end more.rest in (
          tail,
          ap (λ cs. head rules is ++ lines_from (report_form rules) start cs) choices ∙ ap (λ ls. head rules is ++ ls) (lines_from-append (report_form rules) start told more.rest)
              ∙ sym (append_assoc (head rules is) (lines_from (report_form rules) start told) tail),
        )

    as-far : (n : ℕ) → n ≤ length (lines_of text) → Begins (IsReport rules) (take n (lines_of text)) → (rest : List ℕ) × (report_text rules run ≡ text_of (take n (lines_of text)) ++ rest)
    as-far n within begins =
        let front = take n (lines_of text) in
        let left = drop n (lines_of text) in
        let other = text_of front ++ begins.0 in
        let report = begins.1 in
        let lines = lines_from (report_form rules) start (choices_of report.run) in
        let same : head rules is ++ lines ≡ front ++ lines_of begins.0 =
        sym (report-lines other report) ∙ lines-of_text front begins.0 (AreLines-take n (lines_of text) (tail_of text).1.lines_are) in
        let kept = behind (report_form rules) start (head rules is) lines left (head-unread start)
        (λ front a e. determined (report_form rules) readable start (choices_of report.run) left front a (report-path other report) e) front (lines_of begins.0) same in
        let here : head rules is ++ lines_from (report_form rules) start told ≡ front ++ kept.0 =
        ap (λ ls. head rules is ++ lines_from (report_form rules) start (gather (report_form rules) start ls)) (sym (take_drop n (lines_of text))) ∙ kept.1 in
        let on = run-goes-on in (
          text_of (kept.0 ++ on.0),
          run-lines ∙ ap text_of (on.1 ∙ ap (λ ls. ls ++ on.0) here ∙ append_assoc front kept.0 on.0) ∙ text-of_append front (kept.0 ++ on.0),
        )

    same-text : IsReport rules text → text ≡ report_text rules run
    same-text report =
        let choices = choices_of report.run in
        let before = flat_map issue_choices report.run.issues ++ map show_choice report.run.shows in
        let path = report-path text report in
        let gathered : told ≡ choices =
        ap (gather (report_form rules) start) (report-lines text report) ∙ gather-unread (report_form rules) start (head rules is) (lines_from (report_form rules) start choices) (head-unread start)
        ∙ gather-lines (report_form rules) readable start choices path in
        let split : choices ≡ before ++ Finish ∷ [] = sym (append_assoc (flat_map issue_choices report.run.issues) (map show_choice report.run.shows) (Finish ∷ [])) in
        let over = path-over rules start before (subst (IsPath (report_form rules) start) split path) in
        let end : at_end ≡ Over over.done over.asked = ap (after (report_form rules) start) (gathered ∙ split) ∙ over.is in
        let last : Sound rules (Over over.done over.asked) = subst (Sound rules) end told-sound in
        let all : choices_of run ≡ choices =
        ap (λ s. choices_of (run_told rules s)) end ∙ run-over rules over.done over.asked last ∙ ap choices_told (sym end) ∙ told-choices ∙ gathered in
        report.told ∙ run-text rules is report.run report.sound (numbered text report) ∙ ap (λ cs. text_of (report_lines rules is cs)) (sym all) ∙ sym run-lines

    goes-along : GoesAlong (IsReport rules) text (report_text rules run)
    goes-along = record { told = report-of; same = same-text; as_far = as-far }

    -- where the scan of the lines leads
    scanned-there : scanned rules (Going [] []) (lines_of text) ≡ at_end
    scanned-there = ap (λ s. scanned rules s (lines_of text)) (sym first) ∙ sym (scanned-after rules start (lines_of text))

    module _ (issues : List EndedIssue) (asked : List Asked) (issues_are : issues ≡ issues_told rules (scanned rules (Going [] []) (lines_of text)))
        (asked_are : asked ≡ asked_told (scanned rules (Going [] []) (lines_of text))) where
      abbrev pub told_run : Run
      told_run = record { issues = issues; shows = map (shown rules issues) asked }

      issues-there : issues ≡ issues_told rules at_end
      issues-there = issues_are ∙ ap (issues_told rules) scanned-there

      asked-there : asked ≡ asked_told at_end
      asked-there = asked_are ∙ ap asked_told scanned-there

      same-run : told_run ≡ run
      same-run =
          let make : List EndedIssue → List Asked → Run = λ xs ys. record { issues = xs; shows = map (shown rules xs) ys } in
          ap (λ xs. make xs asked) issues-there ∙ ap (λ ys. make (issues_told rules at_end) ys) asked-there

      -- it may be printed
      pub told-run : IsRun rules told_run
      told-run = subst (IsRun rules) (sym same-run) (sound-run rules at_end told-sound).0

      pub told-asked : All (IsAsked rules issues) asked
      told-asked =
          let P : List EndedIssue → Type 0 = λ xs. All (IsAsked rules xs) asked in
          let Q : List Asked → Type 0 = λ ys. All (IsAsked rules (issues_told rules at_end)) ys in
          subst P (sym issues-there) (subst Q (sym asked-there) (sound-asked rules at_end told-sound))

      -- and what its report has in common with the text is the verdict
      pub audited : (verdict : Verdict) → IsComparison text (report_text rules told_run) verdict → IsVerdict rules text verdict
      audited verdict compared =
          let P : Run → Type 0 = λ r. IsComparison text (report_text rules r) verdict in
          judged (IsReport rules) text (report_text rules run) goes-along verdict (subst P same-run compared)

      pub audited-result : {E : Type 0} (result : Result Verdict E) → IfOk result (IsComparison text (report_text rules told_run)) → IfOk result (IsVerdict rules text)
      audited-result (Ok verdict) compared = audited verdict compared
      audited-result (Err fault) compared = tt
