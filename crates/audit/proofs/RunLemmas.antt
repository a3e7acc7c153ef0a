-- The report of a run as lines that are told by choices.
use Rattle.std.proofs.Common.{◌≡◌, ℕ, suc, ◌<◌, ◌^◌, true, ltb, List, [], ◌∷◌, ◌++◌, Some, None, inl, inr, codes, flat_map, get_or, map, slice_get, append_assoc, refl, sym, ap, subst, ◌∙◌, arith}
use Rattle.std.specs.List.{All, AllPairs}
use Rattle.std.specs.Option.{option_map_or}
use Rattle.std.proofs.lemmas.Bool.Decides.{nat_tests}
use Rattle.std.proofs.lemmas.Option.{get_or_from_slice_get, slice_get_cases, slice_get_within}
use Rattle.mkt_base.specs.Text.{line}
use Rattle.mkt_base.specs.declared.script.ShowLine.{ShowLine}
use Rattle.rules_file.specs.Rules.{IsRules, issues_in}
use Rattle.rules_file.specs.declared.issue.IssueRules.{IssueRules}
use Rattle.rules_file.specs.declared.rules.Rules.{Rules}
use Rattle.run_report.specs.Report.{IsEnded, IsNamed, IsRun, IsShown, IsShownBefore, Run, issues_text, report_text, show_line}
use Rattle.run_report.specs.declared.ended.EndedIssue.{EndedIssue}
use Rattle.text_match.specs.Lines.{text_of}
use Rattle.text_match.proofs.FormLemmas.{IsPath, lines_from}
use Rattle.text_match.proofs.LineLemmas.{AreLines, text-of_append}
use Rattle.text_match.proofs.WordLemmas.{body, body-one, text-of_body}
use Rattle.audit.specs.Reports.{AreNumbered}
use Rattle.audit.specs.Told.{At, Choice, Finish, behind, board_at, is_behind, journal_at, next}
use Rattle.audit.proofs.Choices.{asked_of, choices_of, opening, report_form, show_choice}
use Rattle.audit.proofs.FormLemmas.{one-line, quiet-forced, quiet-opening}
use Rattle.audit.proofs.TellLemmas.{AreShows, IsShowOf, TellsOn, parts, shows}

-- a run whose numbers are as the program keeps them
pub record IsNumbered (run : Run) : Type 0 where
  pub issues : All AreNumbered run.issues
  pub lines : All (λ (s : ShowLine). s.line < 2 ^ 32) run.shows

-- what holds of each holds of the one at a place
pub at-place : {A : Type 0} (P : A → Type 0) (xs : List A) (i : ℕ) (x : A) → All P xs → slice_get xs i ≡ Some x → P x
at-place P xs i x all there = subst P (get_or_from_slice_get xs i x x there) (all i x (slice_get_within xs i x there))

module _ (rules : Rules) (is : IsRules rules) where
  -- the lines in front of the first choice
  abbrev pub head : List (List ℕ)
  head = body (codes "market" ∷ codes "1" ∷ []) ∷ opening rules 0

  abbrev pub report_lines : List Choice → List (List ℕ)
  report_lines cs = head ++ lines_from (report_form rules) (behind rules []) cs

  behind-test : (a b : ShowLine) → IsShownBefore a b → is_behind (asked_of a) (asked_of b) ≡ true
  behind-test a b (inl h) = let t : ltb a.line b.line ≡ true = grind (arith, nat_tests, h) in rw t refl
  behind-test a b (inr h) = grind (arith, nat_tests, h)

  rising : (done : List EndedIssue) (s : ShowLine) (ss : List ShowLine) → All (IsShowOf rules is done) ss → AllPairs IsShownBefore (s ∷ ss) → AreShows rules is done (Some (asked_of s)) ss
  rising done s [] all pairs = tt
  rising done s (x ∷ ss) all pairs = (
    all 0 x (omega arith),
    behind-test s x (pairs 0 1 s (omega arith) (omega arith)),
    rising done x ss (λ k d h. all (suc k) d (omega (arith, h))) (λ i j d below within. pairs (suc i) (suc j) d (omega (arith, below)) (omega (arith, within))),
  )

  all-shows : (done : List EndedIssue) (ss : List ShowLine) → All (IsShowOf rules is done) ss → AllPairs IsShownBefore ss → AreShows rules is done None ss
  all-shows done [] all pairs = tt
  all-shows done (s ∷ ss) all pairs = (all 0 s (omega arith), refl, rising done s ss (λ k d h. all (suc k) d (omega (arith, h))) pairs)

  module _ (run : Run) (sound : IsRun rules run) (numbers : IsNumbered run) where
    one-show : (s : ShowLine) → IsNamed rules s
        → ((r : IssueRules) (ended : EndedIssue) → slice_get (issues_in rules) s.issue ≡ Some r → slice_get run.issues s.issue ≡ Some ended → IsShown rules r ended.journal s.board)
        → s.line < 2 ^ 32 → IsShowOf rules is run.issues s
    unfolding board_at
    one-show s named shown number =
        elim (slice_get_cases (issues_in rules) s.issue).1 [
          | inl rules_there ↦ elim (slice_get_cases run.issues s.issue).1 [
            | inl there ↦ with rules_there.0 there.0 rules_there.2 there.2
            | inr past ↦ absurd (omega (arith, past.0, sound.each, named.issue))
          ]
          | inr past ↦ absurd (omega (arith, past.0, named.issue))
        ]
      where
        with : (r : IssueRules) (ended : EndedIssue) → slice_get (issues_in rules) s.issue ≡ Some r → slice_get run.issues s.issue ≡ Some ended → IsShowOf rules is run.issues s
        with r ended rules_there there =
            let is_shown = shown r ended rules_there there in
            let journal : journal_at run.issues s.issue ≡ ended.journal = ap (λ o. option_map_or (λ (e : EndedIssue). e.journal) o []) there in
            let few = (at-place (IsEnded rules) run.issues s.issue ended sound.ended there).few in
            record {
              issue = named.issue;
              caller = named.caller;
              gateway = named.gateway;
              number = number;
              within = rw journal is_shown.within;
              few = omega (arith, is_shown.within, few);
              board_is = rw (rules_there, journal) (sym is_shown.board_is);
            }

    -- the choices of a run are allowed, and their lines make its report
    pub run-told : TellsOn rules is [] run.issues (map show_choice run.shows ++ Finish ∷ []) (flat_map (show_line rules) run.shows ++ line (codes "end" ∷ []))
    run-told =
        let all : All (IsShowOf rules is run.issues) run.shows = λ k d h. one-show (get_or run.shows k d) (sound.named k d h) (sound.shown k d h) (numbers.lines k d h) in
        parts rules is [] run.issues _ _ (omega (arith, sound.each)) sound.ended numbers.issues
        (shows rules is run.issues [] run.shows None refl (all-shows run.issues run.shows all sound.rise))

    pub run-path : IsPath (report_form rules) (behind rules []) (choices_of run)
    run-path = run-told.tells.path

    pub run-text : report_text rules run ≡ text_of (report_lines (choices_of run))
    run-text =
        let told = run-told in
        let market = line (codes "market" ∷ codes "1" ∷ []) in
        let lines = lines_from (report_form rules) (behind rules []) (choices_of run) in
        let read_shows = flat_map (show_line rules) run.shows in
        let end = line (codes "end" ∷ []) in
        sym (text-of_body (codes "market" ∷ codes "1" ∷ []) (opening rules 0 ++ lines) ∙ ap (λ x. market ++ x) (text-of_append (opening rules 0) lines)
        ∙ ap (λ x. market ++ (text_of (opening rules 0) ++ x)) told.tells.told ∙ ap (λ x. market ++ x) told.whole
        ∙ sym (append_assoc (market ++ issues_text rules 0 run.issues) read_shows end ∙ append_assoc market (issues_text rules 0 run.issues) (read_shows ++ end)))

  -- ---- no LF inside

  lines-append : (xs ys : List (List ℕ)) → AreLines xs → AreLines ys → AreLines (xs ++ ys)
  lines-append [] ys xs_are ys_are = ys_are
  lines-append (x ∷ xs) ys xs_are ys_are = (xs_are.0, lines-append xs ys xs_are.1 ys_are)

  lines-told : (at : At) (cs : List Choice) → AreLines (lines_from (report_form rules) at cs)
  lines-told at [] = tt
  lines-told at (c ∷ cs) = (one-line rules is at c, lines-append _ _ (quiet-forced rules is at c).lines_are (lines-told (next rules at c) cs))

  pub head-lines : AreLines head
  head-lines = (body-one (codes "market" ∷ codes "1" ∷ []) (refl, (refl, tt)), (quiet-opening rules is 0 (slice_get (issues_in rules) 0)).lines_are)

  pub report-lines_are : (cs : List Choice) → AreLines (report_lines cs)
  report-lines_are cs = lines-append head _ head-lines (lines-told (behind rules []) cs)
