-- The choices of what is told.
use Rattle.std.proofs.Common.{◌≡◌, ℕ, Bool, true, false, cond, ltb, List, [], ◌∷◌, ◌++◌, Option, Some, None, flat_map, length, map, append_assoc, append-nil, refl, sym, ap, subst, ◌∙◌}
use Rattle.std.specs.List.{All}
use Rattle.std.proofs.lemmas.Grind.{flat_map-append}
use Rattle.std.proofs.lemmas.List.{map-append}
use Rattle.std.proofs.lemmas.List.Elements.{All-head, All-tail}
use Rattle.mkt_base.specs.declared.event.Entry.{Entry}
use Rattle.mkt_base.specs.declared.journal.Halt.{Halt}
use Rattle.rules_file.specs.Rules.{IsRules, issues_in}
use Rattle.rules_file.specs.declared.rules.Rules.{Rules}
use Rattle.run_report.specs.declared.ended.EndedIssue.{EndedIssue}
use Rattle.text_match.proofs.FormLemmas.{IsPath, after, gather}
use Rattle.audit.specs.Reading.{read, scanned, with_choice}
use Rattle.audit.specs.Told.{At, Going, Halted, Showing, Over, Choice, Enter, Stop, Close, Show, Finish, IsAsked, behind, ended_with, entry_at, next, run_told, shown}
use Rattle.audit.specs.declared.told.Asked.{Asked}
use Rattle.audit.proofs.Choices.{Allows, choices_of, enter, issue_choices, report_form, show_choice}
use Rattle.audit.proofs.SoundLemmas.{Sound, board-length, sound-next}

-- the choices that lead to what is told
abbrev pub choices_told : At → List Choice
choices_told (Going done journal) = flat_map issue_choices done ++ map enter journal
choices_told (Halted done journal halt) = flat_map issue_choices done ++ (map enter journal ++ Stop halt.caller halt.event ∷ [])
choices_told (Showing done asked) = flat_map issue_choices done ++ map Show asked
choices_told (Over done asked) = flat_map issue_choices done ++ (map Show asked ++ Finish ∷ [])

-- one list begins with another
pub record Begins (xs ys : List Choice) : Type 0 where
  pub rest : List Choice
  pub is : ys ≡ xs ++ rest

begins-more : (xs ys zs : List Choice) → Begins xs ys → Begins xs (ys ++ zs)
begins-more xs ys zs b = record { rest = b.rest ++ zs; is = ap (λ x. x ++ zs) b.is ∙ append_assoc xs b.rest zs }

begins-behind : (ws xs ys : List Choice) → Begins xs ys → Begins (ws ++ xs) (ws ++ ys)
begins-behind ws xs ys b = record { rest = b.rest; is = ap (λ x. ws ++ x) b.is ∙ sym (append_assoc ws xs b.rest) }

begins-same : (xs ys zs : List Choice) → ys ≡ zs → Begins xs ys → Begins xs zs
begins-same xs ys zs e b = subst (Begins xs) e b

module _ (rules : Rules) where
  told-behind : (done : List EndedIssue) → choices_told (behind rules done) ≡ flat_map issue_choices done
  told-behind done = at (ltb (length done) (length (issues_in rules)))
    where
      at : (b : Bool) → choices_told (cond b (Going done []) (Showing done [])) ≡ flat_map issue_choices done
      at true = append-nil (flat_map issue_choices done)
      at false = append-nil (flat_map issue_choices done)

  -- the choices of an issue that ends
  told-ended : (done : List EndedIssue) (ended : EndedIssue) → flat_map issue_choices (done ++ ended ∷ []) ≡ flat_map issue_choices done ++ issue_choices ended
  told-ended done ended = flat_map-append issue_choices done (ended ∷ []) ∙ ap (λ x. flat_map issue_choices done ++ x) (append-nil (issue_choices ended))

  told-next : (at : At) (c : Choice) → Allows rules at c → choices_told (next rules at c) ≡ choices_told at ++ c ∷ []
  told-next (Going done journal) (Enter caller event) may =
      ap (λ x. flat_map issue_choices done ++ x) (map-append enter journal (entry_at journal caller event ∷ [])) ∙ sym (append_assoc (flat_map issue_choices done) (map enter journal) (Enter caller event ∷ []))
  told-next (Going done journal) (Stop caller event) may = sym (append_assoc (flat_map issue_choices done) (map enter journal) (Stop caller event ∷ []))
  told-next (Going done journal) Close may =
      told-behind (done ++ ended_with journal None ∷ []) ∙ told-ended done (ended_with journal None) ∙ sym (append_assoc (flat_map issue_choices done) (map enter journal) (Close ∷ []))
  told-next (Going done journal) (Show a) may = absurd may
  told-next (Going done journal) Finish may = absurd may
  told-next (Halted done journal halt) (Enter caller event) may = absurd may
  told-next (Halted done journal halt) (Stop caller event) may = absurd may
  told-next (Halted done journal halt) Close may =
      let before = flat_map issue_choices done in
      let stop = Stop halt.caller halt.event in
      told-behind (done ++ ended_with journal (Some halt) ∷ []) ∙ told-ended done (ended_with journal (Some halt))
      ∙ ap (λ x. before ++ x) (sym (append_assoc (map enter journal) (stop ∷ []) (Close ∷ []))) ∙ sym (append_assoc before (map enter journal ++ stop ∷ []) (Close ∷ []))
  told-next (Halted done journal halt) (Show a) may = absurd may
  told-next (Halted done journal halt) Finish may = absurd may
  told-next (Showing done asked) (Enter caller event) may = absurd may
  told-next (Showing done asked) (Stop caller event) may = absurd may
  told-next (Showing done asked) Close may = absurd may
  told-next (Showing done asked) (Show a) may =
      ap (λ x. flat_map issue_choices done ++ x) (map-append Show asked (a ∷ [])) ∙ sym (append_assoc (flat_map issue_choices done) (map Show asked) (Show a ∷ []))
  told-next (Showing done asked) Finish may = sym (append_assoc (flat_map issue_choices done) (map Show asked) (Finish ∷ []))
  told-next (Over done asked) c may = absurd (over c may)
    where
      over : (c : Choice) → Allows rules (Over done asked) c → ⊥
      over (Enter caller event) may = may
      over (Stop caller event) may = may
      over Close may = may
      over (Show a) may = may
      over Finish may = may

  -- along allowed choices
  pub told-after : (at : At) (cs : List Choice) → IsPath (report_form rules) at cs → choices_told (after (report_form rules) at cs) ≡ choices_told at ++ cs
  told-after at [] path = sym (append-nil (choices_told at))
  told-after at (c ∷ cs) path =
      told-after (next rules at c) cs path.1 ∙ ap (λ x. x ++ cs) (told-next at c path.0) ∙ append_assoc (choices_told at) (c ∷ []) cs

  pub sound-after : (is : IsRules rules) (at : At) (cs : List Choice) → IsPath (report_form rules) at cs → Sound rules at → Sound rules (after (report_form rules) at cs)
  sound-after is at [] path s = s
  sound-after is at (c ∷ cs) path s = sound-after is (next rules at c) cs path.1 (sound-next rules is at c s path.0)

  -- the lines of a report lead to what is scanned
  pub scanned-after : (at : At) (ls : List (List ℕ)) → after (report_form rules) at (gather (report_form rules) at ls) ≡ scanned rules at ls
  scanned-after at [] = refl
  scanned-after at (l ∷ ls) = by (read rules at l) (λ t. scanned-after t ls)
    where
      by : (o : Option Choice) → ((t : At) → after (report_form rules) t (gather (report_form rules) t ls) ≡ scanned rules t ls)
          → after (report_form rules) at (elim o [ None ↦ gather (report_form rules) at ls | Some c ↦ c ∷ gather (report_form rules) (next rules at c) ls ]) ≡ scanned rules (with_choice rules at o) ls
      by None more = more at
      by (Some c) more = more (next rules at c)

  -- the choices of the run that is told begin with those that led to it
  shows-same : (done : List EndedIssue) (asked : List Asked) → All (IsAsked rules done) asked → map show_choice (map (shown rules done) asked) ≡ map Show asked
  shows-same done [] all = refl
  shows-same done (a ∷ asked) all =
      let make : ℕ → Choice = λ n. Show (record { line = a.line; gateway = a.gateway; issue = a.issue; length = n }) in
      let same : show_choice (shown rules done a) ≡ Show a = ap make (board-length rules done a (All-head (IsAsked rules done) a asked all)) in
      ap (λ c. c ∷ map show_choice (map (shown rules done) asked)) same ∙ ap (λ cs. Show a ∷ cs) (shows-same done asked (All-tail (IsAsked rules done) a asked all))

  issue-begins : (done : List EndedIssue) (journal : List Entry) (halt : Option Halt) (more : List EndedIssue) (xs : List Choice) → Begins xs (issue_choices (ended_with journal halt))
      → Begins (flat_map issue_choices done ++ xs) (flat_map issue_choices ((done ++ ended_with journal halt ∷ []) ++ more) ++ ([] ++ Finish ∷ []))
  issue-begins done journal halt more xs b =
      begins-more _ _ (Finish ∷ []) (begins-same _ _ _ (sym (flat_map-append issue_choices (done ++ ended_with journal halt ∷ []) more))
      (begins-more _ _ (flat_map issue_choices more) (begins-same _ _ _ (sym (told-ended done (ended_with journal halt))) (begins-behind (flat_map issue_choices done) xs _ b))))

  pub run-begins : (at : At) → Sound rules at → Begins (choices_told at) (choices_of (run_told rules at))
  run-begins (Going done journal) s = issue-begins done journal None _ (map enter journal) (record { rest = Close ∷ []; is = refl })
  run-begins (Halted done journal halt) s =
      issue-begins done journal (Some halt) _ (map enter journal ++ Stop halt.caller halt.event ∷ []) (record { rest = Close ∷ []; is = sym (append_assoc (map enter journal) (Stop halt.caller halt.event ∷ []) (Close ∷ [])) })
  run-begins (Showing done asked) s = record {
    rest = Finish ∷ [];
    is = ap (λ x. flat_map issue_choices done ++ (x ++ Finish ∷ [])) (shows-same done asked s.all) ∙ sym (append_assoc (flat_map issue_choices done) (map Show asked) (Finish ∷ []));
  }
  run-begins (Over done asked) s = record {
    rest = [];
    is = ap (λ x. flat_map issue_choices done ++ (x ++ Finish ∷ [])) (shows-same done asked s.all) ∙ sym (append-nil _);
  }

  -- behind the end they are all
  pub run-over : (done : List EndedIssue) (asked : List Asked) → Sound rules (Over done asked) → choices_of (run_told rules (Over done asked)) ≡ choices_told (Over done asked)
  run-over done asked s = ap (λ x. flat_map issue_choices done ++ (x ++ Finish ∷ [])) (shows-same done asked s.all)

  -- a path that ends with the end leads there
  pub record IsOver (at : At) : Type 0 where
    pub done : List EndedIssue
    pub asked : List Asked
    pub is : at ≡ Over done asked

  pub path-over : (at : At) (cs : List Choice) → IsPath (report_form rules) at (cs ++ Finish ∷ []) → IsOver (after (report_form rules) at (cs ++ Finish ∷ []))
  path-over (Going done journal) [] path = absurd path.0
  path-over (Halted done journal halt) [] path = absurd path.0
  path-over (Showing done asked) [] path = record { done = done; asked = asked; is = refl }
  path-over (Over done asked) [] path = absurd path.0
  path-over at (c ∷ cs) path = path-over (next rules at c) cs path.1
