-- A run that may be printed is told by its choices.
use Rattle.std.proofs.Common.{◌≡◌, ℕ, ◌+◌, ◌-◌, ◌<◌, ◌≤◌, ◌^◌, Bool, true, false, cond, leb, ltb, List, [], ◌∷◌, ◌++◌, Option, Some, None, IfSome, inl, inr, codes, flat_map, length, map, slice_get, append_assoc, append-nil, refl, sym, ap, subst, ◌∙◌, arith}
use Rattle.std.specs.List.{All}
use Rattle.std.specs.Option.{option_map_or}
use Rattle.std.proofs.lemmas.Bool.Decides.{nat_tests}
use Rattle.std.proofs.lemmas.List.{length_push}
use Rattle.std.proofs.lemmas.List.Elements.{All-head, All-tail}
use Rattle.std.proofs.lemmas.Option.{slice_get_cases, slice_get_past}
use Rattle.mkt_base.specs.ReportWords.{name_of}
use Rattle.mkt_base.specs.Text.{line}
use Rattle.mkt_base.specs.declared.event.Entry.{Entry}
use Rattle.mkt_base.specs.declared.journal.Halt.{Halt}
use Rattle.mkt_base.specs.declared.journal.NodeState.TheVariants.{Lost}
use Rattle.mkt_base.specs.declared.output.Output.{Output}
use Rattle.mkt_base.specs.declared.script.ShowLine.{ShowLine}
use Rattle.rules_file.specs.Rules.{IsRules, codes_in, gateways_in, issues_in, participants_in}
use Rattle.rules_file.specs.declared.issue.IssueRules.{IssueRules}
use Rattle.rules_file.specs.declared.rules.Rules.{Rules}
use Rattle.rules_report.specs.Tables.{issue_line, issue_words}
use Rattle.issue_book.specs.IssueView.{terms_of}
use Rattle.issue_book.specs.State.{State, start}
use Rattle.issue_machine.specs.History.{FollowOn, nodes_after}
use Rattle.issue_machine.specs.Step.{Stepped, replay, state_after, step}
use Rattle.issue_machine.proofs.HistoryLemmas.{nodes-go}
use Rattle.run_report.specs.Report.{IsEnded, IsHaltOf, done_text, entry_line, halted_line, issue_text, issues_text, nodes_at_end, nodes_line, output_line, reply_line, show_line, total_line, trades_of}
use Rattle.run_report.specs.declared.ended.EndedIssue.{EndedIssue}
use Rattle.run_report.proofs.IssueLemmas.{part-is}
use Rattle.text_match.specs.Lines.{text_of}
use Rattle.text_match.proofs.FormLemmas.{IsPath, lines_from}
use Rattle.text_match.proofs.LineLemmas.{text-of_append}
use Rattle.text_match.proofs.WordLemmas.{body, joined, text-of_body}
use Rattle.audit.specs.Reports.{AreNumbered, HasNumbers}
use Rattle.audit.specs.Told.{At, Going, Showing, Choice, Close, Finish, behind, board_at, ended_with, entry_at, halt_at, is_behind, journal_at, may_show}
use Rattle.audit.specs.declared.told.Asked.{Asked}
use Rattle.audit.proofs.Choices.{MayEnter, MayShow, asked_of, close_lines, enter, entry_lines, entry_words, forced_of, halt_choices, halt_words, issue_choices, line_of, nodes_words, opening, opening_at, report_form, show_choice, show_words, step_lines, total_lines, totals_of}
use Rattle.audit.proofs.FollowLemmas.{entry-is, follows-may, state-push}
use Rattle.audit.proofs.LineLemmas.{IsSilent, output-silent, output_body, reply-silent, reply_body}

-- ---- texts in a row

four : (a b c d : List ℕ) → a ++ (b ++ (c ++ d)) ≡ ((a ++ b) ++ c) ++ d
four a b c d = sym (append_assoc (a ++ b) c d ∙ append_assoc a b (c ++ d))

six : (a b c d e f : List ℕ) → a ++ (b ++ (c ++ (d ++ (e ++ f)))) ≡ ((((a ++ b) ++ c) ++ d) ++ e) ++ f
six a b c d e f = four a b c (d ++ (e ++ f)) ∙ sym (append_assoc ((a ++ b) ++ c) d (e ++ f)) ∙ sym (append_assoc (((a ++ b) ++ c) ++ d) e f)

-- a line that follows from others, and the text behind it
silent-text : (text l : List ℕ) (lines : List (List ℕ)) → IsSilent text l → text_of (l ∷ lines) ≡ text ++ text_of lines
silent-text text l lines is = sym (append_assoc l (10 ∷ []) (text_of lines)) ∙ ap (λ t. t ++ text_of lines) (sym is.text_is)

module _ (rules : Rules) (is : IsRules rules) where
  outputs-text : (os : List Output) (lines : List (List ℕ)) → text_of (map (output_body rules) os ++ lines) ≡ flat_map (output_line rules) os ++ text_of lines
  outputs-text [] lines = refl
  outputs-text (o ∷ os) lines =
      silent-text (output_line rules o) (output_body rules o) (map (output_body rules) os ++ lines) (output-silent rules o is)
      ∙ ap (λ t. output_line rules o ++ t) (outputs-text os lines) ∙ sym (append_assoc (output_line rules o) (flat_map (output_line rules) os) (text_of lines))

  step-text : (d : Stepped) (lines : List (List ℕ)) → text_of (step_lines rules d ++ lines) ≡ flat_map (output_line rules) d.outputs ++ (reply_line rules d.reply ++ text_of lines)
  step-text d lines =
      ap text_of (append_assoc (map (output_body rules) d.outputs) (reply_body rules d.reply ∷ []) lines) ∙ outputs-text d.outputs (reply_body rules d.reply ∷ lines)
      ∙ ap (λ t. flat_map (output_line rules) d.outputs ++ t) (silent-text (reply_line rules d.reply) (reply_body rules d.reply) lines (reply-silent rules d.reply is))

  -- an entry with what it does
  entry-text : (e : Entry) (d : Stepped) (lines : List (List ℕ))
      → text_of (body (entry_words rules e) ∷ (step_lines rules d ++ lines)) ≡ done_text rules (record { entry = e; stepped = d }) ++ text_of lines
  entry-text e d lines =
      text-of_body (entry_words rules e) (step_lines rules d ++ lines) ∙ ap (λ t. entry_line rules e ++ t) (step-text d lines)
      ∙ four (entry_line rules e) (flat_map (output_line rules) d.outputs) (reply_line rules d.reply) (text_of lines)

  -- from a point on choices are allowed, and their lines are this text
  pub record Tells (at : At) (cs : List Choice) (text : List ℕ) : Type 0 where
    pub path : IsPath (report_form rules) at cs
    pub told : text_of (lines_from (report_form rules) at cs) ≡ text

  module _ (r : IssueRules) (done : List EndedIssue) (there : slice_get (issues_in rules) (length done) ≡ Some r) where
    -- ---- entries

    enter-tells : (journal : List Entry) (e : Entry) (cs : List Choice) (text : List ℕ) → MayEnter rules journal e.caller e.event → entry_at journal e.caller e.event ≡ e
        → Tells (Going done (journal ++ e ∷ [])) cs text
        → Tells (Going done journal) (enter e ∷ cs) (done_text rules (record { entry = e; stepped = step (terms_of rules r) e (state_after (terms_of rules r) journal) }) ++ text)
    unfolding line_of forced_of
    enter-tells journal e cs text may same more =
        let t = terms_of rules r in
        let d = step t e (state_after t journal) in
        let rest : Entry → List (List ℕ) = λ x. lines_from (report_form rules) (Going done (journal ++ x ∷ [])) cs in
        let text_with : Entry → List ℕ = λ x. text_of (body (entry_words rules x) ∷ (entry_lines rules journal x (slice_get (issues_in rules) (length done)) ++ rest x)) in
        let path_with : Entry → Type 0 = λ x. IsPath (report_form rules) (Going done (journal ++ x ∷ [])) cs in
        record {
          path = (may, subst path_with (sym same) more.path);
          told = ap text_with same ∙ ap (λ o. text_of (body (entry_words rules e) ∷ (entry_lines rules journal e o ++ rest e))) there
              ∙ entry-text e d (rest e) ∙ ap (λ x. done_text rules (record { entry = e; stepped = d }) ++ x) more.told;
        }

    pub enters : (journal es : List Entry) (cs : List Choice) (text : List ℕ) → FollowOn (length (participants_in rules)) journal es → length journal + length es ≤ 100000000
        → All (λ (e : Entry). e.caller.0 ≤ length (gateways_in rules)) es → All (λ (e : Entry). HasNumbers e.event) es → Tells (Going done (journal ++ es)) cs text
        → Tells (Going done journal) (map enter es ++ cs) (flat_map (done_text rules) (replay (terms_of rules r) (state_after (terms_of rules r) journal) es) ++ text)
    enters journal [] cs text on few callers numbers more = let P : List Entry → Type 0 = λ j. Tells (Going done j) cs text in subst P (append-nil journal) more
    enters journal (e ∷ es) cs text on few callers numbers more =
        let t = terms_of rules r in
        let n = length (participants_in rules) in
        let P : List Entry → Type 0 = λ j. Tells (Going done j) cs text in
        let here : Tells (Going done ((journal ++ e ∷ []) ++ es)) cs text = subst P (sym (append_assoc journal (e ∷ []) es)) more in
        let next = enters (journal ++ e ∷ []) es cs text on.1 (omega (arith, few, length_push journal e)) (All-tail (λ (e : Entry). e.caller.0 ≤ length (gateways_in rules)) e es callers)
        (All-tail (λ (e : Entry). HasNumbers e.event) e es numbers) here in
        let Q : State → Type 0 = λ s. Tells (Going done (journal ++ e ∷ [])) (map enter es ++ cs) (flat_map (done_text rules) (replay t s es) ++ text) in
        let then : Q (step t e (state_after t journal)).state = subst Q (state-push t journal e) next in
        let within : e.caller.0 ≤ length (gateways_in rules) = All-head (λ (e : Entry). e.caller.0 ≤ length (gateways_in rules)) e es callers in
        let may : MayEnter rules journal e.caller e.event =
        record {
          tests = follows-may n (length (gateways_in rules)) journal e on.0 (omega (arith, few)) within;
          of = on.0.event;
          numbers = All-head (λ (e : Entry). HasNumbers e.event) e es numbers;
        } in
        let all = enter-tells journal e (map enter es ++ cs) _ may (entry-is n journal e on.0) then in
        let R : List ℕ → Type 0 = λ x. Tells (Going done journal) (enter e ∷ (map enter es ++ cs)) x in
        subst R (sym (append_assoc (done_text rules (record { entry = e; stepped = step t e (state_after t journal) })) (flat_map (done_text rules) (replay t (step t e (state_after t journal)).state es)) text)) all

    -- ---- the end of an issue's part

    close-text : (journal : List Entry) (lines : List (List ℕ))
        → text_of (close_lines rules (length done) journal ++ lines)
        ≡ total_line rules (length done) (length journal) (trades_of (replay (terms_of rules r) (start (terms_of rules r)) journal)) (state_after (terms_of rules r) journal).last
        ++ (text_of (opening rules (length done + 1)) ++ text_of lines)
    close-text journal lines =
        let i = length done in
        let t = terms_of rules r in
        ap (λ o. text_of ((total_lines rules i journal o ++ opening rules (i + 1)) ++ lines)) there ∙ text-of_body (totals_of rules i t journal) (opening rules (i + 1) ++ lines)
        ∙ ap (λ x. line (totals_of rules i t journal) ++ x) (text-of_append (opening rules (i + 1)) lines)

    -- the text behind the entries of an issue
    abbrev pub end_text : List Entry → Option Halt → List ℕ → List ℕ
    end_text journal halt text =
        halted_line rules halt
        ++ (nodes_line (nodes_at_end halt (state_after (terms_of rules r) journal))
        ++ (total_line rules (length done) (length journal) (trades_of (replay (terms_of rules r) (start (terms_of rules r)) journal)) (state_after (terms_of rules r) journal).last
        ++ (text_of (opening rules (length done + 1)) ++ text)))

    pub closes : (journal : List Entry) (halt : Option Halt) (cs : List Choice) (text : List ℕ) → IfSome halt (IsHaltOf rules journal) → IfSome halt (λ (h : Halt). HasNumbers h.event)
        → Tells (behind rules (done ++ ended_with journal halt ∷ [])) cs text → Tells (Going done journal) (halt_choices halt ++ Close ∷ cs) (end_text journal halt text)
    unfolding line_of forced_of
    closes journal None cs text none numbers more =
        let t = terms_of rules r in
        let lines = lines_from (report_form rules) (behind rules (done ++ ended_with journal None ∷ [])) cs in
        record {
          path = (tt, more.path);
          told = text-of_body (nodes_words (nodes_after journal)) (close_lines rules (length done) journal ++ lines)
              ∙ ap (λ ns. nodes_line ns ++ text_of (close_lines rules (length done) journal ++ lines)) (sym (nodes-go t journal))
              ∙ ap (λ x. nodes_line (state_after t journal).nodes ++ x) (close-text journal lines ∙ ap (λ x. total_line rules (length done) (length journal) (trades_of (replay t (start t) journal)) (state_after t journal).last ++ (text_of (opening rules (length done + 1)) ++ x)) more.told);
        }
    closes journal (Some h) cs text halt numbers more =
        let t = terms_of rules r in
        let make : ℕ → Halt = λ own. record { caller = h.caller; own = own; event = h.event } in
        let same : halt_at journal h.caller h.event ≡ h = ap make (sym halt.own) in
        let lines : Halt → List (List ℕ) = λ x. lines_from (report_form rules) (behind rules (done ++ ended_with journal (Some x) ∷ [])) cs in
        let lost = nodes_words (Lost ∷ Lost ∷ Lost ∷ []) in
        let text_with : Halt → List ℕ = λ x. text_of (body (halt_words rules x) ∷ (body lost ∷ (close_lines rules (length done) journal ++ lines x))) in
        let path_with : Halt → Type 0 = λ x. IsPath (report_form rules) (behind rules (done ++ ended_with journal (Some x) ∷ [])) cs in
        let some : leb 1 h.caller.0 ≡ true = grind (arith, nat_tests, halt.caller) in
        let within : leb h.caller.0 (length (gateways_in rules)) ≡ true = grind (arith, nat_tests, halt.gateway) in
        record {
          path = (record { tests = joined _ _ some within; of = halt.event; numbers = numbers }, (tt, subst path_with (sym same) more.path));
          told = ap text_with same ∙ text-of_body (halt_words rules h) (body lost ∷ (close_lines rules (length done) journal ++ lines h))
              ∙ ap (λ x. line (halt_words rules h) ++ x) (text-of_body lost (close_lines rules (length done) journal ++ lines h)
              ∙ ap (λ x. line lost ++ x) (close-text journal (lines h) ∙ ap (λ x. total_line rules (length done) (length journal) (trades_of (replay t (start t) journal)) (state_after t journal).last ++ (text_of (opening rules (length done + 1)) ++ x)) more.told));
        }

  -- ---- the issues

  opening-line : (i : ℕ) (r : IssueRules) → slice_get (issues_in rules) i ≡ Some r → text_of (opening rules i) ≡ issue_line rules i
  opening-line i r there =
      let line_at : Option IssueRules → List ℕ = λ o. option_map_or (λ (r : IssueRules). line (codes "issue" ∷ name_of (codes_in rules) i ∷ issue_words r)) o [] in
      ap (λ o. text_of (opening_at rules i o)) there ∙ sym (ap line_at there)

  choices-assoc : (a b c d : List Choice) → ((a ++ (b ++ Close ∷ [])) ++ c) ++ d ≡ a ++ (b ++ Close ∷ (c ++ d))
  choices-assoc a b c d =
      append_assoc (a ++ (b ++ Close ∷ [])) c d ∙ append_assoc a (b ++ Close ∷ []) (c ++ d) ∙ ap (λ x. a ++ x) (append_assoc b (Close ∷ []) (c ++ d))

  -- the parts of issues behind those that are done, from the line of the next issue on
  pub record TellsOn (done more : List EndedIssue) (cs : List Choice) (text : List ℕ) : Type 0 where
    pub rest : List ℕ
    pub tells : Tells (behind rules done) (flat_map issue_choices more ++ cs) rest
    pub whole : text_of (opening rules (length done)) ++ rest ≡ issues_text rules (length done) more ++ text

  pub parts : (done more : List EndedIssue) (cs : List Choice) (text : List ℕ) → length done + length more ≡ length (issues_in rules) → All (IsEnded rules) more → All AreNumbered more
      → Tells (Showing (done ++ more) []) cs text → TellsOn done more cs text
  parts done [] cs text all ended numbers tells =
      let past : ltb (length done) (length (issues_in rules)) ≡ false = grind (arith, nat_tests, all) in
      let none : slice_get (issues_in rules) (length done) ≡ None = slice_get_past (issues_in rules) (length done) (omega (arith, all)) in
      let P : List EndedIssue → Type 0 = λ d. Tells (Showing d []) cs text in
      let here : Tells (Showing done []) cs text = subst P (append-nil done) tells in
      let Q : Bool → Type 0 = λ b. Tells (cond b (Going done []) (Showing done [])) cs text in
      record { rest = text; tells = subst Q (sym past) here; whole = ap (λ o. text_of (opening_at rules (length done) o) ++ text) none }
  parts done (ended ∷ more) cs text all ended_all numbers tells =
      let P : List EndedIssue → Type 0 = λ d. Tells (Showing d []) cs text in
      let next = parts (done ++ ended ∷ []) more cs text (omega (arith, all, length_push done ended)) (All-tail (IsEnded rules) ended more ended_all) (All-tail AreNumbered ended more numbers)
      (subst P (sym (append_assoc done (ended ∷ []) more)) tells) in
      elim (slice_get_cases (issues_in rules) (length done)).1 [
        | inl there ↦ part there.0 there.2 next (All-head (IsEnded rules) ended more ended_all) (All-head AreNumbered ended more numbers)
        | inr past ↦ absurd (omega (arith, past.0, all))
      ]
    where
      part : (r : IssueRules) → slice_get (issues_in rules) (length done) ≡ Some r → TellsOn (done ++ ended ∷ []) more cs text → IsEnded rules ended → AreNumbered ended
          → TellsOn done (ended ∷ more) cs text
      part r there next is_ended numbered =
          let i = length done in
          let t = terms_of rules r in
          let below : ltb i (length (issues_in rules)) ≡ true = grind (arith, nat_tests, all) in
          let close = closes r done there ended.journal ended.halt (flat_map issue_choices more ++ cs) next.rest is_ended.halt numbered.halt next.tells in
          let entered = enters r done there [] ended.journal _ _ is_ended.history (omega (arith, is_ended.few)) is_ended.callers numbered.entries close in
          let steps = flat_map (done_text rules) (replay t (start t) ended.journal) in
          let end = end_text r done there ended.journal ended.halt next.rest in
          let P : List Choice → Type 0 = λ xs. Tells (Going done []) xs (steps ++ end) in
          let told = subst P (sym (choices-assoc (map enter ended.journal) (halt_choices ended.halt) (flat_map issue_choices more) cs)) entered in
          let Q : Bool → Type 0 = λ b. Tells (cond b (Going done []) (Showing done [])) (flat_map issue_choices (ended ∷ more) ++ cs) (steps ++ end) in
          let rest : text_of (opening rules (i + 1)) ++ next.rest ≡ issues_text rules (i + 1) more ++ text =
          ap (λ k. text_of (opening rules k) ++ next.rest) (sym (length_push done ended)) ∙ next.whole ∙ ap (λ k. issues_text rules k more ++ text) (length_push done ended) in
          let halted = halted_line rules ended.halt in
          let nodes = nodes_line (nodes_at_end ended.halt (state_after t ended.journal)) in
          let total = total_line rules i (length ended.journal) (trades_of (replay t (start t) ended.journal)) (state_after t ended.journal).last in
          record {
            rest = steps ++ end;
            tells = subst Q (sym below) told;
            whole = ap (λ x. x ++ (steps ++ end)) (opening-line i r there)
                ∙ ap (λ x. issue_line rules i ++ (steps ++ (halted ++ (nodes ++ (total ++ x))))) rest
                ∙ six (issue_line rules i) steps halted nodes total (issues_text rules (i + 1) more ++ text)
                ∙ ap (λ x. x ++ (issues_text rules (i + 1) more ++ text)) (sym (part-is rules i ended r there))
                ∙ sym (append_assoc (issue_text rules i ended) (issues_text rules (i + 1) more) text);
          }

  -- ---- the reads of boards

  -- a read of a board that may stand in a report
  pub record IsShowOf (done : List EndedIssue) (s : ShowLine) : Type 0 where
    pub issue : s.issue < length (issues_in rules)
    pub caller : 1 ≤ s.gateway.0
    pub gateway : s.gateway.0 ≤ length (gateways_in rules)
    pub number : s.line < 2 ^ 32
    pub within : s.board.length ≤ length (journal_at done s.issue)
    pub few : s.board.length < 2 ^ 32
    pub board_is : board_at rules done s.issue s.board.length ≡ s.board

  -- reads that rise, behind a last one
  abbrev pub AreShows : List EndedIssue → Option Asked → List ShowLine → Type 0
  AreShows done last [] = Unit {0}
  AreShows done last (s ∷ ss) = IsShowOf done s × (option_map_or (λ l. is_behind l (asked_of s)) last true ≡ true) × AreShows done (Some (asked_of s)) ss

  last-push : (asked : List Asked) (a : Asked) → slice_get (asked ++ a ∷ []) (length (asked ++ a ∷ []) - 1) ≡ Some a
  last-push asked a = ap (λ k. slice_get (asked ++ a ∷ []) k) here ∙ at asked
    where
      here : length (asked ++ a ∷ []) - 1 ≡ length asked
      here = omega (arith, length_push asked a)

      at : (xs : List Asked) → slice_get (xs ++ a ∷ []) (length xs) ≡ Some a
      at [] = refl
      at (x ∷ xs) = at xs

  may-show : (done : List EndedIssue) (asked : List Asked) (s : ShowLine) (last : Option Asked) → slice_get asked (length asked - 1) ≡ last → IsShowOf done s
      → option_map_or (λ l. is_behind l (asked_of s)) last true ≡ true → MayShow rules done asked (asked_of s)
  unfolding may_show
  may-show done asked s last last_is show rises =
      let within : leb s.board.length (length (journal_at done s.issue)) ≡ true = grind (arith, nat_tests, show.within) in
      record {
        tests = joined _ _ within (ap (λ o. option_map_or (λ l. is_behind l (asked_of s)) o true) last_is ∙ rises);
        issue = show.issue;
        caller = show.caller;
        gateway = show.gateway;
        number = show.number;
        few = show.few;
      }

  pub shows : (done : List EndedIssue) (asked : List Asked) (ss : List ShowLine) (last : Option Asked) → slice_get asked (length asked - 1) ≡ last → AreShows done last ss
      → Tells (Showing done asked) (map show_choice ss ++ Finish ∷ []) (flat_map (show_line rules) ss ++ line (codes "end" ∷ []))
  unfolding line_of forced_of
  shows done asked [] last last_is are = record { path = (tt, tt); told = refl }
  shows done asked (s ∷ ss) last last_is are =
      let a = asked_of s in
      let more = shows done (asked ++ a ∷ []) ss (Some a) (last-push asked a) are.2 in
      let lines = lines_from (report_form rules) (Showing done (asked ++ a ∷ [])) (map show_choice ss ++ Finish ∷ []) in
      record {
        path = (may-show done asked s last last_is are.0 are.1, more.path);
        told = ap (λ b. text_of (body (show_words rules a b) ∷ lines)) are.0.board_is ∙ text-of_body (show_words rules a s.board) lines
            ∙ ap (λ x. show_line rules s ++ x) more.told ∙ sym (append_assoc (show_line rules s) (flat_map (show_line rules) ss) (line (codes "end" ∷ [])));
      }
