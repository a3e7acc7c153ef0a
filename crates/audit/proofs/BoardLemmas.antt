-- The boards of issues.
use Rattle.std.proofs.Common.{◌≡◌, ℕ, zero, suc, ◌+◌, ◌<◌, ◌≤◌, List, [], ◌∷◌, ◌++◌, Some, inl, inr, get_or, length, map, slice_get, take, append_assoc, refl, sym, ap, subst, ◌∙◌, zero-add, arith}
use Rattle.std.specs.Option.{option_map_or}
use Rattle.std.proofs.lemmas.List.{map-append, take_more}
use Rattle.std.proofs.lemmas.Option.{slice_get_cases}
use Rattle.mkt_base.specs.declared.event.Entry.{Entry}
use Rattle.mkt_base.specs.declared.quote.Board.{Board}
use Rattle.rules_file.specs.Rules.{issues_in}
use Rattle.rules_file.specs.declared.issue.IssueRules.{IssueRules}
use Rattle.rules_file.specs.declared.rules.Rules.{Rules}
use Rattle.issue_book.specs.IssueView.{terms_of}
use Rattle.issue_book.specs.State.{State, Terms, start}
use Rattle.issue_machine.specs.Journal.{AreEntries, MachineView, MayStep, new_machine, stepped}
use Rattle.issue_machine.specs.Step.{board_of, state_after, state_from, step}
use Rattle.run_report.specs.declared.ended.EndedIssue.{EndedIssue}
use Rattle.audit.specs.Told.{IsAsked, blank, board_at, boards_from, boards_in, boards_on, journal_at}
use Rattle.audit.specs.declared.told.Asked.{Asked}

-- ---- of one issue

pub length-boards_from : (t : Terms) (s : State) (es : List Entry) → length (boards_from t s es) ≡ length es + 1
length-boards_from t s [] = refl
length-boards_from t s (e ∷ es) = omega (arith, length-boards_from t (step t e s).state es)

pub get-boards_from : (t : Terms) (s : State) (es : List Entry) (n : ℕ) (d : Board) → n ≤ length es → get_or (boards_from t s es) n d ≡ board_of t (state_from t (take n es) s)
get-boards_from t s [] zero d h = refl
get-boards_from t s [] (suc n) d h = absurd (omega (arith, h))
get-boards_from t s (e ∷ es) zero d h = refl
get-boards_from t s (e ∷ es) (suc n) d h = get-boards_from t (step t e s).state es n d (omega (arith, h))

-- a machine along a journal: the boards so far, and those of the entries that are left
pub record AreAlong (before : List Board) (m : MachineView) (left : List Entry) (whole : List Board) : Type 0 where
  pub all : before ++ boards_from m.issue.terms m.issue.state left ≡ whole
  pub room : m.issue.state.entries + length left ≤ m.issue.capacity
  pub entries : AreEntries m.participants m.issue.state.entries m.next_own left

pub along-may : {before whole : List Board} {m : MachineView} {e : Entry} {left es : List Entry} → left ≡ e ∷ es → AreAlong before m left whole → MayStep m e
along-may {before} {whole} {m} {e} {left} {es} is along =
    let s : AreAlong before m (e ∷ es) whole = rw is at along in
    record { room = omega (arith, s.room); entry = s.entries.0 }

pub along-next : {before whole : List Board} {m n : MachineView} {e : Entry} {left es : List Entry} {b : Board} → left ≡ e ∷ es → AreAlong before m left whole
    → b ≡ board_of m.issue.terms m.issue.state → n ≡ stepped m e → n.issue.state.entries ≡ m.issue.state.entries + 1 → AreAlong (before ++ b ∷ []) n es whole
along-next {before} {whole} {m} {n} {e} {left} {es} {b} next along board is count =
    let s : AreAlong before m (e ∷ es) whole = rw next at along in
    let P : MachineView → Type 0 = λ n. n.issue.state.entries ≡ m.issue.state.entries + 1 → AreAlong (before ++ b ∷ []) n es whole in
    let more = boards_from m.issue.terms (step m.issue.terms e m.issue.state).state es in
    let here : P (stepped m e) = λ count. record {
      all = append_assoc before (b ∷ []) more ∙ ap (λ x. before ++ x ∷ more) board ∙ s.all;
      room = omega (arith, s.room, count);
      entries = let Q : ℕ → Type 0 = λ k. AreEntries m.participants k (stepped m e).next_own es in subst Q (sym count) s.entries.1;
    } in
    subst P (sym is) here count

-- the boards of a machine that was made
pub boards-made : (rules : Rules) (issue : ℕ) (r : IssueRules) (capacity : ℕ) (m : MachineView) (journal : List Entry) (boards : List Board) → slice_get (issues_in rules) issue ≡ Some r
    → m ≡ new_machine rules r capacity → boards ≡ [] ++ boards_from m.issue.terms m.issue.state journal → boards ≡ boards_in rules issue journal
unfolding boards_in
boards-made rules issue r capacity m journal boards there made is =
    is ∙ ap (λ (v : MachineView). boards_from v.issue.terms v.issue.state journal) made
    ∙ sym (ap (λ o. option_map_or (λ (r : IssueRules). boards_from (terms_of rules r) (start (terms_of rules r)) journal) o []) there)

-- ---- of all issues

pub length-boards_on : (rules : Rules) (i : ℕ) (issues : List EndedIssue) → length (boards_on rules i issues) ≡ length issues
length-boards_on rules i [] = refl
length-boards_on rules i (ended ∷ issues) = omega (arith, length-boards_on rules (i + 1) issues)

pub get-boards_on : (rules : Rules) (i k : ℕ) (issues : List EndedIssue) (d : List Board) → k < length issues → get_or (boards_on rules i issues) k d ≡ boards_in rules (i + k) (journal_at issues k)
get-boards_on rules i k [] d h = absurd (omega (arith, h))
get-boards_on rules i zero (ended ∷ issues) d h = ap (λ n. boards_in rules n ended.journal) (add-zero-is i)
  where
    add-zero-is : (n : ℕ) → n ≡ n + 0
    add-zero-is n = omega arith
get-boards_on rules i (suc k) (ended ∷ issues) d h =
    get-boards_on rules (i + 1) k issues d (omega (arith, h)) ∙ ap (λ n. boards_in rules n (journal_at issues k)) (next k)
  where
    next : (k : ℕ) → (i + 1) + k ≡ i + suc k
    next k = omega arith

-- the board that a read names
module _ (rules : Rules) (issues : List EndedIssue) (a : Asked) (each : length issues ≡ length (issues_in rules)) (is : IsAsked rules issues a) where
  pub issue-there : a.issue < length (boards_on rules 0 issues)
  issue-there = omega (arith, length-boards_on rules 0 issues, each, is.issue)

  boards-there : (d : List Board) → get_or (boards_on rules 0 issues) a.issue d ≡ boards_in rules a.issue (journal_at issues a.issue)
  boards-there d = get-boards_on rules 0 a.issue issues d (omega (arith, each, is.issue)) ∙ ap (λ n. boards_in rules n (journal_at issues a.issue)) (zero-add a.issue)

  pub board-there : (d : List Board) → a.length < length (get_or (boards_on rules 0 issues) a.issue d)
  unfolding boards_in
  board-there d =
      elim (slice_get_cases (issues_in rules) a.issue).1 [
        | inl there ↦
            let t = terms_of rules there.0 in
            let journal = journal_at issues a.issue in
            let boards : get_or (boards_on rules 0 issues) a.issue d ≡ boards_from t (start t) journal =
            boards-there d ∙ ap (λ o. option_map_or (λ (r : IssueRules). boards_from (terms_of rules r) (start (terms_of rules r)) journal) o []) there.2 in
            omega (arith, ap length boards, length-boards_from t (start t) journal, is.within)
        | inr past ↦ absurd (omega (arith, past.0, is.issue))
      ]

  pub board-named : (d : List Board) (b : Board) → get_or (get_or (boards_on rules 0 issues) a.issue d) a.length b ≡ board_at rules issues a.issue a.length
  unfolding boards_in board_at
  board-named d b =
      elim (slice_get_cases (issues_in rules) a.issue).1 [
        | inl there ↦
            let t = terms_of rules there.0 in
            let journal = journal_at issues a.issue in
            let boards : get_or (boards_on rules 0 issues) a.issue d ≡ boards_from t (start t) journal =
            boards-there d ∙ ap (λ o. option_map_or (λ (r : IssueRules). boards_from (terms_of rules r) (start (terms_of rules r)) journal) o []) there.2 in
            ap (λ xs. get_or xs a.length b) boards ∙ get-boards_from t (start t) journal a.length b is.within
            ∙ sym (ap (λ o. option_map_or (λ (r : IssueRules). board_of (terms_of rules r) (state_after (terms_of rules r) (take a.length journal))) o blank) there.2)
        | inr past ↦ absurd (omega (arith, past.0, is.issue))
      ]

-- one item more of a list that is made of another
pub taken-more : {A B : Type 0} (f : A → B) (xs : List A) (i : ℕ) (d : A) → i < length xs → {before after : List B} {item : B} → before ≡ map f (take i xs)
    → after ≡ before ++ item ∷ [] → item ≡ f (get_or xs i d) → after ≡ map f (take (i + 1) xs)
taken-more f xs i d within {before} {after} {item} so_far pushed is =
    pushed ∙ ap (λ ys. ys ++ item ∷ []) so_far ∙ ap (λ y. map f (take i xs) ++ y ∷ []) is ∙ sym (ap (map f) (take_more xs i d within) ∙ map-append f (take i xs) (get_or xs i d ∷ []))
