-- What is told is the beginning of a run that may be printed.
use Rattle.std.proofs.Common.{◌≡◌, ℕ, zero, suc, ◌-◌, ◌<◌, ◌≤◌, ◌^◌, Bool, true, false, ◌&&◌, ◌||◌, cond, eqb, leb, ltb, List, [], ◌∷◌, ◌++◌, Option, Some, None, IfSome, inl, inr, get_or, length, map, replicate, slice_get, take, length-append, refl, sym, ap, subst, ◌∙◌, zero-add, arith}
use Rattle.std.specs.List.{All, AllPairs}
use Rattle.std.specs.Option.{option_map_or}
use Rattle.std.proofs.lemmas.Bool.{cases_lt}
use Rattle.std.proofs.lemmas.Bool.Decides.{nat_tests}
use Rattle.std.proofs.lemmas.List.{length-map, length_push, length-replicate, length-take-le}
use Rattle.std.proofs.lemmas.List.Elements.{All-append, All-map, All-nil, All-push, All-replicate, All-weaker}
use Rattle.std.proofs.lemmas.List.Quantifiers.{all_pairs_push}
use Rattle.std.proofs.lemmas.Option.{slice_get_cases, slice_get-get_or}
use Rattle.mkt_base.specs.declared.event.Entry.{Entry}
use Rattle.mkt_base.specs.declared.event.Event.{Event}
use Rattle.mkt_base.specs.declared.journal.Halt.{Halt}
use Rattle.mkt_base.specs.declared.script.ShowLine.{ShowLine}
use Rattle.mkt_base.specs.declared.units.Caller.{Caller}
use Rattle.rules_file.specs.Rules.{IsRules, gateways_in, issues_in, participants_in}
use Rattle.rules_file.specs.declared.issue.IssueRules.{IssueRules}
use Rattle.rules_file.specs.declared.rules.Rules.{Rules}
use Rattle.issue_book.specs.IssueView.{terms_of}
use Rattle.issue_book.specs.State.{start}
use Rattle.issue_machine.specs.History.{IsHistory}
use Rattle.issue_machine.specs.Step.{board_of, state_after}
use Rattle.issue_machine.proofs.HistoryLemmas.{entries-over, follow-more}
use Rattle.run_report.specs.Report.{IsEnded, IsHaltOf, IsNamed, IsRun, IsShown, IsShownBefore, Run}
use Rattle.run_report.specs.declared.ended.EndedIssue.{EndedIssue}
use Rattle.text_match.proofs.WordLemmas.{both}
use Rattle.audit.specs.Reports.{AreNumbered, HasNumbers}
use Rattle.audit.specs.Told.{At, Going, Halted, Showing, Over, Choice, Enter, Stop, Close, Show, Finish, IsAsked, asked_told, behind, blank, board_at, ended_with, entry_at, filled_up, halt_at, is_behind, issues_told, journal_at, may_show, next, run_told, shown}
use Rattle.audit.specs.declared.told.Asked.{Asked}
use Rattle.audit.proofs.Choices.{Allows, MayEnter, MayShow, MayStop}
use Rattle.audit.proofs.FollowLemmas.{may-follows}
use Rattle.audit.proofs.FormLemmas.{enter-few}
use Rattle.audit.proofs.RunLemmas.{IsNumbered}

-- ---- what holds of what is told

module _ (rules : Rules) where
  -- issues that are done
  pub record AreDone (done : List EndedIssue) : Type 0 where
    pub ended : All (IsEnded rules) done
    pub numbers : All AreNumbered done

  -- the journal of the issue at hand
  pub record IsOpen (journal : List Entry) : Type 0 where
    pub history : IsHistory (length (participants_in rules)) journal
    pub few : length journal ≤ 100000000
    pub callers : All (λ (e : Entry). e.caller.0 ≤ length (gateways_in rules)) journal
    pub numbers : All (λ (e : Entry). HasNumbers e.event) journal

  -- in the part of an issue
  pub record InIssue (done : List EndedIssue) (journal : List Entry) : Type 0 where
    pub dones : AreDone done
    pub below : length done < length (issues_in rules)
    pub at_hand : IsOpen journal

  -- among the reads of boards
  pub record InShows (done : List EndedIssue) (asked : List Asked) : Type 0 where
    pub dones : AreDone done
    pub each : length done ≡ length (issues_in rules)
    pub all : All (IsAsked rules done) asked
    pub rise : AllPairs (λ (a b : Asked). is_behind a b ≡ true) asked

  abbrev pub Sound : At → Type 0
  Sound (Going done journal) = InIssue done journal
  Sound (Halted done journal halt) = InIssue done journal × IsHaltOf rules journal halt × HasNumbers halt.event
  Sound (Showing done asked) = InShows done asked
  Sound (Over done asked) = InShows done asked

  no-pairs : {A : Type 0} (R : A → A → Type 0) → AllPairs R []
  no-pairs R i j d below within = absurd (omega (arith, within))

  open-none : IsOpen []
  open-none = record {
    history = tt;
    few = omega arith;
    callers = λ k d h. absurd (omega (arith, h));
    numbers = λ k d h. absurd (omega (arith, h));
  }

  -- an issue that ends
  ended-done : (done : List EndedIssue) (journal : List Entry) (halt : Option Halt) → AreDone done → IsOpen journal → IfSome halt (IsHaltOf rules journal)
      → IfSome halt (λ (h : Halt). HasNumbers h.event) → AreDone (done ++ ended_with journal halt ∷ [])
  ended-done done journal halt dones at_hand is numbers = record {
    ended = All-push (IsEnded rules) done (ended_with journal halt) dones.ended
        (record { history = at_hand.history; few = at_hand.few; callers = at_hand.callers; halt = is });
    numbers = All-push AreNumbered done (ended_with journal halt) dones.numbers (record { entries = at_hand.numbers; halt = numbers });
  }

  sound-behind : (done : List EndedIssue) → AreDone done → length done ≤ length (issues_in rules) → Sound (behind rules done)
  sound-behind done dones few = at (ltb (length done) (length (issues_in rules))) refl
    where
      at : (b : Bool) → ltb (length done) (length (issues_in rules)) ≡ b → Sound (cond b (Going done []) (Showing done []))
      at true e = record { dones = dones; below = grind (arith, nat_tests, e); at_hand = open-none }
      at false e =
          let past : length (issues_in rules) ≤ length done = grind (arith, nat_tests, e) in
          record { dones = dones; each = omega (arith, past, few); all = All-nil (IsAsked rules done); rise = no-pairs (λ (a b : Asked). is_behind a b ≡ true) }

  -- one read behind another, and that behind a third
  behind-trans : (a b c : Asked) → is_behind a b ≡ true → is_behind b c ≡ true → is_behind a c ≡ true
  behind-trans a b c h k = grind (arith, nat_tests, h, k)

  -- a read that may follow stands behind all others
  behind-all : (done : List EndedIssue) (asked : List Asked) (a : Asked) → AllPairs (λ (x y : Asked). is_behind x y ≡ true) asked → may_show done asked a ≡ true
      → (k : ℕ) (d : Asked) → k < length asked → is_behind (get_or asked k d) a ≡ true
  unfolding may_show
  behind-all done asked a pairs test k d h =
      let last = get_or asked (length asked - 1) d in
      let there : slice_get asked (length asked - 1) ≡ Some last = slice_get-get_or asked (length asked - 1) d (omega (arith, h)) in
      let t = both (leb a.length (length (journal_at done a.issue))) (option_map_or (λ l. is_behind l a) (slice_get asked (length asked - 1)) true) test in
      let behind_last : is_behind last a ≡ true = ap (λ o. option_map_or (λ l. is_behind l a) o true) (sym there) ∙ t.1 in
      elim (cases_lt k (length asked - 1)) [
        | inl before ↦ behind-trans (get_or asked k d) last a (pairs k (length asked - 1) d before (omega (arith, h))) behind_last
        | inr at ↦ let same : k ≡ length asked - 1 = omega (arith, at, h) in subst (λ (i : ℕ). is_behind (get_or asked i d) a ≡ true) (sym same) behind_last
      ]

  module _ (is : IsRules rules) where
    pub sound-start : Sound (Going [] [])
    sound-start = record { dones = record { ended = All-nil (IsEnded rules); numbers = All-nil AreNumbered }; below = omega (arith, is.issue_count.0); at_hand = open-none }

    open-more : (journal : List Entry) (caller : Caller) (event : Event) → IsOpen journal → MayEnter rules journal caller event → IsOpen (journal ++ entry_at journal caller event ∷ [])
    open-more journal caller event at_hand may =
        let e = entry_at journal caller event in
        let few = enter-few (length (gateways_in rules)) journal caller event may.tests in
        let follows = may-follows (length (participants_in rules)) (length (gateways_in rules)) journal caller event may.tests is.gateways.few may.of in
        record {
          history = follow-more (length (participants_in rules)) [] journal (e ∷ []) at_hand.history (follows, tt);
          few = omega (arith, length_push journal e, few.0);
          callers = All-push (λ (e : Entry). e.caller.0 ≤ length (gateways_in rules)) journal e at_hand.callers few.1;
          numbers = All-push (λ (e : Entry). HasNumbers e.event) journal e at_hand.numbers may.numbers;
        }

    halt-of : (journal : List Entry) (caller : Caller) (event : Event) → MayStop rules caller event → IsHaltOf rules journal (halt_at journal caller event)
    halt-of journal caller event may =
        let t = both (leb 1 caller.0) (leb caller.0 (length (gateways_in rules))) may.tests in
        record { caller = grind (arith, nat_tests, t.0); gateway = grind (arith, nat_tests, t.1); own = refl; event = may.of }

    asked-of : (done : List EndedIssue) (asked : List Asked) (a : Asked) → MayShow rules done asked a → IsAsked rules done a
    unfolding may_show
    asked-of done asked a may =
        let t = both (leb a.length (length (journal_at done a.issue))) (option_map_or (λ last. is_behind last a) (slice_get asked (length asked - 1)) true) may.tests in
        record { issue = may.issue; caller = may.caller; gateway = may.gateway; within = grind (arith, nat_tests, t.0); number = may.number; few = may.few }

    pub sound-next : (at : At) (c : Choice) → Sound at → Allows rules at c → Sound (next rules at c)
    sound-next (Going done journal) (Enter caller event) s may = record { dones = s.dones; below = s.below; at_hand = open-more journal caller event s.at_hand may }
    sound-next (Going done journal) (Stop caller event) s may = (s, halt-of journal caller event may, may.numbers)
    sound-next (Going done journal) Close s may =
        sound-behind (done ++ ended_with journal None ∷ []) (ended-done done journal None s.dones s.at_hand tt tt) (omega (arith, s.below, length_push done (ended_with journal None)))
    sound-next (Going done journal) (Show a) s may = absurd may
    sound-next (Going done journal) Finish s may = absurd may
    sound-next (Halted done journal halt) (Enter caller event) s may = absurd may
    sound-next (Halted done journal halt) (Stop caller event) s may = absurd may
    sound-next (Halted done journal halt) Close s may =
        sound-behind (done ++ ended_with journal (Some halt) ∷ []) (ended-done done journal (Some halt) s.0.dones s.0.at_hand s.1 s.2)
        (omega (arith, s.0.below, length_push done (ended_with journal (Some halt))))
    sound-next (Halted done journal halt) (Show a) s may = absurd may
    sound-next (Halted done journal halt) Finish s may = absurd may
    sound-next (Showing done asked) (Enter caller event) s may = absurd may
    sound-next (Showing done asked) (Stop caller event) s may = absurd may
    sound-next (Showing done asked) Close s may = absurd may
    sound-next (Showing done asked) (Show a) s may = record {
      dones = s.dones;
      each = s.each;
      all = All-push (IsAsked rules done) asked a s.all (asked-of done asked a may);
      rise = all_pairs_push (λ (x y : Asked). is_behind x y ≡ true) asked a s.rise (behind-all done asked a s.rise may.tests);
    }
    sound-next (Showing done asked) Finish s may = s
    sound-next (Over done asked) c s may = s

  -- ---- the run that is told

  -- the board of an issue tells how many entries it had
  pub board-length : (done : List EndedIssue) (a : Asked) → IsAsked rules done a → (board_at rules done a.issue a.length).length ≡ a.length
  unfolding board_at
  board-length done a is_asked =
      elim (slice_get_cases (issues_in rules) a.issue).1 [ inl there ↦ with there.0 there.2 | inr past ↦ absurd (omega (arith, past.0, is_asked.issue)) ]
    where
      with : (r : IssueRules) → slice_get (issues_in rules) a.issue ≡ Some r → (board_at rules done a.issue a.length).length ≡ a.length
      with r there =
          let t = terms_of rules r in
          let first = take a.length (journal_at done a.issue) in
          let all : (state_after t first).entries ≡ length first = entries-over t first (start t) ∙ zero-add (length first) in
          rw there (all ∙ length-take-le a.length (journal_at done a.issue) is_asked.within)

  show-before : (a b : Asked) (s t : ShowLine) → s.line ≡ a.line → s.issue ≡ a.issue → t.line ≡ b.line → t.issue ≡ b.issue → is_behind a b ≡ true → IsShownBefore s t
  show-before a b s t sl si tl ti h = at (ltb a.line b.line) (eqb a.line b.line) (ltb a.issue b.issue) refl refl refl h
    where
      at : (x y z : Bool) → ltb a.line b.line ≡ x → eqb a.line b.line ≡ y → ltb a.issue b.issue ≡ z → (x || (y && z)) ≡ true → IsShownBefore s t
      at true y z e f g h = let below : a.line < b.line = grind (arith, nat_tests, e) in inl (omega (arith, below, sl, tl))
      at false true true e f g h =
          let same : a.line ≡ b.line = grind (arith, nat_tests, f) in
          let below : a.issue < b.issue = grind (arith, nat_tests, g) in
          inr (omega (arith, same, sl, tl), omega (arith, below, si, ti))
      at false true false e f g h = absurd (cc)
      at false false z e f g h = absurd (cc)

  is-shown : (done : List EndedIssue) (a : Asked) → IsAsked rules done a → (r : IssueRules) (ended : EndedIssue) → slice_get (issues_in rules) a.issue ≡ Some r
      → slice_get done a.issue ≡ Some ended → IsShown rules r ended.journal (board_at rules done a.issue a.length)
  unfolding board_at
  is-shown done a is_asked r ended rules_there there =
      let t = terms_of rules r in
      let board = board_at rules done a.issue a.length in
      let count : board.length ≡ a.length = board-length done a is_asked in
      let journal : journal_at done a.issue ≡ ended.journal = ap (λ o. option_map_or (λ (e : EndedIssue). e.journal) o []) there in
      record {
        within = omega (arith, count, is_asked.within, ap length journal);
        board_is = ap (λ o. option_map_or (λ (r : IssueRules). board_of (terms_of rules r) (state_after (terms_of rules r) (take a.length (journal_at done a.issue)))) o blank) rules_there
            ∙ ap (λ j. board_of t (state_after t (take a.length j))) journal ∙ ap (λ n. board_of t (state_after t (take n ended.journal))) (sym count);
      }

  -- issues without an entry
  ended-none : IsEnded rules (ended_with [] None)
  ended-none = record { history = tt; few = omega arith; callers = λ k d h. absurd (omega (arith, h)); halt = tt }

  numbered-none : AreNumbered (ended_with [] None)
  numbered-none = record { entries = λ k d h. absurd (omega (arith, h)); halt = tt }

  filled : (done : List EndedIssue) → AreDone done → length done ≤ length (issues_in rules)
      → let run : Run = record { issues = filled_up (length (issues_in rules)) done; shows = [] } in IsRun rules run × IsNumbered run
  filled done dones few =
      let n = length (issues_in rules) - length done in
      let more = replicate n (ended_with [] None) in (
        record {
          each = omega (arith, length-append done more, length-replicate n (ended_with [] None), few);
          ended = All-append (IsEnded rules) done more dones.ended (All-replicate (IsEnded rules) n (ended_with [] None) ended-none);
          named = λ k d h. absurd (omega (arith, h));
          shown = λ k d h. absurd (omega (arith, h));
          rise = λ i j d below within. absurd (omega (arith, within));
        },
        record { issues = All-append AreNumbered done more dones.numbers (All-replicate AreNumbered n (ended_with [] None) numbered-none); lines = λ k d h. absurd (omega (arith, h)) },
      )

  showing : (done : List EndedIssue) (asked : List Asked) → InShows done asked → let run : Run = record { issues = done; shows = map (shown rules done) asked } in IsRun rules run × IsNumbered run
  showing done asked s =
      let of_issue : ShowLine → Type 0 = λ s. (r : IssueRules) (ended : EndedIssue) → slice_get (issues_in rules) s.issue ≡ Some r → slice_get done s.issue ≡ Some ended
      → IsShown rules r ended.journal s.board in
      let small : ShowLine → Type 0 = λ s. s.line < 2 ^ 32 in
      let each : (P : ShowLine → Type 0) → ((a : Asked) → IsAsked rules done a → P (shown rules done a)) → All P (map (shown rules done) asked) =
      λ P f. All-map P (shown rules done) asked (All-weaker (IsAsked rules done) (λ a. P (shown rules done a)) f asked s.all) in (
        record {
          each = s.each;
          ended = s.dones.ended;
          named = each (IsNamed rules) (λ a is. record { issue = is.issue; caller = is.caller; gateway = is.gateway });
          shown = each of_issue (λ a is. is-shown done a is);
          rise = λ i j d below within.
              let size = length-map asked (shown rules done) in
              let first = get_or-map (shown rules done) asked i d (omega (arith, below, within, size)) in
              let second = get_or-map (shown rules done) asked j d (omega (arith, within, size)) in
              let s_i = get_or (map (shown rules done) asked) i d in
              let s_j = get_or (map (shown rules done) asked) j d in
              show-before first.0 second.0 s_i s_j (ap (λ (s : ShowLine). s.line) first.1) (ap (λ (s : ShowLine). s.issue) first.1) (ap (λ (s : ShowLine). s.line) second.1)
              (ap (λ (s : ShowLine). s.issue) second.1) (pairs-at asked i j first.0 second.0 below (omega (arith, within, size)) first.2 second.2 s.rise);
        },
        record { issues = s.dones.numbers; lines = each small (λ a is. is.number) },
      )
    where
      get_or-map : (f : Asked → ShowLine) (xs : List Asked) (i : ℕ) (d : ShowLine) → i < length xs → (a : Asked) × (get_or (map f xs) i d ≡ f a) × ((e : Asked) → get_or xs i e ≡ a)
      get_or-map f [] i d h = absurd (omega (arith, h))
      get_or-map f (x ∷ xs) zero d h = (x, refl, λ e. refl)
      get_or-map f (x ∷ xs) (suc i) d h = get_or-map f xs i d (omega (arith, h))

      pairs-at : (xs : List Asked) (i j : ℕ) (a b : Asked) → i < j → j < length xs → ((e : Asked) → get_or xs i e ≡ a) → ((e : Asked) → get_or xs j e ≡ b)
          → AllPairs (λ (x y : Asked). is_behind x y ≡ true) xs → is_behind a b ≡ true
      pairs-at xs i j a b below within at_i at_j pairs = rw (at_i a, at_j a) at (pairs i j a below within)

  -- what is told is the beginning of a run that may be printed
  pub sound-run : (at : At) → Sound at → IsRun rules (run_told rules at) × IsNumbered (run_told rules at)
  sound-run (Going done journal) s =
      filled (done ++ ended_with journal None ∷ []) (ended-done done journal None s.dones s.at_hand tt tt) (omega (arith, s.below, length_push done (ended_with journal None)))
  sound-run (Halted done journal halt) s =
      filled (done ++ ended_with journal (Some halt) ∷ []) (ended-done done journal (Some halt) s.0.dones s.0.at_hand s.1 s.2)
      (omega (arith, s.0.below, length_push done (ended_with journal (Some halt))))
  sound-run (Showing done asked) s = showing done asked s
  sound-run (Over done asked) s = showing done asked s

  -- its reads of boards are of its journals
  pub sound-asked : (at : At) → Sound at → All (IsAsked rules (issues_told rules at)) (asked_told at)
  sound-asked (Going done journal) s = λ k d h. absurd (omega (arith, h))
  sound-asked (Halted done journal halt) s = λ k d h. absurd (omega (arith, h))
  sound-asked (Showing done asked) s = s.all
  sound-asked (Over done asked) s = s.all
