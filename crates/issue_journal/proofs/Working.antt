-- The machine beside the working list: what it may do next, and what it did then.
use Rattle.std.proofs.Common.{◌≡◌, ℕ, ◌+◌, ◌<◌, ◌≤◌, List, [], ◌∷◌, ◌++◌, length, drop, Some, inl, inr, refl, sym, ap, subst, ◌∙◌, arith, append_assoc}
use Rattle.std.specs.List.{slice_get}
use Rattle.std.proofs.lemmas.List.{drop_more, length_push}
use Rattle.std.proofs.lemmas.Option.{get_or_from_slice_get, slice_get_cases, slice_get_within}
use Rattle.mkt_base.specs.declared.event.Entry.{Entry}
use Rattle.rules_file.specs.Rules.{issues_in}
use Rattle.rules_file.specs.declared.issue.IssueRules.{IssueRules}
use Rattle.rules_file.specs.declared.rules.Rules.{Rules}
use Rattle.issue_book.specs.State.{State, Terms, start}
use Rattle.issue_machine.specs.History.{FollowOn, Follows, entries_by}
use Rattle.issue_machine.specs.Journal.{MachineView, MayStep, new_machine, stepped}
use Rattle.issue_machine.specs.Step.{state_after, state_from, step}
use Rattle.issue_machine.proofs.HistoryLemmas.{count-own, entries-over, follow-more, owns-none, owns-push}
use Rattle.turn_writer.specs.Losses.{loss_at, losses_from}
use Rattle.issue_journal.specs.Inside.{HasDone, IsRecording, IsWork, WorkView, losses_at, worked}

-- ---- before the first entry

none-done : (rules : Rules) (r : IssueRules) (capacity : ℕ) → HasDone (new_machine rules r capacity) []
none-done rules r capacity = record { history = tt; state = refl; owns = owns-none }

pub work-made : (rules : Rules) (i capacity room : ℕ) (made : MachineView) (entries : List Entry) → i < length (issues_in rules) → capacity ≤ 100000000 → capacity ≤ room → entries ≡ []
    → ((r : IssueRules) → slice_get (issues_in rules) i ≡ Some r → made ≡ new_machine rules r capacity) → IsWork made entries room capacity
work-made rules i capacity room made entries inside few fits none is = elim (slice_get_cases (issues_in rules) i).1 [
  | inl found ↦
      subst (λ (es : List Entry). IsWork made es room capacity) (sym none)
      (subst (λ (m : MachineView). IsWork m [] room capacity) (sym (is found.0 found.2))
      (record { done = none-done rules found.0 capacity; within = omega arith; capacity_is = refl; small = few; spacious = fits }))
  | inr past ↦ absurd (omega (arith, past.0))
]

-- ---- an entry

state-push : (t : Terms) (es : List Entry) (e : Entry) (s : State) → state_from t (es ++ e ∷ []) s ≡ (step t e (state_from t es s)).state
state-push t [] e s = refl
state-push t (x ∷ es) e s = state-push t es e (step t x s).state

module _ (m : MachineView) (entries : List Entry) (done : HasDone m entries) (e : Entry) (follows : Follows m.participants entries e) where
  count-is : m.issue.state.entries ≡ length entries
  count-is =
      let count : (state_after m.issue.terms entries).entries ≡ 0 + length entries = entries-over m.issue.terms entries (start m.issue.terms) in
      let plain : 0 + length entries ≡ length entries = omega arith in
      ap (λ (s : State). s.entries) done.state ∙ count ∙ plain

  pub may-step : length entries < m.issue.capacity → MayStep m e
  may-step room = record {
    room = omega (arith, room, count-is);
    entry = record {
      place = follows.place ∙ sym count-is;
      own = done.owns e.caller.0 follows.caller ∙ ap Some (sym follows.own);
      event = follows.event;
    };
  }

  pub done-more : HasDone (stepped m e) (entries ++ e ∷ [])
  done-more = record {
    history = follow-more m.participants [] entries (e ∷ []) done.history (follows, tt);
    state = ap (λ (s : State). (step m.issue.terms e s).state) done.state ∙ sym (state-push m.issue.terms entries e (start m.issue.terms));
    owns = owns-push m.next_own entries e follows.own done.owns;
  }

  pub work-more : (next : MachineView) (more : List Entry) (room left capacity : ℕ) → IsWork m entries room capacity → length entries < capacity
      → next ≡ stepped m e → more ≡ entries ++ e ∷ [] → left ≡ room → IsWork next more left capacity
  work-more next more room left capacity work fits is behind same =
      subst (λ (n : MachineView). IsWork n more left capacity) (sym is)
      (subst (λ (es : List Entry). IsWork (stepped m e) es left capacity) (sym behind) (record {
        done = done-more;
        within = omega (arith, length_push entries e, fits, work.capacity_is);
        capacity_is = work.capacity_is;
        small = work.small;
        spacious = omega (arith, work.spacious, same);
      }))

-- ---- losses, one after another

-- behind a loss the next one has the next place and own number
next-losses : (w : WorkView) (k : ℕ) (left : List ℕ) → losses_at (worked (loss_at (length w.entries) (length (entries_by 0 w.entries)) k ∷ []) w) left
    ≡ losses_from (length w.entries + 1) (length (entries_by 0 w.entries) + 1) left
next-losses w k left =
    let e = loss_at (length w.entries) (length (entries_by 0 w.entries)) k in
    ap (λ (n : ℕ). losses_from n (length (entries_by 0 (w.entries ++ e ∷ []))) left) (length_push w.entries e)
    ∙ ap (λ (n : ℕ). losses_from (length w.entries + 1) n left) (count-own 0 w.entries e refl)

pub recording-more : (all left : List ℕ) (k : ℕ) (from now next : WorkView) → IsRecording all (k ∷ left) from now
    → next ≡ worked (loss_at (length now.entries) (length (entries_by 0 now.entries)) k ∷ []) now → IsRecording all left from next
recording-more all left k from now next is same = subst (IsRecording all left from) (sym same) (record {
  same = ap (worked (loss_at (length now.entries) (length (entries_by 0 now.entries)) k ∷ [])) is.same;
  whole =
      let e = loss_at (length now.entries) (length (entries_by 0 now.entries)) k in
      ap (λ (es : List Entry). (now.entries ++ e ∷ []) ++ es) (next-losses now k left)
      ∙ append_assoc now.entries (e ∷ []) (losses_from (length now.entries + 1) (length (entries_by 0 now.entries) + 1) left) ∙ is.whole;
  follow = subst (FollowOn now.participants (worked (loss_at (length now.entries) (length (entries_by 0 now.entries)) k ∷ []) now).entries) (sym (next-losses now k left)) is.follow.1;
  fits =
      let one = length_push now.entries (loss_at (length now.entries) (length (entries_by 0 now.entries)) k) in
      let two : length (k ∷ left) ≡ length left + 1 = omega arith in
      omega (arith, is.fits, one, two);
})

-- the losses that are left, one by one
pub recording-next : (all : List ℕ) (i k : ℕ) (from now : WorkView) → slice_get all i ≡ Some k → IsRecording all (drop i all) from now → IsRecording all (k ∷ drop (i + 1) all) from now
recording-next all i k from now here is =
    subst (λ (ks : List ℕ). IsRecording all ks from now)
    (drop_more all i k (slice_get_within all i k here) ∙ ap (λ (x : ℕ). x ∷ drop (i + 1) all) (get_or_from_slice_get all i k k here)) is

pub loss-here : (e : Entry) (place own k next system : ℕ) → e ≡ loss_at place own k → place ≡ next → own ≡ system → e ≡ loss_at next system k
loss-here e place own k next system is at by = is ∙ ap (λ (n : ℕ). loss_at n own k) at ∙ ap (λ (n : ℕ). loss_at next n k) by
