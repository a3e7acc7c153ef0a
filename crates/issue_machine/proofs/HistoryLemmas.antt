-- Histories: the nodes go by their own rules, and a machine may do what follows.
use Rattle.std.proofs.Common.{◌≡◌, ℕ, zero, suc, ◌+◌, ◌<◌, Bool, true, false, cond, List, [], ◌∷◌, ◌++◌, length, replicate, Some, refl, sym, ap, subst, ◌∙◌, arith, append-nil, append_assoc}
use Rattle.std.specs.List.{fold, slice_get, slice_set}
use Rattle.std.proofs.lemmas.Bool.{eqb-false, eqb-true}
use Rattle.std.proofs.lemmas.List.{length_push}
use Rattle.std.proofs.lemmas.List.Elements.{filter-append}
use Rattle.mkt_base.specs.declared.event.Entry.{Entry}
use Rattle.mkt_base.specs.declared.journal.NodeState.{NodeState}
use Rattle.node_rules.specs.Nodes.{node_step}
use Rattle.rules_file.specs.Rules.{participants_in}
use Rattle.rules_file.specs.declared.issue.IssueRules.{IssueRules}
use Rattle.rules_file.specs.declared.rules.Rules.{Rules}
use Rattle.issue_book.specs.IssueView.{IssueView, in_state, terms_of}
use Rattle.issue_book.specs.State.{State, Terms, start}
use Rattle.issue_machine.specs.History.{FollowOn, Follows, IsHistory, entries_by, is_by, nodes_after, nodes_from}
use Rattle.issue_machine.specs.Journal.{AreEntries, IsEventOf, MachineView, MayStep, new_machine, no_own, own_after, stepped, stepped_over}
use Rattle.issue_machine.specs.Laws.{HasDone, HistoryGoesOn, HistoryIsJournal, NodesGoByTheirRules}
use Rattle.issue_machine.specs.Step.{nodes_behind, state_after, state_from, step}
use Rattle.issue_machine.proofs.EventLemmas.{entries-after}

-- ---- the nodes

nodes-step : (t : Terms) (e : Entry) (s : State) → (step t e s).state.nodes ≡ nodes_behind e s
unfolding step
nodes-step t e s = refl

pub entries-step : (t : Terms) (e : Entry) (s : State) → (step t e s).state.entries ≡ s.entries + 1
unfolding step
entries-step t e s = ap (λ (n : ℕ). n + 1) (entries-after t e e.event s)

nodes-from : (t : Terms) (es : List Entry) (s : State) → (state_from t es s).nodes ≡ nodes_from s.entries s.nodes es
nodes-from t [] s = refl
nodes-from t (e ∷ es) s =
    nodes-from t es (step t e s).state
    ∙ ap (λ (n : ℕ). nodes_from n (step t e s).state.nodes es) (entries-step t e s)
    ∙ ap (λ (ns : List NodeState). nodes_from (s.entries + 1) ns es) (nodes-step t e s)

pub nodes-go : NodesGoByTheirRules
unfolding nodes_after
nodes-go t journal = nodes-from t journal (start t)

-- the states from a front on are those from its end on
pub nodes_from-append : (n : ℕ) (nodes : List NodeState) (es more : List Entry) → nodes_from n nodes (es ++ more) ≡ nodes_from (n + length es) (nodes_from n nodes es) more
nodes_from-append n nodes [] more =
    let here : n ≡ n + 0 = omega arith in
    ap (λ (k : ℕ). nodes_from k nodes more) here
nodes_from-append n nodes (e ∷ es) more =
    let next : List NodeState = nodes_from (n + 1) (node_step n e.caller.0 e.event nodes) es in
    let there : n + 1 + length es ≡ n + suc (length es) = omega arith in
    nodes_from-append (n + 1) _ es more ∙ ap (λ (k : ℕ). nodes_from k next more) there

-- ---- how many entries each caller has

module _ (caller : ℕ) (journal : List Entry) (e : Entry) where
  entries_by-push : entries_by caller (journal ++ e ∷ []) ≡ entries_by caller journal ++ cond (is_by caller e) (e ∷ []) []
  entries_by-push = filter-append (is_by caller) journal (e ∷ [])

  pub entries_by-own : is_by caller e ≡ true → entries_by caller (journal ++ e ∷ []) ≡ entries_by caller journal ++ e ∷ []
  entries_by-own own = entries_by-push ∙ ap (λ (b : Bool). entries_by caller journal ++ cond b (e ∷ []) []) own

  pub entries_by-other : is_by caller e ≡ false → entries_by caller (journal ++ e ∷ []) ≡ entries_by caller journal
  entries_by-other other = entries_by-push ∙ ap (λ (b : Bool). entries_by caller journal ++ cond b (e ∷ []) []) other ∙ append-nil (entries_by caller journal)

  pub count-own : is_by caller e ≡ true → length (entries_by caller (journal ++ e ∷ [])) ≡ length (entries_by caller journal) + 1
  count-own own = ap length (entries_by-own own) ∙ length_push (entries_by caller journal) e

  pub count-other : is_by caller e ≡ false → length (entries_by caller (journal ++ e ∷ [])) ≡ length (entries_by caller journal)
  count-other other = ap length (entries_by-other other)

get-set_same : (xs : List ℕ) (i x y : ℕ) → slice_get xs i ≡ Some x → slice_get (slice_set xs i y) i ≡ Some y
get-set_same [] i x y is = absurd (cc)
get-set_same (z ∷ xs) zero x y is = refl
get-set_same (z ∷ xs) (suc i) x y is = get-set_same xs i x y is

get-set_other : (xs : List ℕ) (i j y : ℕ) → (i ≡ j → ⊥) → slice_get (slice_set xs i y) j ≡ slice_get xs j
get-set_other [] i j y apart = refl
get-set_other (z ∷ xs) zero zero y apart = absurd (apart refl)
get-set_other (z ∷ xs) zero (suc j) y apart = refl
get-set_other (z ∷ xs) (suc i) zero y apart = refl
get-set_other (z ∷ xs) (suc i) (suc j) y apart = get-set_other xs i j y (λ same. apart (ap suc same))

-- the next own number of each caller is how many entries it has
abbrev pub AreOwns : List ℕ → List Entry → Type 0
AreOwns owns journal = (c : ℕ) → c < 17 → slice_get owns c ≡ Some (length (entries_by c journal))

pub owns-push : (owns : List ℕ) (journal : List Entry) (e : Entry) → e.own ≡ length (entries_by e.caller.0 journal) → AreOwns owns journal → AreOwns (own_after owns e) (journal ++ e ∷ [])
owns-push owns journal e next are c below = by (is_by c e) refl
  where
    by : (b : Bool) → is_by c e ≡ b → slice_get (slice_set owns e.caller.0 (e.own + 1)) c ≡ Some (length (entries_by c (journal ++ e ∷ [])))
    by true own =
        let same : e.caller.0 ≡ c = eqb-true e.caller.0 c own in
        let number : e.own + 1 ≡ length (entries_by c journal) + 1 = ap (λ (n : ℕ). n + 1) next ∙ ap (λ (k : ℕ). length (entries_by k journal) + 1) same in
        ap (λ (k : ℕ). slice_get (slice_set owns k (e.own + 1)) c) same
        ∙ get-set_same owns c (length (entries_by c journal)) (e.own + 1) (are c below)
        ∙ ap Some (number ∙ sym (count-own c journal e own))
    by false other =
        get-set_other owns e.caller.0 c (e.own + 1) (eqb-false e.caller.0 c other) ∙ are c below ∙ ap Some (sym (count-other c journal e other))

get-replicate : (n i : ℕ) → i < n → slice_get {X = ℕ} (replicate n 0) i ≡ Some 0
get-replicate zero i below = absurd (omega arith)
get-replicate (suc n) zero below = refl
get-replicate (suc n) (suc i) below = get-replicate n i (omega arith)

pub owns-none : AreOwns no_own []
owns-none c below = get-replicate 17 c below

pub owns-over : (participants : ℕ) (before es : List Entry) (owns : List ℕ) → FollowOn participants before es → AreOwns owns before → AreOwns (fold own_after owns es) (before ++ es)
owns-over participants before [] owns on are = subst (AreOwns owns) (sym (append-nil before)) are
owns-over participants before (e ∷ es) owns on are =
    subst (AreOwns (fold own_after (own_after owns e) es)) (append_assoc before (e ∷ []) es)
    (owns-over participants (before ++ e ∷ []) es (own_after owns e) on.1 (owns-push owns before e on.0.own are))

-- ---- a history is a journal

entries-on : (participants : ℕ) (before es : List Entry) (owns : List ℕ) → FollowOn participants before es → AreOwns owns before → AreEntries participants (length before) owns es
entries-on participants before [] owns on are = tt
entries-on participants before (e ∷ es) owns on are =
    let rest : AreEntries participants (length (before ++ e ∷ [])) (own_after owns e) es =
    entries-on participants (before ++ e ∷ []) es (own_after owns e) on.1 (owns-push owns before e on.0.own are) in (
      record { place = on.0.place; own = are e.caller.0 on.0.caller ∙ ap Some (sym on.0.own); event = on.0.event },
      subst (λ (n : ℕ). AreEntries participants n (own_after owns e) es) (length_push before e) rest,
    )

pub history-journal : HistoryIsJournal
history-journal participants journal is = entries-on participants [] journal no_own is owns-none

-- ---- a machine that did a history

over-issue : (m : MachineView) (es : List Entry) → (stepped_over m es).issue ≡ in_state (state_from m.issue.terms es m.issue.state) m.issue
over-issue m [] = refl
over-issue m (e ∷ es) = over-issue (stepped m e) es

over-owns : (m : MachineView) (es : List Entry) → (stepped_over m es).next_own ≡ fold own_after m.next_own es
over-owns m [] = refl
over-owns m (e ∷ es) = over-owns (stepped m e) es

over-participants : (m : MachineView) (es : List Entry) → (stepped_over m es).participants ≡ m.participants
over-participants m [] = refl
over-participants m (e ∷ es) = over-participants (stepped m e) es

pub entries-over : (t : Terms) (es : List Entry) (s : State) → (state_from t es s).entries ≡ s.entries + length es
entries-over t [] s = omega arith
entries-over t (e ∷ es) s =
    let rest : (state_from t es (step t e s).state).entries ≡ (step t e s).state.entries + length es = entries-over t es (step t e s).state in
    let one : (step t e s).state.entries ≡ s.entries + 1 = entries-step t e s in
    omega (arith, rest, one)

module _ (rules : Rules) (r : IssueRules) (capacity : ℕ) (journal : List Entry) (is : IsHistory (length (participants_in rules)) journal) where
  abbrev done : MachineView
  done = stepped_over (new_machine rules r capacity) journal

  issue-is : done.issue ≡ in_state (state_after (terms_of rules r) journal) (new_machine rules r capacity).issue
  issue-is = over-issue (new_machine rules r capacity) journal

  entries-are : done.issue.state.entries ≡ length journal
  entries-are =
      let count : (state_after (terms_of rules r) journal).entries ≡ 0 + length journal = entries-over (terms_of rules r) journal (start (terms_of rules r)) in
      let plain : 0 + length journal ≡ length journal = omega arith in
      ap (λ (v : IssueView). v.state.entries) issue-is ∙ count ∙ plain

  has-done : HasDone rules r journal done
  has-done = record { terms = ap (λ (v : IssueView). v.terms) issue-is; state = ap (λ (v : IssueView). v.state) issue-is; entries = entries-are }

  may-do : (e : Entry) → Follows (length (participants_in rules)) journal e → length journal < capacity → MayStep done e
  may-do e follows room =
      let within : done.issue.capacity ≡ capacity = ap (λ (v : IssueView). v.capacity) issue-is in
      let owns : slice_get (fold own_after no_own journal) e.caller.0 ≡ Some (length (entries_by e.caller.0 journal)) =
      owns-over (length (participants_in rules)) [] journal no_own is owns-none e.caller.0 follows.caller in
      record {
        room = omega (arith, room, within, entries-are);
        entry = record {
          place = follows.place ∙ sym entries-are;
          own = ap (λ (ns : List ℕ). slice_get ns e.caller.0) (over-owns (new_machine rules r capacity) journal) ∙ owns ∙ ap Some (sym follows.own);
          event = subst (λ (n : ℕ). IsEventOf n e.event) (sym (over-participants (new_machine rules r capacity) journal)) follows.event;
        };
      }

pub history-on : HistoryGoesOn
history-on rules r capacity journal is = (has-done rules r capacity journal is, may-do rules r capacity journal is)

-- ---- a history with more entries

pub follow-more : (participants : ℕ) (before es more : List Entry) → FollowOn participants before es → FollowOn participants (before ++ es) more → FollowOn participants before (es ++ more)
follow-more participants before [] more on next = subst (λ (b : List Entry). FollowOn participants b more) (append-nil before) next
follow-more participants before (e ∷ es) more on next =
    (on.0, follow-more participants (before ++ e ∷ []) es more on.1 (subst (λ (b : List Entry). FollowOn participants b more) (sym (append_assoc before (e ∷ []) es)) next))
