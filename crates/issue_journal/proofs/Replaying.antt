-- A machine that does the entries of a history from its first one on; and what the loops over a journal keep.
use Rattle.std.proofs.Common.{◌≡◌, ℕ, zero, suc, ◌+◌, ◌==◌, ◌<◌, ◌≤◌, true, false, List, [], ◌∷◌, ◌++◌, length, take, Option, Some, sym, ap, subst, ◌∙◌, arith, append-nil, append_assoc}
use Rattle.std.specs.List.{slice_get}
use Rattle.std.specs.Option.{unwrap_or}
use Rattle.std.proofs.lemmas.List.{length-take-le, take_all, take_more}
use Rattle.std.proofs.lemmas.Option.{get_or_from_slice_get, slice_get_within}
use Rattle.mkt_base.specs.declared.event.Entry.{Entry}
use Rattle.mkt_base.specs.declared.journal.NodeState.{NodeState}
use Rattle.node_rules.specs.Nodes.{node_step}
use Rattle.issue_machine.specs.History.{FollowOn, Follows, IsHistory, entries_by, nodes_after}
use Rattle.issue_machine.specs.Journal.{MachineView, MayStep, stepped}
use Rattle.issue_machine.proofs.HistoryLemmas.{count-other, count-own}
use Rattle.issue_journal.specs.Inside.{HasDone, IsReplaying, IsWork}
use Rattle.issue_journal.proofs.Following.{nodes-more}
use Rattle.issue_journal.proofs.Working.{done-more, may-step}

follow-at : (participants : ℕ) (before es : List Entry) → FollowOn participants before es → (i : ℕ) (e : Entry) → slice_get es i ≡ Some e → Follows participants (before ++ take i es) e
follow-at participants before [] on i e here = absurd (cc)
follow-at participants before (x ∷ es) on zero e here =
    let same : x ≡ e = ap (λ (o : Option Entry). unwrap_or o x) here in
    subst (λ (b : List Entry). Follows participants b e) (sym (append-nil before)) (subst (Follows participants before) same on.0)
follow-at participants before (x ∷ es) on (suc i) e here =
    subst (λ (b : List Entry). Follows participants b e) (append_assoc before (x ∷ []) (take i es)) (follow-at participants (before ++ x ∷ []) es on.1 i e here)

-- the front with the next entry
pub front-more : (log : List Entry) (i : ℕ) (e : Entry) → slice_get log i ≡ Some e → take (i + 1) log ≡ take i log ++ e ∷ []
front-more log i e here = take_more log i e (slice_get_within log i e here) ∙ ap (λ (x : Entry). take i log ++ x ∷ []) (get_or_from_slice_get log i e e here)

module _ (from now : MachineView) (log : List Entry) (i : ℕ) (e : Entry) (is : IsReplaying from now (take i log)) (history : IsHistory from.participants log) (here : slice_get log i ≡ Some e) where
  follows : Follows now.participants (take i log) e
  follows = subst (λ (n : ℕ). Follows n (take i log) e) (sym is.participants_are) (follow-at from.participants [] log history i e here)

  pub may-replay : length log ≤ from.issue.capacity → MayStep now e
  may-replay fits =
      let within : i < length log = slice_get_within log i e here in
      let long : length (take i log) ≡ i = length-take-le i log (omega (arith, within)) in
      may-step now (take i log) is.done e follows (omega (arith, within, long, fits, is.capacity_is))

  pub replaying-more : (next : MachineView) → next ≡ stepped now e → IsReplaying from next (take (i + 1) log)
  replaying-more next same =
      subst (λ (n : MachineView). IsReplaying from n (take (i + 1) log)) (sym same)
      (subst (IsReplaying from (stepped now e)) (sym (front-more log i e here)) (record {
        terms_are = is.terms_are;
        capacity_is = is.capacity_is;
        participants_are = is.participants_are;
        done = done-more now (take i log) is.done e follows;
      }))

pub work-replayed : (from now : MachineView) (log : List Entry) (n room capacity : ℕ) → IsWork from [] room capacity → IsReplaying from now (take n log) → length log ≤ n → length log ≤ capacity → IsWork now log room capacity
work-replayed from now log n room capacity ready is all fits =
    let done : HasDone now log = subst (HasDone now) (take_all n log all) is.done in
    record {
      done = done;
      within = omega (arith, fits, ready.capacity_is, is.capacity_is);
      capacity_is = ready.capacity_is ∙ sym is.capacity_is;
      small = ready.small;
      spacious = ready.spacious;
    }

-- ---- loops over a journal

pub nodes-front : (journal : List Entry) (i : ℕ) (e : Entry) (nodes next : List NodeState) → slice_get journal i ≡ Some e → nodes ≡ nodes_after (take i journal) → next ≡ node_step i e.caller.0 e.event nodes
    → next ≡ nodes_after (take (i + 1) journal)
nodes-front journal i e nodes next here is step =
    let long : length (take i journal) ≡ i = length-take-le i journal (omega (arith, slice_get_within journal i e here)) in
    step ∙ ap (node_step i e.caller.0 e.event) is ∙ ap (λ (n : ℕ). node_step n e.caller.0 e.event (nodes_after (take i journal))) (sym long)
    ∙ sym (nodes-more (take i journal) e) ∙ ap nodes_after (sym (front-more journal i e here))

pub system-own : (journal : List Entry) (i : ℕ) (e : Entry) (n : ℕ) → slice_get journal i ≡ Some e → n ≡ length (entries_by 0 (take i journal)) → (e.caller.0 == 0) ≡ true → n + 1 ≡ length (entries_by 0 (take (i + 1) journal))
system-own journal i e n here is own =
    ap (λ (k : ℕ). k + 1) is ∙ sym (count-own 0 (take i journal) e own) ∙ ap (λ (es : List Entry). length (entries_by 0 es)) (sym (front-more journal i e here))

pub system-other : (journal : List Entry) (i : ℕ) (e : Entry) (n : ℕ) → slice_get journal i ≡ Some e → n ≡ length (entries_by 0 (take i journal)) → (e.caller.0 == 0) ≡ false → n ≡ length (entries_by 0 (take (i + 1) journal))
system-other journal i e n here is other =
    is ∙ sym (count-other 0 (take i journal) e other) ∙ ap (λ (es : List Entry). length (entries_by 0 es)) (sym (front-more journal i e here))
