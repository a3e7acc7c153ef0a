-- The entries of a turn follow the journal.
use Rattle.std.proofs.Common.{◌≡◌, ℕ, ◌+◌, ◌==◌, ◌<◌, ◌≤◌, true, false, List, [], ◌∷◌, ◌++◌, length, refl, sym, ap, subst, ◌∙◌, arith, append-nil, append_assoc}
use Rattle.std.proofs.lemmas.Bool.{ne_eqb}
use Rattle.std.proofs.lemmas.List.{length_push}
use Rattle.mkt_base.specs.declared.event.Entry.{Entry}
use Rattle.mkt_base.specs.declared.event.Event.TheVariants as events
use Rattle.mkt_base.specs.declared.journal.NodeState.{NodeState}
use Rattle.node_rules.specs.Nodes.{IsLoss, after_event, all_synchronised, has_synchronised, node_step}
use Rattle.issue_machine.specs.History.{FollowOn, Follows, entries_by, nodes_after}
use Rattle.issue_machine.specs.Journal.{IsEventOf}
use Rattle.issue_machine.proofs.HistoryLemmas.{count-other, count-own, nodes_from-append}
use Rattle.turn_writer.specs.Losses.{AreLosses, lose, loss_at, losses_from, with_lost}
use Rattle.turn_writer.specs.Writing.{turn_entries}
use Rattle.issue_journal.proofs.Losing.{some-losses}

-- ---- the states after one entry more

pub nodes-more : (journal : List Entry) (e : Entry) → nodes_after (journal ++ e ∷ []) ≡ node_step (length journal) e.caller.0 e.event (nodes_after journal)
unfolding nodes_after
nodes-more journal e =
    let place : 0 + length journal ≡ length journal = omega arith in
    nodes_from-append 0 all_synchronised journal (e ∷ []) ∙ ap (λ (n : ℕ). node_step n e.caller.0 e.event (nodes_after journal)) place

pub loss-step : (entries k : ℕ) (nodes : List NodeState) → node_step entries 0 (events.Crash k) nodes ≡ lose k nodes
unfolding node_step after_event
loss-step entries k nodes = refl

pub nodes-loss : (journal : List Entry) (place own k : ℕ) → nodes_after (journal ++ loss_at place own k ∷ []) ≡ lose k (nodes_after journal)
nodes-loss journal place own k = nodes-more journal (loss_at place own k) ∙ loss-step (length journal) k (nodes_after journal)

pub nodes-losses : (ks : List ℕ) (journal : List Entry) (place own : ℕ) → nodes_after (journal ++ losses_from place own ks) ≡ with_lost ks (nodes_after journal)
nodes-losses [] journal place own = ap nodes_after (append-nil journal)
nodes-losses (k ∷ ks) journal place own =
    ap nodes_after (sym (append_assoc journal (loss_at place own k ∷ []) (losses_from (place + 1) (own + 1) ks)))
    ∙ nodes-losses ks (journal ++ loss_at place own k ∷ []) (place + 1) (own + 1)
    ∙ ap (with_lost ks) (nodes-loss journal place own k)

-- ---- losses follow

pub eqb-apart : (n : ℕ) → 1 ≤ n → (n == 0) ≡ false
eqb-apart n least = ne_eqb n 0 (λ e. absurd (omega (arith, least, e)))

module _ (participants : ℕ) where
  -- a loss of the next place and the system's next own number
  loss-follows : (before : List Entry) (own k : ℕ) → own ≡ length (entries_by 0 before) → 0 < length before → k < 3
      → IsLoss (length before) (nodes_after before) (events.Crash k) → has_synchronised (lose k (nodes_after before)) ≡ true → Follows participants before (loss_at (length before) own k)
  loss-follows before own k next some below loss kept = record {
    place = refl;
    caller = omega arith;
    own = next;
    event = below;
    loss = λ _. loss;
    kept = ap has_synchronised (nodes-loss before (length before) own k) ∙ kept;
  }

  pub losses-follow : (ks : List ℕ) (before : List Entry) (own : ℕ) → own ≡ length (entries_by 0 before) → (0 < length ks → 0 < length before)
      → AreLosses (nodes_after before) ks → has_synchronised (with_lost ks (nodes_after before)) ≡ true → FollowOn participants before (losses_from (length before) own ks)
  losses-follow [] before own next some are kept = tt
  losses-follow (k ∷ ks) before own next some are kept =
      let e = loss_at (length before) own k in
      let nodes = nodes_after before in
      let before_it : 0 < length before = some (omega arith) in
      let loss : IsLoss (length before) nodes (events.Crash k) = record { later = before_it; node = k; crash = refl; up = are.1 } in
      let place : length (before ++ e ∷ []) ≡ length before + 1 = length_push before e in
      let number : own + 1 ≡ length (entries_by 0 (before ++ e ∷ [])) = ap (λ (n : ℕ). n + 1) next ∙ sym (count-own 0 before e refl) in
      let states : lose k nodes ≡ nodes_after (before ++ e ∷ []) = sym (nodes-loss before (length before) own k) in
      let rest : FollowOn participants (before ++ e ∷ []) (losses_from (length (before ++ e ∷ [])) (own + 1) ks) =
      losses-follow ks (before ++ e ∷ []) (own + 1) number (λ _. omega (arith, place))
      (subst (λ (ns : List NodeState). AreLosses ns ks) states are.2) (ap (λ (ns : List NodeState). has_synchronised (with_lost ks ns)) (sym states) ∙ kept) in (
        loss-follows before own k next before_it are.0 loss (some-losses ks (lose k nodes) kept),
        subst (λ (n : ℕ). FollowOn participants (before ++ e ∷ []) (losses_from n (own + 1) ks)) place rest,
      )

  -- ---- a turn follows

  module _ (before : List Entry) (e : Entry) (lost : List ℕ) (place : e.place ≡ length before) (caller : (1 ≤ e.caller.0) × (e.caller.0 < 17))
      (own : e.own ≡ length (entries_by e.caller.0 before)) (event : IsEventOf participants e.event)
      (are : AreLosses (node_step (length before) e.caller.0 e.event (nodes_after before)) lost)
      (some : has_synchronised (with_lost lost (node_step (length before) e.caller.0 e.event (nodes_after before))) ≡ true) where
    abbrev after : List NodeState
    after = node_step (length before) e.caller.0 e.event (nodes_after before)

    other : (e.caller.0 == 0) ≡ false
    other = eqb-apart e.caller.0 caller.0

    pub entry-follows : Follows participants before e
    entry-follows = record {
      place = place;
      caller = caller.1;
      own = own;
      event = event;
      loss = λ zero_is. absurd (omega (arith, zero_is, caller.0));
      kept = ap has_synchronised (nodes-more before e) ∙ some-losses lost after some;
    }

    system-same : length (entries_by 0 (before ++ e ∷ [])) ≡ length (entries_by 0 before)
    system-same = count-other 0 before e other

    pub turn-losses-follow : FollowOn participants (before ++ e ∷ []) (losses_from (length (before ++ e ∷ [])) (length (entries_by 0 (before ++ e ∷ []))) lost)
    turn-losses-follow =
        losses-follow lost (before ++ e ∷ []) (length (entries_by 0 (before ++ e ∷ []))) refl (λ _. omega (arith, length_push before e))
        (subst (λ (ns : List NodeState). AreLosses ns lost) (sym (nodes-more before e)) are)
        (ap (λ (ns : List NodeState). has_synchronised (with_lost lost ns)) (nodes-more before e) ∙ some)

    -- behind the entry the losses have these places and own numbers
    pub turn-is : (before ++ e ∷ []) ++ losses_from (length (before ++ e ∷ [])) (length (entries_by 0 (before ++ e ∷ []))) lost ≡ before ++ turn_entries e (length (entries_by 0 before)) lost
    turn-is =
        let at : length (before ++ e ∷ []) ≡ e.place + 1 = length_push before e ∙ ap (λ (n : ℕ). n + 1) (sym place) in
        ap (λ (n : ℕ). (before ++ e ∷ []) ++ losses_from n (length (entries_by 0 (before ++ e ∷ []))) lost) at
        ∙ ap (λ (n : ℕ). (before ++ e ∷ []) ++ losses_from (e.place + 1) n lost) system-same
        ∙ append_assoc before (e ∷ []) (losses_from (e.place + 1) (length (entries_by 0 before)) lost)
