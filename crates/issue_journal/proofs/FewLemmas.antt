-- Losses stay few: each takes a node that is up, and only a rejoin lets one more be up.
use Rattle.std.proofs.Common.{◌≡◌, ℕ, ◌+◌, ◌==◌, ◌≤◌, Bool, true, false, cond, List, [], ◌∷◌, ◌++◌, length, refl, sym, ap, subst, ◌∙◌, arith, append-nil, append_assoc}
use Rattle.std.proofs.lemmas.Bool.{eqb-true}
use Rattle.std.proofs.lemmas.List.Sums.{sum_by_push}
use Rattle.mkt_base.specs.declared.event.Entry.{Entry}
use Rattle.mkt_base.specs.declared.event.Event.{Event}
use Rattle.mkt_base.specs.declared.event.Event.TheVariants as events
use Rattle.mkt_base.specs.declared.journal.NodeState.{NodeState}
use Rattle.node_rules.specs.Nodes.{IsLoss, is_lost, node_step, state_at, up}
use Rattle.turn_writer.specs.Writing.{asks}
use Rattle.issue_machine.specs.History.{FollowOn, Follows, entries_by, nodes_after}
use Rattle.issue_machine.specs.Journal.{IsEventOf}
use Rattle.issue_machine.proofs.HistoryLemmas.{count-other, count-own}
use Rattle.issue_journal.specs.Laws.{LossesStayFew, is_rejoin, rejoins}
use Rattle.issue_journal.proofs.Following.{loss-step, nodes-more}
use Rattle.issue_journal.proofs.Losing.{up-lost, up-step}

asks-is : (event : Event) → cond {A = ℕ} (is_rejoin event) 1 0 ≡ asks event
asks-is (events.Order participant side kind qty) = refl
asks-is (events.Change participant target kind qty) = refl
asks-is (events.Cancel participant target) = refl
asks-is (events.Clock at) = refl
asks-is (events.Crash node) = refl
asks-is (events.Rejoin node) = refl

rejoins-push : (journal : List Entry) (e : Entry) → rejoins (journal ++ e ∷ []) ≡ rejoins journal + asks e.event
rejoins-push journal e =
    sum_by_push (λ (x : Entry). cond {A = ℕ} (is_rejoin x.event) 1 0) journal e ∙ ap (λ (n : ℕ). rejoins journal + n) (asks-is e.event)

-- a loss takes a node that is up
up-loss : (participants entries : ℕ) (event : Event) (nodes : List NodeState) → IsEventOf participants event → IsLoss entries nodes event → up (node_step entries 0 event nodes) + 1 ≡ up nodes
up-loss participants entries (events.Order participant side kind qty) nodes is loss = absurd (loss.crash)
up-loss participants entries (events.Change participant target kind qty) nodes is loss = absurd (loss.crash)
up-loss participants entries (events.Cancel participant target) nodes is loss = absurd (loss.crash)
up-loss participants entries (events.Clock at) nodes is loss = absurd (loss.crash)
up-loss participants entries (events.Rejoin node) nodes is loss = absurd (loss.crash)
up-loss participants entries (events.Crash node) nodes is loss =
    ap (λ (ns : List NodeState). up ns + 1) (loss-step entries node nodes) ∙ up-lost nodes node is (subst (λ (k : ℕ). is_lost (state_at nodes k) ≡ false) (sym loss.crash) loss.up)

module _ (participants : ℕ) where
  abbrev AreFew : List Entry → Type 0
  AreFew journal = length (entries_by 0 journal) + up (nodes_after journal) ≤ 3 + rejoins journal

  few-entry : (before : List Entry) (e : Entry) → Follows participants before e → AreFew before → AreFew (before ++ e ∷ [])
  few-entry before e follows few = by (e.caller.0 == 0) refl
    where
      states : up (nodes_after (before ++ e ∷ [])) ≡ up (node_step (length before) e.caller.0 e.event (nodes_after before))
      states = ap up (nodes-more before e)

      by : (b : Bool) → (e.caller.0 == 0) ≡ b → AreFew (before ++ e ∷ [])
      by true own =
          let system : e.caller.0 ≡ 0 = eqb-true e.caller.0 0 own in
          let here : up (node_step (length before) e.caller.0 e.event (nodes_after before)) ≡ up (node_step (length before) 0 e.event (nodes_after before)) =
          ap (λ (c : ℕ). up (node_step (length before) c e.event (nodes_after before))) system in
          let one = up-loss participants (length before) e.event (nodes_after before) follows.event (follows.loss system) in
          omega (arith, few, states, here, one, count-own 0 before e own, rejoins-push before e)
      by false other =
          omega (arith, few, states, up-step (length before) e.caller.0 e.event (nodes_after before), count-other 0 before e other, rejoins-push before e)

  few-on : (before es : List Entry) → FollowOn participants before es → AreFew before → AreFew (before ++ es)
  few-on before [] on few = subst AreFew (sym (append-nil before)) few
  few-on before (e ∷ es) on few = subst AreFew (append_assoc before (e ∷ []) es) (few-on (before ++ e ∷ []) es on.1 (few-entry before e on.0 few))

pub losses-few : LossesStayFew
unfolding nodes_after
losses-few participants journal is = few-on participants [] journal is (omega arith)
