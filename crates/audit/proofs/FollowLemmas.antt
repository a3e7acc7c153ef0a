-- The test of an entry, and which entries may follow a journal.
use Rattle.std.proofs.Common.{◌≡◌, ℕ, ◌<◌, ◌≤◌, Bool, true, false, not, ◌&&◌, cond, eqb, leb, ltb, List, [], ◌∷◌, ◌++◌, length, refl, sym, ap, ◌∙◌, zero-add, arith}
use Rattle.std.proofs.lemmas.Bool.{eqb-true}
use Rattle.std.proofs.lemmas.Bool.Decides.{nat_tests}
use Rattle.mkt_base.specs.declared.event.Entry.{Entry}
use Rattle.mkt_base.specs.declared.event.Event.{Event}
use Rattle.mkt_base.specs.declared.event.Event.TheVariants as events
use Rattle.mkt_base.specs.declared.journal.NodeState.{NodeState}
use Rattle.mkt_base.specs.declared.units.Caller.{Caller}
use Rattle.node_rules.specs.Nodes.{IsCrashOf, IsLoss, all_synchronised, has_synchronised, is_lost, node_step, state_at}
use Rattle.issue_book.specs.State.{State, Terms, start}
use Rattle.issue_machine.specs.History.{Follows, entries_by, nodes_after, nodes_from}
use Rattle.issue_machine.specs.Journal.{IsEventOf}
use Rattle.issue_machine.specs.Step.{state_after, state_from, step}
use Rattle.issue_machine.proofs.HistoryLemmas.{nodes_from-append}
use Rattle.text_match.proofs.WordLemmas.{both, joined}
use Rattle.audit.specs.Told.{crashes_up, entry_at, may_enter}

-- the nodes after an entry more
pub nodes-push : (journal : List Entry) (e : Entry) → nodes_after (journal ++ e ∷ []) ≡ node_step (length journal) e.caller.0 e.event (nodes_after journal)
unfolding nodes_after
nodes-push journal e =
    nodes_from-append 0 all_synchronised journal (e ∷ []) ∙ ap (λ n. node_step n e.caller.0 e.event (nodes_from 0 all_synchronised journal)) (zero-add (length journal))

-- the state after an entry more
state_from-push : (t : Terms) (journal : List Entry) (e : Entry) (s : State) → state_from t (journal ++ e ∷ []) s ≡ (step t e (state_from t journal s)).state
state_from-push t [] e s = refl
state_from-push t (x ∷ journal) e s = state_from-push t journal e (step t x s).state

pub state-push : (t : Terms) (journal : List Entry) (e : Entry) → state_after t (journal ++ e ∷ []) ≡ (step t e (state_after t journal)).state
state-push t journal e = state_from-push t journal e (start t)

-- an entry that may follow is the next one of its caller
pub entry-is : (participants : ℕ) (journal : List Entry) (e : Entry) → Follows participants journal e → entry_at journal e.caller e.event ≡ e
entry-is participants journal e f =
    let make : ℕ → ℕ → Entry = λ place own. record { place = place; caller = e.caller; own = own; event = e.event } in
    ap (λ n. make n (length (entries_by e.caller.0 journal))) (sym f.place) ∙ ap (λ n. make e.place n) (sym f.own)

-- ---- losses

crash-up : (nodes : List NodeState) (event : Event) (node : ℕ) → IsCrashOf event node → is_lost (state_at nodes node) ≡ false → crashes_up nodes event ≡ true
crash-up nodes (events.Crash n) node is up = ap (λ k. not (is_lost (state_at nodes k))) is ∙ ap not up
crash-up nodes (events.Order p s k q) node is up = absurd is
crash-up nodes (events.Change p t k q) node is up = absurd is
crash-up nodes (events.Cancel p t) node is up = absurd is
crash-up nodes (events.Clock at) node is up = absurd is
crash-up nodes (events.Rejoin n) node is up = absurd is

not-true : (b : Bool) → not b ≡ true → b ≡ false
not-true true h = absurd (cc)
not-true false h = refl

up-crash : (entries : ℕ) (nodes : List NodeState) (event : Event) → 0 < entries → crashes_up nodes event ≡ true → IsLoss entries nodes event
up-crash entries nodes (events.Crash n) later up = record { later = later; node = n; crash = refl; up = not-true (is_lost (state_at nodes n)) up }
up-crash entries nodes (events.Order p s k q) later up = absurd (cc)
up-crash entries nodes (events.Change p t k q) later up = absurd (cc)
up-crash entries nodes (events.Cancel p t) later up = absurd (cc)
up-crash entries nodes (events.Clock at) later up = absurd (cc)
up-crash entries nodes (events.Rejoin n) later up = absurd (cc)

loss-test : (caller entries : ℕ) (nodes : List NodeState) (event : Event) → (caller ≡ 0 → IsLoss entries nodes event) → cond (eqb caller 0) (ltb 0 entries && crashes_up nodes event) true ≡ true
loss-test caller entries nodes event loss = at (eqb caller 0) refl
  where
    at : (b : Bool) → eqb caller 0 ≡ b → cond b (ltb 0 entries && crashes_up nodes event) true ≡ true
    at false e = refl
    at true e =
        let is = loss (eqb-true caller 0 e) in
        let later : ltb 0 entries ≡ true = grind (arith, nat_tests, is.later) in
        joined (ltb 0 entries) (crashes_up nodes event) later (crash-up nodes event is.node is.crash is.up)

test-loss : (caller entries : ℕ) (nodes : List NodeState) (event : Event) → cond (eqb caller 0) (ltb 0 entries && crashes_up nodes event) true ≡ true → caller ≡ 0 → IsLoss entries nodes event
test-loss caller entries nodes event test is_zero =
    let here : eqb caller 0 ≡ true = rw is_zero refl in
    let both_hold : (ltb 0 entries && crashes_up nodes event) ≡ true = rw here at test in
    let parts = both (ltb 0 entries) (crashes_up nodes event) both_hold in
    up-crash entries nodes event (grind (arith, nat_tests, parts.0)) parts.1

-- ---- the test

pub follows-may : (participants gateways : ℕ) (journal : List Entry) (e : Entry) → Follows participants journal e → length journal < 100000000 → e.caller.0 ≤ gateways
    → may_enter gateways journal e.caller e.event ≡ true
unfolding may_enter
follows-may participants gateways journal e f few within =
    let room : ltb (length journal) 100000000 ≡ true = grind (arith, nat_tests, few) in
    let caller : leb e.caller.0 gateways ≡ true = grind (arith, nat_tests, within) in
    let kept : has_synchronised (node_step (length journal) e.caller.0 e.event (nodes_after journal)) ≡ true = ap has_synchronised (sym (nodes-push journal e)) ∙ f.kept in
    let nodes = nodes_after journal in
    let n = length journal in
    let system = cond (eqb e.caller.0 0) (ltb 0 n && crashes_up nodes e.event) true in
    let last = has_synchronised (node_step n e.caller.0 e.event nodes) in
    joined ((ltb n 100000000 && leb e.caller.0 gateways) && system) last
    (joined (ltb n 100000000 && leb e.caller.0 gateways) system (joined (ltb n 100000000) (leb e.caller.0 gateways) room caller) (loss-test e.caller.0 n nodes e.event f.loss)) kept

pub may-follows : (participants gateways : ℕ) (journal : List Entry) (caller : Caller) (event : Event) → may_enter gateways journal caller event ≡ true → gateways ≤ 16
    → IsEventOf participants event → Follows participants journal (entry_at journal caller event)
unfolding may_enter
may-follows participants gateways journal caller event test few of =
    let n = length journal in
    let nodes = nodes_after journal in
    let system = cond (eqb caller.0 0) (ltb 0 n && crashes_up nodes event) true in
    let a = both ((ltb n 100000000 && leb caller.0 gateways) && system) (has_synchronised (node_step n caller.0 event nodes)) test in
    let b = both (ltb n 100000000 && leb caller.0 gateways) system a.0 in
    let c = both (ltb (length journal) 100000000) (leb caller.0 gateways) b.0 in
    let within : caller.0 ≤ gateways = grind (arith, nat_tests, c.1) in
    record {
      place = refl;
      caller = omega (arith, within, few);
      own = refl;
      event = of;
      loss = test-loss caller.0 (length journal) (nodes_after journal) event b.1;
      kept = ap has_synchronised (nodes-push journal (entry_at journal caller event)) ∙ a.1;
    }
