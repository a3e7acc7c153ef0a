-- The states that the rules give after an entry of a gateway, node by node.
use Rattle.std.proofs.Common.{◌≡◌, ℕ, zero, suc, ◌+◌, ◌==◌, ◌<◌, ◌≤◌, ◌∙◌, Bool, true, false, cond, ◌⊎◌, List, [], ◌∷◌, Option, None, Some, ap, arith, if◌then◌else◌, inl, inr, nat_lt, refl, subst, sym}
use Rattle.std.proofs.lemmas.Bool.Decides.{nat_tests}
use Rattle.mkt_base.specs.declared.event.Entry.{Entry}
use Rattle.mkt_base.specs.declared.event.Event.{Event}
use Rattle.mkt_base.specs.declared.event.Event.TheVariants as events
use Rattle.mkt_base.specs.declared.journal.NodeState.{NodeState}
use Rattle.mkt_base.specs.declared.journal.NodeState.TheVariants.{Lost, Joining, Synchronised}
use Rattle.node_rules.specs.Nodes.{after_event, all_caught, caught, caught_at, crashed, crashes, is_lost, joined, joins, node_step, state_at, up, up_in}
use Rattle.mirror.specs.Replicas.{Replicas, states}
use Rattle.turn_writer.specs.Went.{behind_at, crashed_at, joined_at}
use Rattle.turn_writer.specs.Writing.{asks, nodes_behind}
use Rattle.turn_writer.proofs.Going.{caught_at-stays, caught_at-tame}
use Rattle.turn_writer.proofs.Losing.{beyond, once}
use Rattle.turn_writer.proofs.Slots.{Tame, up_in-one}

-- ---- one node

-- a node that takes a piece is lost if it was
reached-stands : (b : Bool) (n : ℕ) → is_lost (if b then Joining n else Synchronised) ≡ false
reached-stands true n = refl
reached-stands false n = refl

caught-lost : (limit entries : ℕ) (s : NodeState) → is_lost (caught limit entries s) ≡ is_lost s
caught-lost limit entries Lost = refl
caught-lost limit entries (Joining n) = reached-stands (nat_lt (n + limit) entries) (n + limit)
caught-lost limit entries Synchronised = refl

caught_at-lost : (event : Event) (entries k : ℕ) (s : NodeState) → is_lost (caught_at event entries k s) ≡ is_lost s
caught_at-lost event entries k s = both (crashes event k)
  where
    both : (b : Bool) → is_lost (if b then s else caught 64 entries s) ≡ is_lost s
    both true = refl
    both false = caught-lost 64 entries s

-- no node is up by a crash
crashed-up : (b : Bool) (s : NodeState) → up_in (cond b Lost s) ≤ up_in s
crashed-up true s = omega arith
crashed-up false s = omega arith

-- and one is by joining
joined-up : (b : Bool) (s t : NodeState) → up_in (cond b t s) ≤ up_in s + cond {A = ℕ} b 1 0
joined-up true s t = (let one : up_in t ≤ 1 = up_in-one t in omega (arith, one))
joined-up false s t = omega arith

-- ---- the three

module _ (x y z : NodeState) where
  -- a crash, node by node
  pub crashed-each : (event : Event) → crashed event (x ∷ y ∷ z ∷ []) ≡ crashed_at event 0 x ∷ crashed_at event 1 y ∷ crashed_at event 2 z ∷ []
  crashed-each (events.Order p s k q) = refl
  crashed-each (events.Change p t k q) = refl
  crashed-each (events.Cancel p t) = refl
  crashed-each (events.Clock at) = refl
  crashed-each (events.Crash zero) = refl
  crashed-each (events.Crash (suc zero)) = refl
  crashed-each (events.Crash (suc (suc zero))) = refl
  crashed-each (events.Crash (suc (suc (suc k)))) =
      ap (λ b. cond b Lost x ∷ y ∷ z ∷ []) (sym (beyond k 0 (omega arith)))
      ∙ ap (λ b. crashed_at (events.Crash (suc (suc (suc k)))) 0 x ∷ cond b Lost y ∷ z ∷ []) (sym (beyond k 1 (omega arith)))
      ∙ ap (λ b. crashed_at (events.Crash (suc (suc (suc k)))) 0 x ∷ crashed_at (events.Crash (suc (suc (suc k)))) 1 y ∷ cond b Lost z ∷ []) (sym (beyond k 2 (omega arith)))
  crashed-each (events.Rejoin node) = refl

  -- a node that joins, node by node
  pub joined-each : (entries : ℕ) (j : Option ℕ) → joined entries j (x ∷ y ∷ z ∷ []) ≡ joined_at entries j 0 x ∷ joined_at entries j 1 y ∷ joined_at entries j 2 z ∷ []
  joined-each entries None = refl
  joined-each entries (Some zero) = refl
  joined-each entries (Some (suc zero)) = refl
  joined-each entries (Some (suc (suc zero))) = refl
  joined-each entries (Some (suc (suc (suc k)))) =
      ap (λ b. cond b (caught 64 entries (Joining 0)) x ∷ y ∷ z ∷ []) (sym (beyond k 0 (omega arith)))
      ∙ ap (λ b. joined_at entries (Some (suc (suc (suc k)))) 0 x ∷ cond b (caught 64 entries (Joining 0)) y ∷ z ∷ []) (sym (beyond k 1 (omega arith)))
      ∙ ap (λ b. joined_at entries (Some (suc (suc (suc k)))) 0 x ∷ joined_at entries (Some (suc (suc (suc k)))) 1 y ∷ cond b (caught 64 entries (Joining 0)) z ∷ []) (sym (beyond k 2 (omega arith)))

-- whether a node joins depends on which are lost alone
same-lost : (x y z s t u : NodeState) → is_lost x ≡ is_lost s → is_lost y ≡ is_lost t → is_lost z ≡ is_lost u → (k : ℕ) → is_lost (state_at (x ∷ y ∷ z ∷ []) k) ≡ is_lost (state_at (s ∷ t ∷ u ∷ []) k)
same-lost x y z s t u a b c zero = a
same-lost x y z s t u a b c (suc zero) = b
same-lost x y z s t u a b c (suc (suc zero)) = c
same-lost x y z s t u a b c (suc (suc (suc k))) = refl

joins-same : (event : Event) (x y z s t u : NodeState) → is_lost x ≡ is_lost s → is_lost y ≡ is_lost t → is_lost z ≡ is_lost u → joins event (x ∷ y ∷ z ∷ []) ≡ joins event (s ∷ t ∷ u ∷ [])
joins-same (events.Order p s' k q) x y z s t u a b c = refl
joins-same (events.Change p t' k q) x y z s t u a b c = refl
joins-same (events.Cancel p t') x y z s t u a b c = refl
joins-same (events.Clock at) x y z s t u a b c = refl
joins-same (events.Crash node) x y z s t u a b c = refl
joins-same (events.Rejoin node) x y z s t u a b c = ap (λ l. if l then Some node else None) (same-lost x y z s t u a b c node)

-- the rules' states after an entry of a gateway
pub behind-each : (e : Entry) (m : Replicas) → 0 < e.caller.0 → nodes_behind e m ≡ behind_at e m 0 m.first.state ∷ behind_at e m 1 m.second.state ∷ behind_at e m 2 m.third.state ∷ []
unfolding node_step after_event all_caught
behind-each e m some =
    let gateway : (e.caller.0 == 0) ≡ false = grind (arith, nat_tests, some) in
    let c0 = caught_at e.event m.length 0 m.first.state in
    let c1 = caught_at e.event m.length 1 m.second.state in
    let c2 = caught_at e.event m.length 2 m.third.state in
    ap (λ b. if b then after_event e.event m.length (states m) else after_event e.event m.length (c0 ∷ c1 ∷ c2 ∷ [])) gateway
    ∙ ap (λ j. joined (m.length + 1) j (crashed e.event (c0 ∷ c1 ∷ c2 ∷ [])))
    (joins-same e.event c0 c1 c2 m.first.state m.second.state m.third.state (caught_at-lost e.event m.length 0 m.first.state) (caught_at-lost e.event m.length 1 m.second.state) (caught_at-lost e.event m.length 2 m.third.state))
    ∙ ap (λ ss. joined (m.length + 1) (joins e.event (states m)) ss) (crashed-each c0 c1 c2 e.event)
    ∙ joined-each (crashed_at e.event 0 c0) (crashed_at e.event 1 c1) (crashed_at e.event 2 c2) (m.length + 1) (joins e.event (states m))

-- ---- how many are up

-- a rejoin alone lets a node join, and asks for one
joins-asks : (event : Event) (nodes : List NodeState) → (joins event nodes ≡ None) ⊎ (asks event ≡ 1)
joins-asks (events.Order p s k q) nodes = inl refl
joins-asks (events.Change p t k q) nodes = inl refl
joins-asks (events.Cancel p t) nodes = inl refl
joins-asks (events.Clock at) nodes = inl refl
joins-asks (events.Crash node) nodes = inl refl
joins-asks (events.Rejoin node) nodes = inr refl

-- a node that joins, by the option
joined-each-up : (entries k : ℕ) (j : ℕ) (s : NodeState) → up_in (joined_at entries (Some j) k s) ≤ up_in s + cond {A = ℕ} (j == k) 1 0
joined-each-up entries k j s = joined-up (j == k) s (caught 64 entries (Joining 0))

joined-all-up : (entries n : ℕ) (j : Option ℕ) (x y z : NodeState) → (j ≡ None) ⊎ (n ≡ 1) → up_in (joined_at entries j 0 x) + up_in (joined_at entries j 1 y) + up_in (joined_at entries j 2 z) ≤ up_in x + up_in y + up_in z + n
joined-all-up entries n None x y z h = omega arith
joined-all-up entries n (Some j) x y z (inl h) = absurd (cc)
joined-all-up entries n (Some j) x y z (inr h) =
    let a : up_in (joined_at entries (Some j) 0 x) ≤ up_in x + cond {A = ℕ} (j == 0) 1 0 = joined-each-up entries 0 j x in
    let b : up_in (joined_at entries (Some j) 1 y) ≤ up_in y + cond {A = ℕ} (j == 1) 1 0 = joined-each-up entries 1 j y in
    let c : up_in (joined_at entries (Some j) 2 z) ≤ up_in z + cond {A = ℕ} (j == 2) 1 0 = joined-each-up entries 2 j z in
    let d : cond {A = ℕ} (j == 0) 1 0 + cond {A = ℕ} (j == 1) 1 0 + cond {A = ℕ} (j == 2) 1 0 ≤ 1 = once j in
    omega (arith, a, b, c, d, h)

-- after the catch-up and the crash no more are up than before
pub crashed-at-up : (event : Event) (entries k : ℕ) (s : NodeState) → up_in (crashed_at event k (caught_at event entries k s)) ≤ up_in s
crashed-at-up event entries k s =
    let a : up_in (crashed_at event k (caught_at event entries k s)) ≤ up_in (caught_at event entries k s) = crashed-up (crashes event k) (caught_at event entries k s) in
    let t : Tame (caught_at event entries k) = caught_at-tame event entries k in
    let b : up_in (caught_at event entries k s) ≡ up_in s = t.up s in
    omega (arith, a, b)

-- and after the rejoin one more if the event asks for it
pub behind-up : (e : Entry) (m : Replicas) → up_in (behind_at e m 0 m.first.state) + up_in (behind_at e m 1 m.second.state) + up_in (behind_at e m 2 m.third.state) ≤ up (states m) + asks e.event
behind-up e m =
    let x = crashed_at e.event 0 (caught_at e.event m.length 0 m.first.state) in
    let y = crashed_at e.event 1 (caught_at e.event m.length 1 m.second.state) in
    let z = crashed_at e.event 2 (caught_at e.event m.length 2 m.third.state) in
    let all : up_in (behind_at e m 0 m.first.state) + up_in (behind_at e m 1 m.second.state) + up_in (behind_at e m 2 m.third.state) ≤ up_in x + up_in y + up_in z + asks e.event =
    joined-all-up (m.length + 1) (asks e.event) (joins e.event (states m)) x y z (joins-asks e.event (states m)) in
    let a : up_in x ≤ up_in m.first.state = crashed-at-up e.event m.length 0 m.first.state in
    let b : up_in y ≤ up_in m.second.state = crashed-at-up e.event m.length 1 m.second.state in
    let c : up_in z ≤ up_in m.third.state = crashed-at-up e.event m.length 2 m.third.state in
    omega (arith, all, a, b, c)

-- ---- which stay synchronised

-- a synchronised node that the event spares
pub crashed-stays : (event : Event) (entries k : ℕ) (s : NodeState) → s ≡ Synchronised → crashes event k ≡ false → crashed_at event k (caught_at event entries k s) ≡ Synchronised
crashed-stays event entries k s e spared = ap (λ b. cond b Lost (caught_at event entries k s)) spared ∙ caught_at-stays event entries k s e

-- a node that joins was lost
pub joins-lost : (event : Event) (nodes : List NodeState) (j : ℕ) → joins event nodes ≡ Some j → is_lost (state_at nodes j) ≡ true
joins-lost (events.Order p s k q) nodes j e = absurd (cc)
joins-lost (events.Change p t k q) nodes j e = absurd (cc)
joins-lost (events.Cancel p t) nodes j e = absurd (cc)
joins-lost (events.Clock at) nodes j e = absurd (cc)
joins-lost (events.Crash node) nodes j e = absurd (cc)
joins-lost (events.Rejoin node) nodes j e = by-test (is_lost (state_at nodes node)) refl e
  where
    by-test : (b : Bool) → is_lost (state_at nodes node) ≡ b → (if b then Some node else None) ≡ Some j → is_lost (state_at nodes j) ≡ true
    by-test true l e = subst (λ k. is_lost (state_at nodes k) ≡ true) (same e) l
      where
        same : Some node ≡ Some j → node ≡ j
        same e = search e
    by-test false l e = absurd (cc)

-- an event lets no node join, or crashes none
pub joins-or-spares : (event : Event) (nodes : List NodeState) → (joins event nodes ≡ None) ⊎ ((k : ℕ) → crashes event k ≡ false)
joins-or-spares (events.Order p s k q) nodes = inl refl
joins-or-spares (events.Change p t k q) nodes = inl refl
joins-or-spares (events.Cancel p t) nodes = inl refl
joins-or-spares (events.Clock at) nodes = inl refl
joins-or-spares (events.Crash node) nodes = inl refl
joins-or-spares (events.Rejoin node) nodes = inr (λ k. refl)

-- a synchronised node does not join
pub joined-stays : (entries k : ℕ) (j : Option ℕ) (s : NodeState) → s ≡ Synchronised → ((i : ℕ) → j ≡ Some i → (i == k) ≡ true → ⊥) → joined_at entries j k s ≡ Synchronised
joined-stays entries k None s e other = e
joined-stays entries k (Some i) s e other = by-test (i == k) refl
  where
    by-test : (b : Bool) → (i == k) ≡ b → cond b (caught 64 entries (Joining 0)) s ≡ Synchronised
    by-test true t = absurd (other i refl t)
    by-test false t = e
