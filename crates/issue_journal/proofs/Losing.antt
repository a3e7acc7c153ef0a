-- Node states: what a loss, a rejoin and an entry make of how many nodes are up, and of whether some node is synchronised.
use Rattle.std.proofs.Common.{◌≡◌, ℕ, zero, suc, ◌+◌, ◌==◌, ◌<◌, ◌≤◌, Bool, true, false, ◌||◌, cond, List, [], ◌∷◌, length, Some, None, refl, ap, arith}
use Rattle.std.specs.List.{slice_set}
use Rattle.mkt_base.specs.declared.event.Event.{Event}
use Rattle.mkt_base.specs.declared.event.Event.TheVariants as events
use Rattle.mkt_base.specs.declared.journal.NodeState.{NodeState}
use Rattle.mkt_base.specs.declared.journal.NodeState.TheVariants.{Lost, Joining, Synchronised}
use Rattle.node_rules.specs.Nodes.{after_event, all_caught, caught, caught_at, crashes, has_synchronised, is_lost, is_synchronised, joined, node_step, piece, state_at, up, up_in}
use Rattle.turn_writer.specs.Losses.{AreLosses, lose, with_lost}
use Rattle.turn_writer.specs.Writing.{asks}

-- ---- a state that is set

set-other : (x : NodeState) (nodes : List NodeState) (k j : ℕ) → (k ≡ j → ⊥) → state_at (slice_set nodes k x) j ≡ state_at nodes j
set-other x [] k j apart = refl
set-other x (n ∷ nodes) zero zero apart = absurd (apart refl)
set-other x (n ∷ nodes) zero (suc j) apart = refl
set-other x (n ∷ nodes) (suc k) zero apart = refl
set-other x (n ∷ nodes) (suc k) (suc j) apart = set-other x nodes k j (λ same. apart (ap suc same))

pub lost-here : (nodes : List NodeState) (k : ℕ) → state_at (lose k nodes) k ≡ Lost
lost-here [] k = refl
lost-here (n ∷ nodes) zero = refl
lost-here (n ∷ nodes) (suc k) = lost-here nodes k

up_in-most : (s : NodeState) → up_in s ≤ 1
up_in-most Lost = omega arith
up_in-most (Joining n) = omega arith
up_in-most Synchronised = omega arith

-- ---- how many are up

up-set : (x : NodeState) (nodes : List NodeState) (k : ℕ) → up (slice_set nodes k x) ≤ up nodes + 1
up-set x nodes zero =
    let a : up_in (state_at (slice_set nodes 0 x) 0) ≤ 1 = up_in-most (state_at (slice_set nodes 0 x) 0) in
    let b : up_in (state_at (slice_set nodes 0 x) 1) ≡ up_in (state_at nodes 1) = ap up_in (set-other x nodes 0 1 (λ e. absurd (omega (arith, e)))) in
    let c : up_in (state_at (slice_set nodes 0 x) 2) ≡ up_in (state_at nodes 2) = ap up_in (set-other x nodes 0 2 (λ e. absurd (omega (arith, e)))) in
    omega (arith, a, b, c)
up-set x nodes (suc zero) =
    let a : up_in (state_at (slice_set nodes 1 x) 0) ≡ up_in (state_at nodes 0) = ap up_in (set-other x nodes 1 0 (λ e. absurd (omega (arith, e)))) in
    let b : up_in (state_at (slice_set nodes 1 x) 1) ≤ 1 = up_in-most (state_at (slice_set nodes 1 x) 1) in
    let c : up_in (state_at (slice_set nodes 1 x) 2) ≡ up_in (state_at nodes 2) = ap up_in (set-other x nodes 1 2 (λ e. absurd (omega (arith, e)))) in
    omega (arith, a, b, c)
up-set x nodes (suc (suc k)) =
    let a : up_in (state_at (slice_set nodes (suc (suc k)) x) 0) ≡ up_in (state_at nodes 0) = ap up_in (set-other x nodes (suc (suc k)) 0 (λ e. absurd (omega (arith, e)))) in
    let b : up_in (state_at (slice_set nodes (suc (suc k)) x) 1) ≡ up_in (state_at nodes 1) = ap up_in (set-other x nodes (suc (suc k)) 1 (λ e. absurd (omega (arith, e)))) in
    let c : up_in (state_at (slice_set nodes (suc (suc k)) x) 2) ≤ 1 = up_in-most (state_at (slice_set nodes (suc (suc k)) x) 2) in
    omega (arith, a, b, c)

up_in-lose : (nodes : List NodeState) (k j : ℕ) → up_in (state_at (lose k nodes) j) ≤ up_in (state_at nodes j)
up_in-lose [] k j = omega arith
up_in-lose (n ∷ nodes) zero zero = omega arith
up_in-lose (n ∷ nodes) zero (suc j) = omega arith
up_in-lose (n ∷ nodes) (suc k) zero = omega arith
up_in-lose (n ∷ nodes) (suc k) (suc j) = up_in-lose nodes k j

pub up-lose : (nodes : List NodeState) (k : ℕ) → up (lose k nodes) ≤ up nodes
up-lose nodes k = omega (arith, up_in-lose nodes k 0, up_in-lose nodes k 1, up_in-lose nodes k 2)

up_in-stands : (s : NodeState) → is_lost s ≡ false → up_in s ≡ 1
up_in-stands s e = ap (λ (b : Bool). cond b 0 1) e

-- the loss of a node that is up takes one
pub up-lost : (nodes : List NodeState) (k : ℕ) → k < 3 → is_lost (state_at nodes k) ≡ false → up (lose k nodes) + 1 ≡ up nodes
up-lost nodes zero below stands =
    let a : up_in (state_at (lose 0 nodes) 0) ≡ 0 = ap up_in (lost-here nodes 0) in
    let b : up_in (state_at (lose 0 nodes) 1) ≡ up_in (state_at nodes 1) = ap up_in (set-other Lost nodes 0 1 (λ e. absurd (omega (arith, e)))) in
    let c : up_in (state_at (lose 0 nodes) 2) ≡ up_in (state_at nodes 2) = ap up_in (set-other Lost nodes 0 2 (λ e. absurd (omega (arith, e)))) in
    let here : up_in (state_at nodes 0) ≡ 1 = up_in-stands (state_at nodes 0) stands in
    omega (arith, a, b, c, here)
up-lost nodes (suc zero) below stands =
    let a : up_in (state_at (lose 1 nodes) 0) ≡ up_in (state_at nodes 0) = ap up_in (set-other Lost nodes 1 0 (λ e. absurd (omega (arith, e)))) in
    let b : up_in (state_at (lose 1 nodes) 1) ≡ 0 = ap up_in (lost-here nodes 1) in
    let c : up_in (state_at (lose 1 nodes) 2) ≡ up_in (state_at nodes 2) = ap up_in (set-other Lost nodes 1 2 (λ e. absurd (omega (arith, e)))) in
    let here : up_in (state_at nodes 1) ≡ 1 = up_in-stands (state_at nodes 1) stands in
    omega (arith, a, b, c, here)
up-lost nodes (suc (suc zero)) below stands =
    let a : up_in (state_at (lose 2 nodes) 0) ≡ up_in (state_at nodes 0) = ap up_in (set-other Lost nodes 2 0 (λ e. absurd (omega (arith, e)))) in
    let b : up_in (state_at (lose 2 nodes) 1) ≡ up_in (state_at nodes 1) = ap up_in (set-other Lost nodes 2 1 (λ e. absurd (omega (arith, e)))) in
    let c : up_in (state_at (lose 2 nodes) 2) ≡ 0 = ap up_in (lost-here nodes 2) in
    let here : up_in (state_at nodes 2) ≡ 1 = up_in-stands (state_at nodes 2) stands in
    omega (arith, a, b, c, here)
up-lost nodes (suc (suc (suc k))) below stands = absurd (omega (arith, below))

pub up-losses : (ks : List ℕ) (nodes : List NodeState) → AreLosses nodes ks → up (with_lost ks nodes) + length ks ≡ up nodes
up-losses [] nodes are = omega arith
up-losses (k ∷ ks) nodes are =
    let rest : up (with_lost ks (lose k nodes)) + length ks ≡ up (lose k nodes) = up-losses ks (lose k nodes) are.2 in
    let one : up (lose k nodes) + 1 ≡ up nodes = up-lost nodes k are.0 are.1 in
    let whole : length (k ∷ ks) ≡ length ks + 1 = omega arith in
    omega (arith, rest, one, whole)

pub up-most : (nodes : List NodeState) → up nodes ≤ 3
up-most nodes = omega (arith, up_in-most (state_at nodes 0), up_in-most (state_at nodes 1), up_in-most (state_at nodes 2))

-- ---- an entry

up_in-reached : (b : Bool) (at : ℕ) → up_in (cond b (Joining at) Synchronised) ≡ 1
up_in-reached true at = refl
up_in-reached false at = refl

up_in-caught : (limit entries : ℕ) (s : NodeState) → up_in (caught limit entries s) ≡ up_in s
up_in-caught limit entries Lost = refl
up_in-caught limit entries Synchronised = refl
up_in-caught limit entries (Joining n) = up_in-reached _ (n + limit)

up_in-skips : (b : Bool) (entries : ℕ) (s : NodeState) → up_in (cond b s (caught piece entries s)) ≡ up_in s
up_in-skips true entries s = refl
up_in-skips false entries s = up_in-caught piece entries s

up-caught : (e : Event) (entries : ℕ) (nodes : List NodeState) → up (all_caught e entries nodes) ≡ up nodes
unfolding all_caught
up-caught e entries nodes =
    let a : up_in (caught_at e entries 0 (state_at nodes 0)) ≡ up_in (state_at nodes 0) = up_in-skips (crashes e 0) entries (state_at nodes 0) in
    let b : up_in (caught_at e entries 1 (state_at nodes 1)) ≡ up_in (state_at nodes 1) = up_in-skips (crashes e 1) entries (state_at nodes 1) in
    let c : up_in (caught_at e entries 2 (state_at nodes 2)) ≡ up_in (state_at nodes 2) = up_in-skips (crashes e 2) entries (state_at nodes 2) in
    omega (arith, a, b, c)

up-joined : (b : Bool) (entries k : ℕ) (nodes : List NodeState) → up (joined entries (cond b (Some k) None) nodes) ≤ up nodes + 1
up-joined true entries k nodes = up-set (caught piece entries (Joining 0)) nodes k
up-joined false entries k nodes = omega arith

up-after : (e : Event) (entries : ℕ) (nodes : List NodeState) → up (after_event e entries nodes) ≤ up nodes + asks e
unfolding after_event
up-after (events.Order participant side kind qty) entries nodes = omega arith
up-after (events.Change participant target kind qty) entries nodes = omega arith
up-after (events.Cancel participant target) entries nodes = omega arith
up-after (events.Clock at) entries nodes = omega arith
up-after (events.Crash node) entries nodes = omega (arith, up-lose nodes node)
up-after (events.Rejoin node) entries nodes = up-joined (is_lost (state_at nodes node)) (entries + 1) node nodes

up-either : (b : Bool) (e : Event) (entries : ℕ) (nodes : List NodeState) →
    up (cond b (after_event e entries nodes) (after_event e entries (all_caught e entries nodes))) ≤ up nodes + asks e
up-either true e entries nodes = up-after e entries nodes
up-either false e entries nodes = omega (arith, up-after e entries (all_caught e entries nodes), up-caught e entries nodes)

-- a rejoin lets one node more be up, and no other event does
pub up-step : (entries caller : ℕ) (e : Event) (nodes : List NodeState) → up (node_step entries caller e nodes) ≤ up nodes + asks e
unfolding node_step
up-step entries caller e nodes = up-either (caller == 0) e entries nodes

-- ---- some node is synchronised

any-of : (a b c x y z : Bool) → (a ≡ true → x ≡ true) → (b ≡ true → y ≡ true) → (c ≡ true → z ≡ true) → (a || b || c) ≡ true → (x || y || z) ≡ true
any-of a b c true y z f g h e = refl
any-of a b c false true z f g h e = refl
any-of a b c false false true f g h e = refl
any-of true b c false false false f g h e = absurd (cc (f refl))
any-of false true c false false false f g h e = absurd (cc (g refl))
any-of false false true false false false f g h e = absurd (cc (h refl))
any-of false false false false false false f g h e = e

sync-lose : (nodes : List NodeState) (k j : ℕ) → is_synchronised (state_at (lose k nodes) j) ≡ true → is_synchronised (state_at nodes j) ≡ true
sync-lose [] k j e = e
sync-lose (n ∷ nodes) zero zero e = absurd (cc)
sync-lose (n ∷ nodes) zero (suc j) e = e
sync-lose (n ∷ nodes) (suc k) zero e = e
sync-lose (n ∷ nodes) (suc k) (suc j) e = sync-lose nodes k j e

-- losing nodes makes none of them synchronised
pub some-lose : (k : ℕ) (nodes : List NodeState) → has_synchronised (lose k nodes) ≡ true → has_synchronised nodes ≡ true
some-lose k nodes e = any-of _ _ _ _ _ _ (sync-lose nodes k 0) (sync-lose nodes k 1) (sync-lose nodes k 2) e

pub some-losses : (ks : List ℕ) (nodes : List NodeState) → has_synchronised (with_lost ks nodes) ≡ true → has_synchronised nodes ≡ true
some-losses [] nodes e = e
some-losses (k ∷ ks) nodes e = some-lose k nodes (some-losses ks (lose k nodes) e)
