-- The event's crash, behind the catch-up.
use Rattle.std.proofs.Common.{◌≡◌, ℕ, zero, suc, ◌+◌, ◌<◌, ◌≤◌, List, [], ◌++◌, arith, length, refl, subst, sym}
use Rattle.mkt_base.specs.declared.event.Event.TheVariants as events
use Rattle.mkt_base.specs.declared.journal.NodeState.{NodeState}
use Rattle.mkt_base.specs.declared.journal.NodeState.TheVariants.{Lost}
use Rattle.mirror.specs.Calls.{KeepsAll}
use Rattle.mirror.specs.Mirrored.{Mirrors}
use Rattle.mirror.specs.Replicas.{Replica, Replicas, node_at, wiped, with_node}
use Rattle.turn_writer.specs.Losses.{times}
use Rattle.turn_writer.specs.Went.{AreNodes, NodeWent, WasCrashed, Went, without}
use Rattle.turn_writer.proofs.Going.{keeps-all-then}
use Rattle.turn_writer.proofs.Removing.{length-without, times-others, times-without}
use Rattle.turn_writer.proofs.Slots.{grew-none}

-- a node that was wiped is lost, whatever was noted of it before
pub wiped-went : (a b : Replica) → a.faults ≤ b.faults → NodeWent 0 Lost a (wiped b)
wiped-went a b h = record { state_is = refl; once = omega arith; grew = grew-none a.faults b.faults h }

-- without node k the list still names nodes only
nodes-without : (k : ℕ) (l : List ℕ) → k < 3 → AreNodes l → AreNodes (without k l)
nodes-without zero l h n =
    let all : length (without 0 l) + times 0 l ≡ length l = length-without 0 l in
    let i : times 0 (without 0 l) ≡ 0 = times-without 0 l in
    let j : times 1 (without 0 l) ≡ times 1 l = times-others 0 1 l refl in
    let m : times 2 (without 0 l) ≡ times 2 l = times-others 0 2 l refl in
    omega (arith, all, i, j, m, n)
nodes-without (suc zero) l h n =
    let all : length (without 1 l) + times 1 l ≡ length l = length-without 1 l in
    let i : times 0 (without 1 l) ≡ times 0 l = times-others 1 0 l refl in
    let j : times 1 (without 1 l) ≡ 0 = times-without 1 l in
    let m : times 2 (without 1 l) ≡ times 2 l = times-others 1 2 l refl in
    omega (arith, all, i, j, m, n)
nodes-without (suc (suc zero)) l h n =
    let all : length (without 2 l) + times 2 l ≡ length l = length-without 2 l in
    let i : times 0 (without 2 l) ≡ times 0 l = times-others 2 0 l refl in
    let j : times 1 (without 2 l) ≡ times 1 l = times-others 2 1 l refl in
    let m : times 2 (without 2 l) ≡ 0 = times-without 2 l in
    omega (arith, all, i, j, m, n)
nodes-without (suc (suc (suc k))) l h n = absurd (omega (arith, h))

-- a node by how often it is noted
noted : (n m : ℕ) (s : NodeState) (a b : Replica) → m ≡ n → NodeWent n s a b → NodeWent m s a b
noted n m s a b e w = subst (λ i. NodeWent i s a b) (sym e) w

module _ (l : List ℕ) (b c start : Replicas) (x y z : NodeState) (p : Went [] x y z l start b) (same : c.length ≡ b.length) (m : (journal : List (List ℕ)) → Mirrors journal b → Mirrors journal c) (kept : KeepsAll b c) where
  mirrors-still : (journal : List (List ℕ)) → Mirrors journal start → Mirrors (journal ++ []) c
  mirrors-still journal held = m (journal ++ []) (p.mirrors journal held)

  keeps-both : KeepsAll start c
  keeps-both = keeps-all-then start b c (omega (arith, same)) p.keeps kept

  long : c.length ≡ start.length + length {A = List ℕ} []
  long = let d : b.length ≡ start.length + length {A = List ℕ} [] = p.entries in omega (arith, same, d)

-- node k by its number
was-wiped : (k : ℕ) (l : List ℕ) (b : Replicas) → k < 3 → ((journal : List (List ℕ)) → Mirrors journal b → Mirrors journal (with_node k (wiped (node_at k b)) b)) → KeepsAll b (with_node k (wiped (node_at k b)) b) → WasCrashed (events.Crash k) l (without k l) b (with_node k (wiped (node_at k b)) b)
was-wiped zero l b h m kept start x y z p = record {
  mirrors = mirrors-still l b (with_node 0 (wiped b.first) b) start x y z p refl m kept;
  first = noted 0 (times 0 (without 0 l)) Lost start.first (wiped b.first) (times-without 0 l) (wiped-went start.first b.first p.keeps.first.faults);
  second = noted (times 1 l) (times 1 (without 0 l)) y start.second b.second (times-others 0 1 l refl) p.second;
  third = noted (times 2 l) (times 2 (without 0 l)) z start.third b.third (times-others 0 2 l refl) p.third;
  nodes = nodes-without 0 l h p.nodes;
  keeps = keeps-both l b (with_node 0 (wiped b.first) b) start x y z p refl m kept;
  entries = long l b (with_node 0 (wiped b.first) b) start x y z p refl m kept;
}
was-wiped (suc zero) l b h m kept start x y z p = record {
  mirrors = mirrors-still l b (with_node 1 (wiped b.second) b) start x y z p refl m kept;
  first = noted (times 0 l) (times 0 (without 1 l)) x start.first b.first (times-others 1 0 l refl) p.first;
  second = noted 0 (times 1 (without 1 l)) Lost start.second (wiped b.second) (times-without 1 l) (wiped-went start.second b.second p.keeps.second.faults);
  third = noted (times 2 l) (times 2 (without 1 l)) z start.third b.third (times-others 1 2 l refl) p.third;
  nodes = nodes-without 1 l h p.nodes;
  keeps = keeps-both l b (with_node 1 (wiped b.second) b) start x y z p refl m kept;
  entries = long l b (with_node 1 (wiped b.second) b) start x y z p refl m kept;
}
was-wiped (suc (suc zero)) l b h m kept start x y z p = record {
  mirrors = mirrors-still l b (with_node 2 (wiped b.third) b) start x y z p refl m kept;
  first = noted (times 0 l) (times 0 (without 2 l)) x start.first b.first (times-others 2 0 l refl) p.first;
  second = noted (times 1 l) (times 1 (without 2 l)) y start.second b.second (times-others 2 1 l refl) p.second;
  third = noted 0 (times 2 (without 2 l)) Lost start.third (wiped b.third) (times-without 2 l) (wiped-went start.third b.third p.keeps.third.faults);
  nodes = nodes-without 2 l h p.nodes;
  keeps = keeps-both l b (with_node 2 (wiped b.third) b) start x y z p refl m kept;
  entries = long l b (with_node 2 (wiped b.third) b) start x y z p refl m kept;
}
was-wiped (suc (suc (suc k))) l b h m kept start x y z p = absurd (omega (arith, h))

-- what the wiping of node k does to the turn so far
pub was-crashed : (k : ℕ) (l : List ℕ) (b c : Replicas) → k < 3 → c ≡ with_node k (wiped (node_at k b)) b → ((journal : List (List ℕ)) → Mirrors journal b → Mirrors journal c) → KeepsAll b c → WasCrashed (events.Crash k) l (without k l) b c
was-crashed k l b c h e m kept =
    subst (λ d. WasCrashed (events.Crash k) l (without k l) b d) (sym e)
    (was-wiped k l b h (subst (λ d. (journal : List (List ℕ)) → Mirrors journal b → Mirrors journal d) e m) (subst (λ d. KeepsAll b d) e kept))
