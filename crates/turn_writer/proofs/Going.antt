-- What becomes of the three nodes in the calls of a turn.
use Rattle.std.proofs.Common.{◌≡◌, ℕ, zero, suc, ◌+◌, ◌==◌, ◌<◌, ◌≤◌, ◌∙◌, Bool, true, false, cond, List, [], ◌++◌, ap, append-nil, append_assoc, arith, if◌then◌else◌, length, length-append, nat_lt, refl, subst, sym}
use Rattle.std.proofs.lemmas.List.Sums.{sum_by-append}
use Rattle.mkt_base.specs.declared.event.Event.{Event}
use Rattle.mkt_base.specs.declared.journal.NodeState.{NodeState}
use Rattle.mkt_base.specs.declared.journal.NodeState.TheVariants.{Lost, Joining, Synchronised}
use Rattle.node_rules.specs.Nodes.{caught, caught_at, crashes, up, up_in}
use Rattle.mirror.specs.Calls.{Became, BecameAll, IsJoining, KeepsAll, is_named}
use Rattle.mirror.specs.Mirrored.{Mirrors}
use Rattle.mirror.specs.Replicas.{Replicas, node_at, states, with_state}
use Rattle.turn_writer.specs.Losses.{times}
use Rattle.turn_writer.specs.Went.{AreNodes, CaughtAll, CaughtOne, Gone, NodeWent, TookPiece, Went, caught_order, in_order, named}
use Rattle.turn_writer.specs.Writing.{IsRoomy}
use Rattle.turn_writer.proofs.Slots.{Tame, became-went, keeps-none, keeps-then, tame-none, up_in-one, went-fails, went-left, went-none, went-then}

-- ---- lists of nodes

pub times-append : (k : ℕ) (l m : List ℕ) → times k (l ++ m) ≡ times k l + times k m
times-append k l m = sum_by-append (λ j. cond (j == k) 1 0) l m

pub nodes-append : (l m : List ℕ) → AreNodes l → AreNodes m → AreNodes (l ++ m)
nodes-append l m h k =
    let all : length (l ++ m) ≡ length l + length m = length-append l m in
    let a : times 0 (l ++ m) ≡ times 0 l + times 0 m = times-append 0 l m in
    let b : times 1 (l ++ m) ≡ times 1 l + times 1 m = times-append 1 l m in
    let c : times 2 (l ++ m) ≡ times 2 l + times 2 m = times-append 2 l m in
    omega (arith, all, a, b, c, h, k)

-- a list names each node as often as its flag says
pub record Together (f0 f1 f2 : Bool) (l : List ℕ) : Type 0 where
  pub first : times 0 l ≡ cond f0 1 0
  pub second : times 1 l ≡ cond f1 1 0
  pub third : times 2 l ≡ cond f2 1 0
  pub all : AreNodes l

pub together_012 : (f0 f1 f2 : Bool) → Together f0 f1 f2 (named 0 f0 ++ named 1 f1 ++ named 2 f2)
together_012 true true true = record { first = refl; second = refl; third = refl; all = refl }
together_012 true true false = record { first = refl; second = refl; third = refl; all = refl }
together_012 true false true = record { first = refl; second = refl; third = refl; all = refl }
together_012 true false false = record { first = refl; second = refl; third = refl; all = refl }
together_012 false true true = record { first = refl; second = refl; third = refl; all = refl }
together_012 false true false = record { first = refl; second = refl; third = refl; all = refl }
together_012 false false true = record { first = refl; second = refl; third = refl; all = refl }
together_012 false false false = record { first = refl; second = refl; third = refl; all = refl }

pub together_120 : (f0 f1 f2 : Bool) → Together f0 f1 f2 (named 1 f1 ++ named 2 f2 ++ named 0 f0)
together_120 true true true = record { first = refl; second = refl; third = refl; all = refl }
together_120 true true false = record { first = refl; second = refl; third = refl; all = refl }
together_120 true false true = record { first = refl; second = refl; third = refl; all = refl }
together_120 true false false = record { first = refl; second = refl; third = refl; all = refl }
together_120 false true true = record { first = refl; second = refl; third = refl; all = refl }
together_120 false true false = record { first = refl; second = refl; third = refl; all = refl }
together_120 false false true = record { first = refl; second = refl; third = refl; all = refl }
together_120 false false false = record { first = refl; second = refl; third = refl; all = refl }

pub together_021 : (f0 f1 f2 : Bool) → Together f0 f1 f2 (named 0 f0 ++ named 2 f2 ++ named 1 f1)
together_021 true true true = record { first = refl; second = refl; third = refl; all = refl }
together_021 true true false = record { first = refl; second = refl; third = refl; all = refl }
together_021 true false true = record { first = refl; second = refl; third = refl; all = refl }
together_021 true false false = record { first = refl; second = refl; third = refl; all = refl }
together_021 false true true = record { first = refl; second = refl; third = refl; all = refl }
together_021 false true false = record { first = refl; second = refl; third = refl; all = refl }
together_021 false false true = record { first = refl; second = refl; third = refl; all = refl }
together_021 false false false = record { first = refl; second = refl; third = refl; all = refl }

-- ---- two calls in a row

pub keeps-all-then : (a b c : Replicas) → b.length ≤ c.length → KeepsAll a b → KeepsAll b c → KeepsAll a c
keeps-all-then a b c h k l = record {
  first = keeps-then b.length c.length a.first b.first c.first h k.first l.first;
  second = keeps-then b.length c.length a.second b.second c.second h k.second l.second;
  third = keeps-then b.length c.length a.third b.third c.third h k.third l.third;
}

pub went-longer : (w : List (List ℕ)) (x y z : NodeState) (l : List ℕ) (a b : Replicas) → Went w x y z l a b → a.length ≤ b.length
went-longer w x y z l a b p = let e : b.length ≡ a.length + length w = p.entries in omega (arith, e)

-- what the later call does begins at the states that the earlier left, moved or not
pub went-on : (f g h : NodeState → NodeState) → Tame f → Tame g → Tame h → (w v : List (List ℕ)) (x y z : NodeState) (l m : List ℕ) (a b c : Replicas) → Went w x y z l a b → Went v (f b.first.state) (g b.second.state) (h b.third.state) m b c → Went (w ++ v) (f x) (g y) (h z) (l ++ m) a c
went-on f g h tf tg th w v x y z l m a b c p q = record {
  mirrors = λ journal held. subst (λ j. Mirrors j c) (append_assoc journal w v) (q.mirrors (journal ++ w) (p.mirrors journal held));
  first = subst (λ n. NodeWent n (f x) a.first c.first) (sym (times-append 0 l m)) (went-then f tf (times 0 l) (times 0 m) x a.first b.first c.first p.first q.first);
  second = subst (λ n. NodeWent n (g y) a.second c.second) (sym (times-append 1 l m)) (went-then g tg (times 1 l) (times 1 m) y a.second b.second c.second p.second q.second);
  third = subst (λ n. NodeWent n (h z) a.third c.third) (sym (times-append 2 l m)) (went-then h th (times 2 l) (times 2 m) z a.third b.third c.third p.third q.third);
  nodes = nodes-append l m p.nodes q.nodes;
  keeps = keeps-all-then a b c (went-longer v (f b.first.state) (g b.second.state) (h b.third.state) m b c q) p.keeps q.keeps;
  entries =
      let e : b.length ≡ a.length + length w = p.entries in
      let d : c.length ≡ b.length + length v = q.entries in
      let both : length (w ++ v) ≡ length w + length v = length-append w v in
      omega (arith, e, d, both);
}

-- no call at all
pub went-nothing : (a : Replicas) → Went [] a.first.state a.second.state a.third.state [] a a
went-nothing a = record {
  mirrors = λ journal held. subst (λ j. Mirrors j a) (sym (append-nil journal)) held;
  first = went-none a.first;
  second = went-none a.second;
  third = went-none a.third;
  nodes = refl;
  keeps = record { first = keeps-none a.length a.first; second = keeps-none a.length a.second; third = keeps-none a.length a.third };
  entries = omega arith;
}

-- each loss takes one that was to be up
pub went-up : (w : List (List ℕ)) (x y z : NodeState) (l : List ℕ) (a b : Replicas) → Went w x y z l a b → length l + up (states b) ≡ up_in x + up_in y + up_in z
went-up w x y z l a b p =
    let i : times 0 l + up_in b.first.state ≡ up_in x = went-left (times 0 l) x a.first b.first p.first in
    let j : times 1 l + up_in b.second.state ≡ up_in y = went-left (times 1 l) y a.second b.second p.second in
    let k : times 2 l + up_in b.third.state ≡ up_in z = went-left (times 2 l) z a.third b.third p.third in
    let n : length l ≡ times 0 l + times 1 l + times 2 l = p.nodes in
    omega (arith, i, j, k, n)

-- room is kept
pub roomy-kept : (capacity : ℕ) (a b : Replicas) → KeepsAll a b → IsRoomy capacity a → IsRoomy capacity b
roomy-kept capacity a b k r = record {
  first = let h : length b.first.contents + b.first.spare ≡ length a.first.contents + a.first.spare = k.first.room in let i : capacity ≤ length a.first.contents + a.first.spare = r.first in omega (arith, h, i);
  second = let h : length b.second.contents + b.second.spare ≡ length a.second.contents + a.second.spare = k.second.room in let i : capacity ≤ length a.second.contents + a.second.spare = r.second in omega (arith, h, i);
  third = let h : length b.third.contents + b.third.spare ≡ length a.third.contents + a.third.spare = k.third.room in let i : capacity ≤ length a.third.contents + a.third.spare = r.third in omega (arith, h, i);
}

-- ---- no node is left

-- after the calls so far, whose states keep the synchronised nodes, each synchronised node failed
pub went-gone : (x y z : NodeState) (l : List ℕ) (a b c : Replicas) → (a.first.state ≡ Synchronised → x ≡ Synchronised) → (a.second.state ≡ Synchronised → y ≡ Synchronised) → (a.third.state ≡ Synchronised → z ≡ Synchronised) → Went [] x y z l a b → Gone b c → Gone a c
went-gone x y z l a b c ex ey ez p q =
    let e : b.length ≡ a.length + length {A = List ℕ} [] = p.entries in
    let f : b.length ≤ c.length = q.longer in
    let few : c.length ≤ b.length + 2 = q.few in record {
      first = λ s. went-fails (times 0 l) x a.first b.first p.first c.first p.keeps.first.faults q.keeps.first.faults q.first (ex s);
      second = λ s. went-fails (times 1 l) y a.second b.second p.second c.second p.keeps.second.faults q.keeps.second.faults q.second (ey s);
      third = λ s. went-fails (times 2 l) z a.third b.third p.third c.third p.keeps.third.faults q.keeps.third.faults q.third (ez s);
      keeps = keeps-all-then a b c f p.keeps q.keeps;
      longer = omega (arith, e, f);
      few = omega (arith, e, few);
    }

-- ---- one call

-- each node came to its state or was lost, which up to now was up if it is to be
pub went-of : (w : List (List ℕ)) (x y z : NodeState) (l : List ℕ) (f0 f1 f2 : Bool) (a b : Replicas) → Together f0 f1 f2 l → up_in x ≡ up_in a.first.state → up_in y ≡ up_in a.second.state → up_in z ≡ up_in a.third.state → Became x f0 a.first b.first → Became y f1 a.second b.second → Became z f2 a.third b.third → ((journal : List (List ℕ)) → Mirrors journal a → Mirrors (journal ++ w) b) → KeepsAll a b → b.length ≡ a.length + length w → Went w x y z l a b
went-of w x y z l f0 f1 f2 a b t ux uy uz p q r m k e = record {
  mirrors = m;
  first = subst (λ n. NodeWent n x a.first b.first) (sym t.first) (became-went x f0 a.first b.first ux k.first.faults p);
  second = subst (λ n. NodeWent n y a.second b.second) (sym t.second) (became-went y f1 a.second b.second uy k.second.faults q);
  third = subst (λ n. NodeWent n z a.third b.third) (sym t.third) (became-went z f2 a.third b.third uz k.third.faults r);
  nodes = t.all;
  keeps = k;
  entries = e;
}

-- a node that takes a piece is up if it was
reached-up : (b : Bool) (n : ℕ) → up_in (if b then Joining n else Synchronised) ≡ 1
reached-up true n = refl
reached-up false n = refl

pub caught-up : (limit entries : ℕ) (s : NodeState) → up_in (caught limit entries s) ≡ up_in s
caught-up limit entries Lost = refl
caught-up limit entries (Joining n) = reached-up (nat_lt (n + limit) entries) (n + limit)
caught-up limit entries Synchronised = refl

-- the same where the event spares it
pub caught_at-tame : (event : Event) (entries k : ℕ) → Tame (caught_at event entries k)
caught_at-tame event entries k = record { lost = lost (crashes event k); up = λ s. moved (crashes event k) s }
  where
    lost : (b : Bool) → (if b then Lost else caught 64 entries Lost) ≡ Lost
    lost true = refl
    lost false = refl

    moved : (b : Bool) (s : NodeState) → up_in (if b then s else caught 64 entries s) ≡ up_in s
    moved true s = refl
    moved false s = caught-up 64 entries s

-- a synchronised node is not moved
pub caught_at-stays : (event : Event) (entries k : ℕ) (s : NodeState) → s ≡ Synchronised → caught_at event entries k s ≡ Synchronised
caught_at-stays event entries k s e = ap (caught_at event entries k) e ∙ still (crashes event k)
  where
    still : (b : Bool) → (if b then Synchronised else caught 64 entries Synchronised) ≡ Synchronised
    still true = refl
    still false = refl

-- where the event crashes the node, or it does not join, it is not moved
pub caught_at-spared : (event : Event) (entries k : ℕ) (s : NodeState) → crashes event k ≡ true → caught_at event entries k s ≡ s
caught_at-spared event entries k s e = ap (λ b. if b then s else caught 64 entries s) e

pub caught_at-still : (event : Event) (entries k : ℕ) (s : NodeState) → (IsJoining s → ⊥) → caught_at event entries k s ≡ s
caught_at-still event entries k s none = both (crashes event k) ∙ refl
  where
    still : (s : NodeState) → (IsJoining s → ⊥) → caught 64 entries s ≡ s
    still Lost none = refl
    still (Joining n) none = absurd (none tt)
    still Synchronised none = refl

    both : (b : Bool) → (if b then s else caught 64 entries s) ≡ s
    both true = refl
    both false = still s none

pub caught_at-moved : (event : Event) (entries k : ℕ) (s : NodeState) → crashes event k ≡ false → caught_at event entries k s ≡ caught 64 entries s
caught_at-moved event entries k s e = ap (λ b. if b then s else caught 64 entries s) e

-- what a piece taken by node k tells
pub took : (k : ℕ) (a b : Replicas) (flags : List Bool) → BecameAll (with_state k (caught 64 a.length (node_at k a).state) a) flags a b → ((journal : List (List ℕ)) → Mirrors journal a → Mirrors journal b) → KeepsAll a b → b.length ≡ a.length → TookPiece k (caught_order k flags) a b
took k a b flags all m k' e = by-node k all
  where
    kept : (journal : List (List ℕ)) → Mirrors journal a → Mirrors (journal ++ []) b
    kept journal held = subst (λ j. Mirrors j b) (sym (append-nil journal)) (m journal held)

    same : b.length ≡ a.length + length {A = List ℕ} []
    same = omega (arith, e)

    by-node : (k : ℕ) → BecameAll (with_state k (caught 64 a.length (node_at k a).state) a) flags a b → TookPiece k (caught_order k flags) a b
    by-node zero all =
        went-of [] (caught 64 a.length a.first.state) a.second.state a.third.state (in_order 1 2 0 flags) (is_named flags 0) (is_named flags 1) (is_named flags 2) a b
        (together_120 (is_named flags 0) (is_named flags 1) (is_named flags 2)) (caught-up 64 a.length a.first.state) refl refl all.first all.second all.third kept k' same
    by-node (suc zero) all =
        went-of [] a.first.state (caught 64 a.length a.second.state) a.third.state (in_order 0 2 1 flags) (is_named flags 0) (is_named flags 1) (is_named flags 2) a b
        (together_021 (is_named flags 0) (is_named flags 1) (is_named flags 2)) refl (caught-up 64 a.length a.second.state) refl all.first all.second all.third kept k' same
    by-node (suc (suc k)) all =
        went-of [] a.first.state a.second.state (caught 64 a.length a.third.state) (in_order 0 1 2 flags) (is_named flags 0) (is_named flags 1) (is_named flags 2) a b
        (together_012 (is_named flags 0) (is_named flags 1) (is_named flags 2)) refl refl (caught-up 64 a.length a.third.state) all.first all.second all.third kept k' same

-- it loses no more nodes than were up
pub took-up : (k : ℕ) (l : List ℕ) (a b : Replicas) → TookPiece k l a b → length l + up (states b) ≡ up (states a)
took-up zero l a b p = went-up [] (caught 64 a.length a.first.state) a.second.state a.third.state l a b p ∙ ap (λ n. n + up_in a.second.state + up_in a.third.state) (caught-up 64 a.length a.first.state)
took-up (suc zero) l a b p = went-up [] a.first.state (caught 64 a.length a.second.state) a.third.state l a b p ∙ ap (λ n. up_in a.first.state + n + up_in a.third.state) (caught-up 64 a.length a.second.state)
took-up (suc (suc k)) l a b p = went-up [] a.first.state a.second.state (caught 64 a.length a.third.state) l a b p ∙ ap (λ n. up_in a.first.state + up_in a.second.state + n) (caught-up 64 a.length a.third.state)

-- ---- the catch-up of all

pub went-three : (w : List (List ℕ)) (x y z : NodeState) (l : List ℕ) (a b : Replicas) → Went w x y z l a b → length l + up (states b) ≤ 3
went-three w x y z l a b p =
    let e : length l + up (states b) ≡ up_in x + up_in y + up_in z = went-up w x y z l a b p in
    let i : up_in x ≤ 1 = up_in-one x in
    let j : up_in y ≤ 1 = up_in-one y in
    let k : up_in z ≤ 1 = up_in-one z in
    omega (arith, e, i, j, k)

module _ (event : Event) where
  -- a node that is not moved
  pub one-same : (k : ℕ) (a : Replicas) → k < 3 → caught_at event a.length k (node_at k a).state ≡ (node_at k a).state → CaughtOne event k [] a a
  one-same zero a h e = subst (λ s. Went [] s a.second.state a.third.state [] a a) (sym e) (went-nothing a)
  one-same (suc zero) a h e = subst (λ s. Went [] a.first.state s a.third.state [] a a) (sym e) (went-nothing a)
  one-same (suc (suc zero)) a h e = subst (λ s. Went [] a.first.state a.second.state s [] a a) (sym e) (went-nothing a)
  one-same (suc (suc (suc k))) a h e = absurd (omega (arith, h))

  -- a node that takes its piece
  pub one-took : (k : ℕ) (l : List ℕ) (a b : Replicas) → k < 3 → crashes event k ≡ false → TookPiece k l a b → CaughtOne event k l a b
  one-took zero l a b h e p = subst (λ s. Went [] s a.second.state a.third.state l a b) (sym (caught_at-moved event a.length 0 a.first.state e)) p
  one-took (suc zero) l a b h e p = subst (λ s. Went [] a.first.state s a.third.state l a b) (sym (caught_at-moved event a.length 1 a.second.state e)) p
  one-took (suc (suc zero)) l a b h e p = subst (λ s. Went [] a.first.state a.second.state s l a b) (sym (caught_at-moved event a.length 2 a.third.state e)) p
  one-took (suc (suc (suc k))) l a b h e p = absurd (omega (arith, h))

  -- the number of the node by what is known of it
  pub numbered : (k n : ℕ) (l : List ℕ) (a b : Replicas) → k ≡ n → CaughtOne event k l a b → CaughtOne event n l a b
  numbered k n l a b e p = subst (λ j. CaughtOne event j l a b) e p

  -- the first and the second
  pub two-caught : (l m : List ℕ) (a b c : Replicas) → CaughtOne event 0 l a b → CaughtOne event 1 m b c → Went [] (caught_at event a.length 0 a.first.state) (caught_at event a.length 1 a.second.state) a.third.state (l ++ m) a c
  two-caught l m a b c p q =
      let e : b.length ≡ a.length + length {A = List ℕ} [] = p.entries in
      let same : b.length ≡ a.length = omega (arith, e) in
      let moved : Went [] b.first.state (caught_at event a.length 1 b.second.state) b.third.state m b c = subst (λ n. Went [] b.first.state (caught_at event n 1 b.second.state) b.third.state m b c) same q in
      went-on (λ s. s) (caught_at event a.length 1) (λ s. s) tame-none (caught_at-tame event a.length 1) tame-none [] [] (caught_at event a.length 0 a.first.state) a.second.state a.third.state l m a b c p moved

  -- and the third
  pub three-caught : (l m : List ℕ) (a c d : Replicas) → Went [] (caught_at event a.length 0 a.first.state) (caught_at event a.length 1 a.second.state) a.third.state l a c → CaughtOne event 2 m c d → CaughtAll event (l ++ m) a d
  three-caught l m a c d p q =
      let e : c.length ≡ a.length + length {A = List ℕ} [] = p.entries in
      let same : c.length ≡ a.length = omega (arith, e) in
      let moved : Went [] c.first.state c.second.state (caught_at event a.length 2 c.third.state) m c d = subst (λ n. Went [] c.first.state c.second.state (caught_at event n 2 c.third.state) m c d) same q in
      went-on (λ s. s) (λ s. s) (caught_at event a.length 2) tame-none tame-none (caught_at-tame event a.length 2) [] [] (caught_at event a.length 0 a.first.state) (caught_at event a.length 1 a.second.state) a.third.state l m a c d p moved

  -- no source is left for the second, or for the third
  pub one-gone : (l : List ℕ) (a b c : Replicas) → CaughtOne event 0 l a b → Gone b c → Gone a c
  one-gone l a b c p q = went-gone (caught_at event a.length 0 a.first.state) a.second.state a.third.state l a b c (caught_at-stays event a.length 0 a.first.state) (λ e. e) (λ e. e) p q

  pub two-gone : (l : List ℕ) (a b c : Replicas) → Went [] (caught_at event a.length 0 a.first.state) (caught_at event a.length 1 a.second.state) a.third.state l a b → Gone b c → Gone a c
  two-gone l a b c p q = went-gone (caught_at event a.length 0 a.first.state) (caught_at event a.length 1 a.second.state) a.third.state l a b c (caught_at-stays event a.length 0 a.first.state) (caught_at-stays event a.length 1 a.second.state) (λ e. e) p q

-- a node that is none of the joining ones
pub not-joining : (s t : NodeState) → s ≡ t → ((n : ℕ) → s ≡ Joining n → ⊥) → IsJoining t → ⊥
not-joining s Lost e h j = j
not-joining s (Joining n) e h j = h n e
not-joining s Synchronised e h j = j
