-- An issue that begins stands.
use Rattle.std.proofs.Common.{◌≡◌, ℕ, ◌≤◌, List, [], ◌∷◌, None, refl, sym, ap, subst, ◌∙◌, arith}
use Rattle.std.proofs.lemmas.List.Elements.{All-nil}
use Rattle.mkt_base.specs.declared.event.Entry.{Entry}
use Rattle.mkt_base.specs.declared.journal.NodeState.{NodeState}
use Rattle.mkt_base.specs.declared.journal.NodeState.TheVariants.{Synchronised}
use Rattle.memory_node.specs.declared.node.Label.{Label}
use Rattle.record_codec.specs.Entry.{IsEntry}
use Rattle.node_rules.specs.Nodes.{all_synchronised, has_synchronised, up}
use Rattle.mirror.specs.Mirrored.{Mirrors}
use Rattle.mirror.specs.Replicas.{Replica, Replicas, replica, states}
use Rattle.issue_machine.specs.History.{nodes_after}
use Rattle.issue_journal.specs.Inside.{WorkView, issue_of}
use Rattle.issue_journal.specs.Issue.{IsIssueNow}

-- an empty node
record IsFresh (capacity : ℕ) (r : Replica) : Type 0 where
  state : r.state ≡ Synchronised
  spare : capacity ≤ r.spare
  most : r.most ≡ 0

fresh : (capacity : ℕ) (r : Replica) (contents : List (List ℕ)) (spare : ℕ) (label : Label) (most faults : ℕ) → r ≡ replica Synchronised contents spare label most faults
    → (contents ≡ []) × (capacity ≤ spare) × (most ≡ 0) → IsFresh capacity r
fresh capacity r contents spare label most faults is needs = subst (IsFresh capacity) (sym is) (record { state = refl; spare = needs.1; most = needs.2 })

three : (a b c : NodeState) → a ≡ Synchronised → b ≡ Synchronised → c ≡ Synchronised → ◌≡◌ {A = List NodeState} (a ∷ b ∷ c ∷ []) all_synchronised
three a b c e f g =
    ap (λ (s : NodeState). s ∷ b ∷ c ∷ []) e ∙ ap (λ (s : NodeState). Synchronised ∷ s ∷ c ∷ []) f ∙ ap (λ (s : NodeState). Synchronised ∷ Synchronised ∷ s ∷ []) g

module _ (w : WorkView) (m : Replicas) (issue : ℕ) (least : 3 ≤ w.capacity) (few : w.capacity ≤ 100000000)
    (first : IsFresh w.capacity m.first) (second : IsFresh w.capacity m.second) (third : IsFresh w.capacity m.third) (mirrors : Mirrors [] m) where
  abbrev empty : WorkView
  empty = record w { entries = [] }

  states-are : states m ≡ all_synchronised
  states-are = three m.first.state m.second.state m.third.state first.state second.state third.state

  begun-empty : IsIssueNow (issue_of empty m None issue 0)
  unfolding nodes_after
  begun-empty = record {
    history = tt;
    numbers = All-nil IsEntry;
    place = omega arith;
    within = omega arith;
    small = few;
    first_covered = omega arith;
    second_covered = omega arith;
    third_covered = omega arith;
    roomy = record { first = omega (arith, first.spare); second = omega (arith, second.spare); third = omega (arith, third.spare) };
    labels = record { first = refl; second = refl; third = refl };
    stands = record {
      mirrors = mirrors;
      states_are = states-are;
      some = ap has_synchronised states-are;
      fits = omega (arith, ap up states-are, least);
      first_most = omega (arith, first.most);
      second_most = omega (arith, second.most);
      third_most = omega (arith, third.most);
    };
  }

  begun : w.entries ≡ [] → IsIssueNow (issue_of w m None issue 0)
  begun none = subst (λ (v : WorkView). IsIssueNow (issue_of v m None issue 0)) (sym (ap (λ (es : List Entry). record w { entries = es }) none)) begun-empty

pub begin-stands : (w : WorkView) (m : Replicas) (issue : ℕ) (x y z : List (List ℕ)) (p q r : ℕ) (k l n : Label) (a b c d e f : ℕ) → w.entries ≡ [] → 3 ≤ w.capacity → w.capacity ≤ 100000000
    → m.first ≡ replica Synchronised x p k a d → m.second ≡ replica Synchronised y q l b e → m.third ≡ replica Synchronised z r n c f
    → (x ≡ []) × (w.capacity ≤ p) × (a ≡ 0) → (y ≡ []) × (w.capacity ≤ q) × (b ≡ 0) → (z ≡ []) × (w.capacity ≤ r) × (c ≡ 0)
    → Mirrors [] m → IsIssueNow (issue_of w m None issue 0)
begin-stands w m issue x y z p q r k l n a b c d e f none least few first second third u v t mirrors =
    begun w m issue least few (fresh w.capacity m.first x p k a d first u) (fresh w.capacity m.second y q l b e second v) (fresh w.capacity m.third z r n c f third t) mirrors none
