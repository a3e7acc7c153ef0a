-- A lost node that joins, and takes its first piece.
use Rattle.std.proofs.Common.{◌≡◌, ℕ, zero, suc, List, Option, Some, subst, sym}
use Rattle.mkt_base.specs.declared.journal.NodeState.{NodeState}
use Rattle.mkt_base.specs.declared.journal.NodeState.TheVariants.{Joining}
use Rattle.mirror.specs.Calls.{Keeps}
use Rattle.mirror.specs.Mirrored.{Mirrors}
use Rattle.mirror.specs.Replicas.{Replica, Replicas, with_state}
use Rattle.node_rules.specs.Nodes.{caught}
use Rattle.turn_writer.specs.Losses.{times}
use Rattle.turn_writer.specs.Went.{JoinedAs, NodeWent, Rejoined, TookPiece}

-- a new state alone is no step of a node
from-state : (n : ℕ) (g s : NodeState) (a b : Replica) → NodeWent n g (record a { state = s }) b → NodeWent n g a b
from-state n g s a b w = record { state_is = w.state_is; once = w.once; grew = w.grew }

keeps-state : (n : ℕ) (s : NodeState) (a b : Replica) → Keeps n (record a { state = s }) b → Keeps n a b
keeps-state n s a b k = record { label = k.label; room = k.room; faults = k.faults; most = k.most }

-- of the node that joins, by its number
joined-here : (k : ℕ) (l : List ℕ) (a b : Replicas) → ((journal : List (List ℕ)) → Mirrors journal a → Mirrors journal (with_state k (Joining 0) a)) → TookPiece k l (with_state k (Joining 0) a) b → JoinedAs k l a b
joined-here zero l a b m p = record {
  mirrors = λ journal held. p.mirrors journal (m journal held);
  first = from-state (times 0 l) (caught 64 a.length (Joining 0)) (Joining 0) a.first b.first p.first;
  second = p.second;
  third = p.third;
  nodes = p.nodes;
  keeps = record { first = keeps-state b.length (Joining 0) a.first b.first p.keeps.first; second = p.keeps.second; third = p.keeps.third };
  entries = p.entries;
}
joined-here (suc zero) l a b m p = record {
  mirrors = λ journal held. p.mirrors journal (m journal held);
  first = p.first;
  second = from-state (times 1 l) (caught 64 a.length (Joining 0)) (Joining 0) a.second b.second p.second;
  third = p.third;
  nodes = p.nodes;
  keeps = record { first = p.keeps.first; second = keeps-state b.length (Joining 0) a.second b.second p.keeps.second; third = p.keeps.third };
  entries = p.entries;
}
joined-here (suc (suc k)) l a b m p = record {
  mirrors = λ journal held. p.mirrors journal (m journal held);
  first = p.first;
  second = p.second;
  third = from-state (times 2 l) (caught 64 a.length (Joining 0)) (Joining 0) a.third b.third p.third;
  nodes = p.nodes;
  keeps = record { first = p.keeps.first; second = p.keeps.second; third = keeps-state b.length (Joining 0) a.third b.third p.keeps.third };
  entries = p.entries;
}

pub joined-took : (j : Option ℕ) (k : ℕ) (l : List ℕ) (a b c : Replicas) → j ≡ Some k → b ≡ with_state k (Joining 0) a → ((journal : List (List ℕ)) → Mirrors journal a → Mirrors journal b) → TookPiece k l b c → Rejoined j l a c
joined-took j k l a b c is e m p =
    subst (λ o. Rejoined o l a c) (sym is)
    (joined-here k l a c (subst (λ d. (journal : List (List ℕ)) → Mirrors journal a → Mirrors journal d) e m) (subst (λ d. TookPiece k l d c) e p))
