-- What a catch-up tells of each node.
use Rattle.std.proofs.Common.{◌≡◌, ◌≢◌, ℕ, zero, suc, ◌<◌, arith, Bool, true, false, ◌∷◌, [], ◌∙◌, if◌then◌else◌, inl, inr, refl, sym}
use Rattle.mkt_base.specs.declared.journal.NodeState.{NodeState}
use Rattle.mkt_base.specs.declared.journal.NodeState.TheVariants.{Lost, Joining, Synchronised}
use Rattle.mkt_io.specs.Faults.{Rises}
use Rattle.mirror.specs.Calls.{AllFell, Became, BecameAll, Fell, IsJoining}
use Rattle.mirror.specs.Members.{Came, CameAll, WasRead}
use Rattle.mirror.specs.Replicas.{Replica, Replicas, fell, node_at, with_node}
use Rattle.mirror.proofs.Keeping.{joining-apart, joining-stands}

-- a synchronised node is not lost
synchronised-stands : ◌≡◌ {A = NodeState} Synchronised Lost → ⊥
synchronised-stands e = absurd (cc)

-- what the flag of a lost node says

fell-true : (s t : NodeState) → fell s t ≡ true → (s ≢ Lost) × (t ≡ Lost)
fell-true Lost t e = absurd (cc)
fell-true (Joining n) Lost e = (joining-stands (Joining n) n refl, refl)
fell-true (Joining n) (Joining m) e = absurd (cc)
fell-true (Joining n) Synchronised e = absurd (cc)
fell-true Synchronised Lost e = (synchronised-stands, refl)
fell-true Synchronised (Joining m) e = absurd (cc)
fell-true Synchronised Synchronised e = absurd (cc)

-- a lost node without the flag was lost before

fell-false : (s t : NodeState) → t ≡ Lost → fell s t ≡ false → s ≡ Lost
fell-false Lost t h e = refl
fell-false (Joining n) Lost h e = absurd (cc)
fell-false (Joining n) (Joining m) h e = absurd (joining-stands (Joining m) m refl h)
fell-false (Joining n) Synchronised h e = absurd (synchronised-stands h)
fell-false Synchronised Lost h e = absurd (cc)
fell-false Synchronised (Joining m) h e = absurd (joining-stands (Joining m) m refl h)
fell-false Synchronised Synchronised h e = absurd (synchronised-stands h)

-- a state by the two values of a flag

by-flag : (b : Bool) (s t : NodeState) → (b ≡ true → t ≡ Lost) → (b ≡ false → t ≡ s) → t ≡ (if b then Lost else s)
by-flag true s t h k = h refl
by-flag false s t h k = k refl

module _ (state : NodeState) (old new : Replica) (came : Came state old new) where
  -- without the flag the node came to its state
  stands : fell old.state new.state ≡ false → new.state ≡ state
  stands e = elim came.either [
    | inl same ↦ same
    | inr f ↦ absurd (f.before (fell-false old.state new.state f.state e))
  ]

  -- with the flag its count rose

  rose : fell old.state new.state ≡ true → Rises old.faults new.faults
  rose e = elim came.either [
    | inl same ↦ absurd ((fell-true old.state new.state e).0 (came.not_lost (sym same ∙ (fell-true old.state new.state e).1)))
    | inr f ↦ f.rose
  ]

  -- a node that came to its state, or was lost in this call
  became : Became state (fell old.state new.state) old new
  became = record {
    state_is = by-flag (fell old.state new.state) state new.state (λ e. (fell-true old.state new.state e).1) stands;
    not_before = λ e. (fell-true old.state new.state e).0;
    rose = rose;
    untouched = came.untouched;
  }

-- each node did so
pub became-all : (goal old new : Replicas) → CameAll goal old new → BecameAll goal (fell old.first.state new.first.state ∷ fell old.second.state new.second.state ∷ fell old.third.state new.third.state ∷ []) old new
became-all goal old new came = record {
  first = became goal.first.state old.first new.first came.first;
  second = became goal.second.state old.second new.second came.second;
  third = became goal.third.state old.third new.third came.third;
}

-- a source of which no record can be read any more
fell-read : (old new : Replica) → WasRead old new → new.state ≢ Synchronised → Fell old new
fell-read old new r none = record {
  lost = λ e. elim r.holds [ inl same ↦ absurd (none (same.0 ∙ e)) | inr f ↦ f.state ];
  rose = λ e. elim r.holds [ inl same ↦ absurd (none (same.0 ∙ e)) | inr f ↦ f.rose ];
  untouched = r.untouched;
}

-- a joining node is not synchronised

joining-not : (s : NodeState) → IsJoining s → s ≢ Synchronised
joining-not (Joining n) j = joining-apart (Joining n) n refl
joining-not Lost j = absurd j
joining-not Synchronised j = absurd j

-- no source is left for node 2, which stays joining
pub third-fell : (k : ℕ) → 1 < k → (old new : Replicas) → WasRead old.first new.first → new.first.state ≢ Synchronised → WasRead old.second new.second → new.second.state ≢ Synchronised → IsJoining new.third.state → AllFell (with_node k (node_at k new) old) new
third-fell zero more old new a a_none b b_none joins = absurd (omega (arith, more))
third-fell (suc zero) more old new a a_none b b_none joins = absurd (omega (arith, more))
third-fell (suc (suc k)) more old new a a_none b b_none joins = record {
  first = fell-read old.first new.first a a_none;
  second = fell-read old.second new.second b b_none;
  third = record {
    lost = λ e. absurd (joining-not new.third.state joins e);
    rose = λ e. absurd (joining-not new.third.state joins e);
    untouched = λ _. refl;
  };
}
