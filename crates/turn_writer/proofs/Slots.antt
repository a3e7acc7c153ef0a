-- What becomes of one node in the calls of a turn.
use Rattle.std.proofs.Common.{◌≡◌, ◌≢◌, ℕ, zero, suc, ◌+◌, ◌<◌, ◌≤◌, ◌∙◌, Bool, true, false, cond, ap, arith, inl, inr, max, nat_lt, refl}
use Rattle.std.proofs.lemmas.Bool.Decides.{nat_tests}
use Rattle.mkt_base.specs.declared.journal.NodeState.{NodeState}
use Rattle.mkt_base.specs.declared.journal.NodeState.TheVariants.{Lost, Joining, Synchronised}
use Rattle.mkt_io.specs.Faults.{Rises}
use Rattle.node_rules.specs.Nodes.{up_in}
use Rattle.mirror.specs.Calls.{Became, Keeps}
use Rattle.mirror.specs.Replicas.{Replica}
use Rattle.turn_writer.specs.Losses.{GrewBy}
use Rattle.turn_writer.specs.Went.{Fails, NodeWent, lost_by}

-- ---- counts

-- a count that rose rose also from a lower one
pub rises-from : (a b c : ℕ) → a ≤ b → Rises b c → Rises a c
rises-from a b c h r = elim r [ inl x ↦ inl (omega (arith, h, x)) | inr x ↦ inr x ]

-- and to a higher one
pub rises-to : (a b c : ℕ) → Rises a b → b ≤ c → Rises a c
rises-to a b c r h = elim r [ inl x ↦ inl (omega (arith, h, x)) | inr x ↦ inr (omega (arith, h, x)) ]

-- a count that grew once rose
pub grew-rises : (n a b : ℕ) → 0 < n → GrewBy n a b → Rises a b
grew-rises n a b some g = by-test (nat_lt a b) refl
  where
    by-test : (t : Bool) → nat_lt a b ≡ t → Rises a b
    by-test true e = inl (grind (arith, nat_tests, e))
    by-test false e =
        let more : b ≤ a = grind (arith, nat_tests, e) in inr (omega (arith, some, g, more))

-- a count that did not fall grew by nothing at least
pub grew-none : (a b : ℕ) → a ≤ b → GrewBy 0 a b
grew-none a b h = omega (arith, h)

-- two growths in a row
pub grew-then : (n m a b c : ℕ) → GrewBy n a b → GrewBy m b c → GrewBy (n + m) a c
grew-then n m a b c g h = omega (arith, g, h)

-- ---- what is kept

pub keeps-then : (n m : ℕ) (a b c : Replica) → n ≤ m → Keeps n a b → Keeps m b c → Keeps m a c
keeps-then n m a b c h k l = record {
  label = l.label ∙ k.label;
  room = l.room ∙ k.room;
  faults = let f : a.faults ≤ b.faults = k.faults in let g : b.faults ≤ c.faults = l.faults in omega (arith, f, g);
  most = let f : b.most ≤ max a.most n = k.most in let g : c.most ≤ max b.most m = l.most in omega (arith, f, g, h);
}

pub keeps-within : (n m : ℕ) (a b : Replica) → n ≤ m → Keeps n a b → Keeps m a b
keeps-within n m a b h k = record {
  label = k.label;
  room = k.room;
  faults = k.faults;
  most = let f : b.most ≤ max a.most n = k.most in omega (arith, f, h);
}

pub keeps-none : (n : ℕ) (a : Replica) → Keeps n a a
keeps-none n a = record { label = refl; room = refl; faults = omega arith; most = omega arith }

-- ---- states

-- a node counts once at most
pub up_in-one : (s : NodeState) → up_in s ≤ 1
up_in-one Lost = omega arith
up_in-one (Joining n) = omega arith
up_in-one Synchronised = omega arith

pub lost_by-lost : (n : ℕ) → lost_by n Lost ≡ Lost
lost_by-lost zero = refl
lost_by-lost (suc n) = refl

-- lost in the one part, or in the other
pub lost_by-then : (n m : ℕ) (s : NodeState) → lost_by m (lost_by n s) ≡ lost_by (n + m) s
lost_by-then zero m s = let e : m ≡ 0 + m = omega arith in ap (λ k. lost_by k s) e
lost_by-then (suc n) m s = let e : suc (n + m) ≡ suc n + m = omega arith in lost_by-lost m ∙ ap (λ k. lost_by k s) e

-- each loss takes a node that was up
pub up_in-left : (n : ℕ) (s : NodeState) → n ≤ up_in s → n + up_in (lost_by n s) ≡ up_in s
up_in-left zero s h = omega arith
up_in-left (suc n) s h = let one : up_in s ≤ 1 = up_in-one s in omega (arith, h, one)

-- a move of states that leaves a lost node lost, and no other
pub record Tame (f : NodeState → NodeState) : Type 0 where
  pub lost : f Lost ≡ Lost
  pub up : (s : NodeState) → up_in (f s) ≡ up_in s

pub tame-none : Tame (λ s. s)
tame-none = record { lost = refl; up = λ s. refl }

pub lost_by-tame : (f : NodeState → NodeState) → Tame f → (n : ℕ) (s : NodeState) → f (lost_by n s) ≡ lost_by n (f s)
lost_by-tame f t zero s = refl
lost_by-tame f t (suc n) s = t.lost

-- ---- a node in several calls

module _ (n : ℕ) (goal : NodeState) (old new : Replica) (w : NodeWent n goal old new) where
  -- what is left of it
  pub went-left : n + up_in new.state ≡ up_in goal
  went-left = ap (λ s. n + up_in s) w.state_is ∙ up_in-left n goal w.once

  -- where its count did not rise, it came to its state

  pub went-calm : (Rises old.faults new.faults → ⊥) → new.state ≡ goal
  went-calm calm = by-count n refl
    where
      by-count : (k : ℕ) → n ≡ k → new.state ≡ goal
      by-count zero e = w.state_is ∙ ap (λ k. lost_by k goal) e
      by-count (suc k) e = absurd (calm (grew-rises n old.faults new.faults (omega (arith, e)) w.grew))

  -- a node that was to be synchronised, and does not stand in the end, failed

  pub went-fails : (last : Replica) → old.faults ≤ new.faults → new.faults ≤ last.faults → Fails new last → goal ≡ Synchronised → Rises old.faults last.faults
  went-fails last g h fails e = by-count n refl
    where
      by-count : (k : ℕ) → n ≡ k → Rises old.faults last.faults
      by-count zero z = rises-from old.faults new.faults last.faults g (fails (w.state_is ∙ ap (λ k. lost_by k goal) z ∙ e))
      by-count (suc k) z = rises-to old.faults new.faults last.faults (grew-rises n old.faults new.faults (omega (arith, z)) w.grew) h

-- one call, and another that moves the states
pub went-then : (f : NodeState → NodeState) → Tame f → (n m : ℕ) (s : NodeState) (a b c : Replica) → NodeWent n s a b → NodeWent m (f b.state) b c → NodeWent (n + m) (f s) a c
went-then f t n m s a b c v w =
    let left : n + up_in b.state ≡ up_in s = went-left n s a b v in
    let moved : up_in (f b.state) ≡ up_in b.state = t.up b.state in
    let same : up_in (f s) ≡ up_in s = t.up s in
    let once : m ≤ up_in (f b.state) = w.once in record {
      state_is = w.state_is ∙ ap (λ r. lost_by m (f r)) v.state_is ∙ ap (lost_by m) (lost_by-tame f t n s) ∙ lost_by-then n m (f s);
      once = omega (arith, left, moved, same, once);
      grew = grew-then n m a.faults b.faults c.faults v.grew w.grew;
    }

-- a node that no call touched
pub went-none : (a : Replica) → NodeWent 0 a.state a a
went-none a = record { state_is = refl; once = omega arith; grew = grew-none a.faults a.faults (omega arith) }

-- ---- what one call tells

-- a call that was to bring a node to a state, where that state is up if the node was
pub became-went : (goal : NodeState) (lost : Bool) (a b : Replica) → up_in goal ≡ up_in a.state → a.faults ≤ b.faults → Became goal lost a b → NodeWent (cond lost 1 0) goal a b
became-went goal true a b up h became = record {
  state_is = became.state_is;
  once = let stands : up_in a.state ≡ 1 = up_in-stands a.state (became.not_before refl) in omega (arith, stands, up);
  grew = let r : Rises a.faults b.faults = became.rose refl in elim r [ inl x ↦ omega (arith, x) | inr x ↦ omega (arith, x) ];
}
  where
    up_in-stands : (s : NodeState) → s ≢ Lost → up_in s ≡ 1
    up_in-stands Lost e = absurd (e refl)
    up_in-stands (Joining n) e = refl
    up_in-stands Synchronised e = refl
became-went goal false a b up h became = record {
  state_is = became.state_is;
  once = omega arith;
  grew = grew-none a.faults b.faults h;
}
