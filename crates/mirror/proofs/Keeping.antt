-- What calls one after another keep of a node.
use Rattle.std.proofs.Common.{◌≡◌, ◌≢◌, ℕ, ◌≤◌, ◌∙◌, ap, arith, inl, inr, max, sym}
use Rattle.mkt_base.specs.declared.journal.NodeState.{NodeState}
use Rattle.mkt_base.specs.declared.journal.NodeState.TheVariants.{Lost, Joining, Synchronised}
use Rattle.mkt_io.specs.Faults.{Rises}
use Rattle.mirror.specs.Calls.{Keeps}
use Rattle.mirror.specs.Members.{Failed, WasRead}
use Rattle.mirror.specs.Replicas.{Replica}

-- a lost node is not synchronised
pub lost-apart : (s : NodeState) → s ≡ Lost → s ≢ Synchronised
lost-apart s e f =
    let same : ◌≡◌ {A = NodeState} Lost Synchronised = sym e ∙ f in absurd (cc)

-- a joining node is not synchronised
pub joining-apart : (s : NodeState) (n : ℕ) → s ≡ Joining n → s ≢ Synchronised
joining-apart s n e f =
    let same : ◌≡◌ {A = NodeState} (Joining n) Synchronised = sym e ∙ f in absurd (cc)

-- a joining node is not lost
pub joining-stands : (s : NodeState) (n : ℕ) → s ≡ Joining n → s ≢ Lost
joining-stands s n e f =
    let same : ◌≡◌ {A = NodeState} (Joining n) Lost = sym e ∙ f in absurd (cc)

-- a count that rose rose also from a lower one
rises-from : (a b c : ℕ) → a ≤ b → Rises b c → Rises a c
rises-from a b c h r = elim r [ inl x ↦ inl (omega (arith, h, x)) | inr x ↦ inr x ]

-- and to a higher one

rises-to : (a b c : ℕ) → Rises a b → b ≤ c → Rises a c
rises-to a b c r h = elim r [ inl x ↦ inl (omega (arith, h, x)) | inr x ↦ inr (omega (arith, h, x)) ]

-- a bound on the records held may be raised
pub keeps-within : (n m : ℕ) (old new : Replica) → n ≤ m → Keeps n old new → Keeps m old new
keeps-within n m old new h k = record {
  label = k.label;
  room = k.room;
  faults = k.faults;
  most = let most : new.most ≤ max old.most n = k.most in omega (arith, most, h);
}

-- what two calls one after the other keep

pub keeps-after : (n : ℕ) (a b c : Replica) → Keeps n a b → Keeps n b c → Keeps n a c
keeps-after n a b c k l = record {
  label = l.label ∙ k.label;
  room = l.room ∙ k.room;
  faults = let f : a.faults ≤ b.faults = k.faults in let g : b.faults ≤ c.faults = l.faults in omega (arith, f, g);
  most = let f : b.most ≤ max a.most n = k.most in let g : c.most ≤ max b.most n = l.most in omega (arith, f, g);
}

-- a node that failed later failed
pub failed-after : (a b c : Replica) → a.state ≢ Lost → a.faults ≤ b.faults → Failed b c → Failed a c
failed-after a b c stands h f =
    record { before = stands; state = f.state; contents = f.contents; rose = rises-from a.faults b.faults c.faults h f.rose }

-- two reads one after another
pub read-after : (a b c : Replica) → WasRead a b → WasRead b c → WasRead a c
read-after a b c r s = record {
  holds = elim r.holds [
    | inl same ↦ elim s.holds [
      | inl again ↦ inl (again.0 ∙ same.0, again.1 ∙ same.1)
      | inr f ↦ inr (failed-after a b c (λ e. f.before (same.0 ∙ e)) r.keeps.faults f)
    ]
    | inr f ↦ elim s.holds [
      | inl again ↦ inr (record {
        before = f.before;
        state = again.0 ∙ f.state;
        contents = again.1 ∙ f.contents;
        rose = rises-to a.faults b.faults c.faults f.rose s.keeps.faults;
      })
      | inr g ↦ absurd (g.before f.state)
    ]
  ];
  untouched = λ h. s.untouched (λ e. h (ap (λ m. m.state) (sym (r.untouched h)) ∙ e)) ∙ r.untouched h;
  keeps = keeps-after 0 a b c r.keeps s.keeps;
}
