-- What nodes hold of a journal.
use Rattle.std.proofs.Common.{◌≡◌, ℕ, suc, ◌+◌, ◌<◌, ◌≤◌, Bool, true, false, List, [], ◌∷◌, ◌++◌, ◌∙◌, ap, arith, if◌then◌else◌, inl, inr, length, nat_lt, refl, slice_index_or, subst, sym, take}
use Rattle.std.proofs.Math.Seq.{take-length, take-suc}
use Rattle.std.proofs.lemmas.Bool.Decides.{nat_tests}
use Rattle.std.proofs.lemmas.List.{length-take-le}
use Rattle.mkt_base.specs.declared.journal.NodeState.{NodeState}
use Rattle.mkt_base.specs.declared.journal.NodeState.TheVariants.{Lost, Joining, Synchronised}
use Rattle.mirror.specs.Calls.{reached}
use Rattle.mirror.specs.Members.{Failed, WasRead}
use Rattle.mirror.specs.Mirrored.{HoldsAs}
use Rattle.mirror.specs.Replicas.{Replica}

-- what is held by a node that is synchronised
pub whole : (journal : List (List ℕ)) (s : NodeState) (x : List (List ℕ)) → HoldsAs journal s x → s ≡ Synchronised → x ≡ journal
whole journal s x h e = subst (λ t. HoldsAs journal t x) e h

-- of a node that joins

pub front : (journal : List (List ℕ)) (s : NodeState) (n : ℕ) (x : List (List ℕ)) → HoldsAs journal s x → s ≡ Joining n → (x ≡ take n journal) × (n < length journal)
front journal s n x h e = subst (λ t. HoldsAs journal t x) e h

-- no more is held than the journal has
pub held-most : (journal : List (List ℕ)) (s : NodeState) (x : List (List ℕ)) → HoldsAs journal s x → length x ≤ length journal
held-most journal Synchronised x h = let e : length x ≡ length journal = ap length h in omega (arith, e)
held-most journal (Joining n) x h =
    let less : n < length journal = h.1 in
    let e : length x ≡ n = ap length h.0 ∙ length-take-le n journal (omega (arith, less)) in
    omega (arith, e, less)
held-most journal Lost x h = let e : length x ≡ 0 = ap length h in omega (arith, e)

-- a node that failed holds nothing
pub held-failed : (journal : List (List ℕ)) (old new : Replica) → Failed old new → HoldsAs journal new.state new.contents
held-failed journal old new f = subst (λ s. HoldsAs journal s new.contents) (sym f.state) f.contents

-- a node that was read from holds what it is to hold
pub held-read : (journal : List (List ℕ)) (old new : Replica) → WasRead old new → HoldsAs journal old.state old.contents → HoldsAs journal new.state new.contents
held-read journal old new r h = elim r.holds [
  | inl same ↦ subst (λ s. HoldsAs journal s new.contents) (sym same.0) (subst (λ x. HoldsAs journal old.state x) (sym same.1) h)
  | inr f ↦ held-failed journal old new f
]

-- a joining node that was given the next record
held-next : (b : Bool) (journal : List (List ℕ)) (at : ℕ) (rec : List ℕ) → nat_lt (at + 1) (length journal) ≡ b → at < length journal → rec ≡ slice_index_or journal at rec → HoldsAs journal (if b then Joining (at + 1) else Synchronised) (take at journal ++ rec ∷ [])
held-next true journal at rec t h e =
    let next : at + 1 ≡ suc at = omega arith in
    (rw e (sym (take-suc journal at rec h) ∙ ap (λ n. take n journal) (sym next)), grind (arith, nat_tests, t))
held-next false journal at rec t h e =
    let last : suc at ≡ length journal = grind (arith, nat_tests, t, h) in
    ap (λ r. take at journal ++ r ∷ []) e ∙ sym (take-suc journal at rec h) ∙ ap (λ n. take n journal) last ∙ take-length journal

-- the same for the states and contents as the calls tell them

pub held-copied : (journal : List (List ℕ)) (entries at : ℕ) (s : NodeState) (x : List (List ℕ)) (rec : List ℕ) → entries ≡ length journal → at < entries → x ≡ take at journal → rec ≡ slice_index_or journal at rec → s ≡ reached entries (at + 1) → HoldsAs journal s (x ++ rec ∷ [])
held-copied journal entries at s x rec len less front e reach =
    let within : at < length journal = omega (arith, len, less) in
    let there : HoldsAs journal (reached (length journal) (at + 1)) (take at journal ++ rec ∷ []) =
    held-next (nat_lt (at + 1) (length journal)) journal at rec refl within e in
    let state : s ≡ reached (length journal) (at + 1) = reach ∙ ap (λ n. reached n (at + 1)) len in
    subst (λ t. HoldsAs journal t (x ++ rec ∷ [])) (sym state) (subst (λ y. HoldsAs journal (reached (length journal) (at + 1)) (y ++ rec ∷ [])) (sym front) there)
