-- The putting of a record to three nodes.
use Rattle.std.proofs.Common.{◌≡◌, ◌≢◌, ℕ, ◌+◌, ◌<◌, ◌≤◌, ◌∙◌, Bool, true, false, List, [], ◌∷◌, ◌++◌, ap, arith, length, length-append, refl, subst, sym}
use Rattle.std.proofs.lemmas.List.{take-append-le}
use Rattle.mkt_base.specs.declared.journal.NodeState.{NodeState}
use Rattle.mkt_base.specs.declared.journal.NodeState.TheVariants.{Lost, Joining, Synchronised}
use Rattle.mirror.specs.Calls.{Keeps, KeepsAll}
use Rattle.mirror.specs.Members.{AreHeld, WasPut}
use Rattle.mirror.specs.Mirrored.{HoldsAs, Mirrors}
use Rattle.mirror.specs.Replicas.{Replica, Replicas}
use Rattle.mirror.proofs.Holding.{held-failed, held-most, whole}
use Rattle.mirror.proofs.Keeping.{joining-apart, keeps-within, lost-apart}

-- a journal with one record more is one longer
longer : (journal : List (List ℕ)) (rec : List ℕ) → length (journal ++ rec ∷ []) ≡ length journal + 1
longer journal rec = length-append journal (rec ∷ [])

-- a node that is not synchronised holds as much of the longer journal
held-longer : (journal : List (List ℕ)) (rec : List ℕ) (s : NodeState) (x : List (List ℕ)) → HoldsAs journal s x → s ≢ Synchronised → HoldsAs (journal ++ rec ∷ []) s x
held-longer journal rec Synchronised x h apart = absurd (apart refl)
held-longer journal rec (Joining n) x h apart =
    let less : n < length journal = h.1 in
    let e : length (journal ++ rec ∷ []) ≡ length journal + 1 = longer journal rec in
    (h.0 ∙ sym (take-append-le n journal (rec ∷ []) (omega (arith, less))), omega (arith, less, e))
held-longer journal rec Lost x h apart = h

module _ (journal : List (List ℕ)) (rec : List ℕ) (lost : Bool) (old new : Replica) (put : WasPut rec lost old new) (h : HoldsAs journal old.state old.contents) where
  -- of a node that is not synchronised
  idle : old.state ≢ Synchronised → HoldsAs (journal ++ rec ∷ []) new.state new.contents
  idle apart = subst (λ r. HoldsAs (journal ++ rec ∷ []) r.state r.contents) (sym (put.untouched apart)) (held-longer journal rec old.state old.contents h apart)

  -- of a synchronised node, by whether it was lost

  by-loss : (b : Bool) → lost ≡ b → old.state ≡ Synchronised → HoldsAs (journal ++ rec ∷ []) new.state new.contents
  by-loss true l e = held-failed (journal ++ rec ∷ []) old new (put.failed l)
  by-loss false l e =
      subst (λ s. HoldsAs (journal ++ rec ∷ []) s new.contents) (sym (put.state e l))
      (put.put e l ∙ ap (λ x. x ++ rec ∷ []) (whole journal old.state old.contents h e))

  -- of a node in any state

  by-state : (s : NodeState) → old.state ≡ s → HoldsAs (journal ++ rec ∷ []) new.state new.contents
  by-state Synchronised e = by-loss lost refl e
  by-state (Joining n) e = idle (joining-apart old.state n e)
  by-state Lost e = idle (lost-apart old.state e)

  -- after the put the node holds what it is to hold of the longer journal
  pub held-put : HoldsAs (journal ++ rec ∷ []) new.state new.contents
  held-put = by-state old.state refl

module _ (rec : List ℕ) (entries : ℕ) (old : Replicas) (a b c : Replica) (lost_a lost_b lost_c : Bool) (put_a : WasPut rec lost_a old.first a) (put_b : WasPut rec lost_b old.second b) (put_c : WasPut rec lost_c old.third c) (count : (journal : List (List ℕ)) → HoldsAs journal a.state a.contents → HoldsAs journal b.state b.contents → HoldsAs journal c.state c.contents → entries ≡ length journal) (journal : List (List ℕ)) (h : Mirrors journal old) where
  -- what node 0 holds
  held-a : HoldsAs (journal ++ rec ∷ []) a.state a.contents
  held-a = held-put journal rec lost_a old.first a put_a h.first

  -- what node 1 holds

  held-b : HoldsAs (journal ++ rec ∷ []) b.state b.contents
  held-b = held-put journal rec lost_b old.second b put_b h.second

  -- what node 2 holds

  held-c : HoldsAs (journal ++ rec ∷ []) c.state c.contents
  held-c = held-put journal rec lost_c old.third c put_c h.third

  -- the nodes mirror the longer journal
  pub appended : AreHeld (journal ++ rec ∷ []) entries a b c
  appended = record {
    entries_are = count (journal ++ rec ∷ []) held-a held-b held-c;
    first = held-a;
    second = held-b;
    third = held-c;
  }

  -- the journal is one longer

  pub appended-length : entries ≡ old.length + 1
  appended-length = appended.entries_are ∙ longer journal rec ∙ ap (λ n. n + 1) (sym h.entries_are)

  -- what a put keeps of a node, bounded by the longer journal

  keeps-put : (lost : Bool) (r r' : Replica) → WasPut rec lost r r' → HoldsAs (journal ++ rec ∷ []) r'.state r'.contents → Keeps entries r r'
  keeps-put lost r r' put held =
      let most : length r'.contents ≤ length (journal ++ rec ∷ []) = held-most (journal ++ rec ∷ []) r'.state r'.contents held in
      let e : entries ≡ length (journal ++ rec ∷ []) = appended.entries_are in
      keeps-within (length r'.contents) entries r r' (omega (arith, most, e)) put.keeps

  -- and of all three

  pub appended-keeps : KeepsAll old (record { first = a; second = b; third = c; length = entries })
  appended-keeps = record {
    first = keeps-put lost_a old.first a put_a held-a;
    second = keeps-put lost_b old.second b put_b held-b;
    third = keeps-put lost_c old.third c put_c held-c;
  }
