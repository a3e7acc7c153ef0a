-- An issue that is made of the nodes that another left.
use Rattle.std.proofs.Common.{◌≡◌, ◌≢◌, ℕ, zero, suc, ◌<◌, ◌≤◌, Bool, true, false, List, [], ◌∷◌, length, take, inl, inr, refl, sym, ap, subst, ◌∙◌, arith, if◌then◌else◌}
use Rattle.std.proofs.lemmas.Bool.Decides.{nat_tests}
use Rattle.std.proofs.lemmas.List.{length-take-le}
use Rattle.mkt_base.specs.declared.journal.NodeState.{NodeState}
use Rattle.mkt_base.specs.declared.journal.NodeState.TheVariants.{Lost, Joining, Synchronised}
use Rattle.mkt_io.specs.Faults.{Rises}
use Rattle.node_rules.specs.Nodes.{is_lost, state_at}
use Rattle.mirror.specs.Mirrored.{HoldsAs}
use Rattle.mirror.specs.Replicas.{Replica, replica}
use Rattle.turn_writer.specs.Losses.{AreLosses, GrewBy, with_lost}
use Rattle.issue_journal.specs.Reading.{WasLeft, WasTried, is_gone, lose_if, met}

-- ---- the nodes that were lost while they were read

abbrev pub left_of : Bool → Bool → Bool → List NodeState → List NodeState
left_of a b c nodes = lose_if c 2 (lose_if b 1 (lose_if a 0 nodes))

module _ (s t u : NodeState) where
  pub met-lost : (a b c : Bool) → with_lost (met a b c) (s ∷ t ∷ u ∷ []) ≡ left_of a b c (s ∷ t ∷ u ∷ [])
  met-lost false false false = refl
  met-lost false false true = refl
  met-lost false true false = refl
  met-lost false true true = refl
  met-lost true false false = refl
  met-lost true false true = refl
  met-lost true true false = refl
  met-lost true true true = refl

  pub met-are : (a b c : Bool) → (a ≡ true → is_lost s ≡ false) → (b ≡ true → is_lost t ≡ false) → (c ≡ true → is_lost u ≡ false) → AreLosses (s ∷ t ∷ u ∷ []) (met a b c)
  met-are false false false f g h = tt
  met-are false false true f g h = (omega arith, h refl, tt)
  met-are false true false f g h = (omega arith, g refl, tt)
  met-are false true true f g h = (omega arith, g refl, (omega arith, h refl, tt))
  met-are true false false f g h = (omega arith, f refl, tt)
  met-are true false true f g h = (omega arith, f refl, (omega arith, h refl, tt))
  met-are true true false f g h = (omega arith, f refl, (omega arith, g refl, tt))
  met-are true true true f g h = (omega arith, f refl, (omega arith, g refl, (omega arith, h refl, tt)))

  pub left-first : (a b c : Bool) → state_at (left_of a b c (s ∷ t ∷ u ∷ [])) 0 ≡ (if a then Lost else s)
  left-first false false false = refl
  left-first false false true = refl
  left-first false true false = refl
  left-first false true true = refl
  left-first true false false = refl
  left-first true false true = refl
  left-first true true false = refl
  left-first true true true = refl

  pub left-second : (a b c : Bool) → state_at (left_of a b c (s ∷ t ∷ u ∷ [])) 1 ≡ (if b then Lost else t)
  left-second false false false = refl
  left-second false false true = refl
  left-second false true false = refl
  left-second false true true = refl
  left-second true false false = refl
  left-second true false true = refl
  left-second true true false = refl
  left-second true true true = refl

  pub left-third : (a b c : Bool) → state_at (left_of a b c (s ∷ t ∷ u ∷ [])) 2 ≡ (if c then Lost else u)
  left-third false false false = refl
  left-third false false true = refl
  left-third false true false = refl
  left-third false true true = refl
  left-third true false false = refl
  left-third true false true = refl
  left-third true true false = refl
  left-third true true true = refl

-- three states that are those
pub left-state : (nodes : List NodeState) (x y z s t u : NodeState) (a b c : Bool) → nodes ≡ x ∷ y ∷ z ∷ [] → x ≡ (if a then Lost else s) → y ≡ (if b then Lost else t) → z ≡ (if c then Lost else u)
    → nodes ≡ left_of a b c (s ∷ t ∷ u ∷ [])
left-state nodes x y z s t u a b c is e f g =
    is ∙ ap (λ (n : NodeState). n ∷ y ∷ z ∷ []) e ∙ ap (λ (n : NodeState). (if a then Lost else s) ∷ n ∷ z ∷ []) f
    ∙ ap (λ (n : NodeState). (if a then Lost else s) ∷ (if b then Lost else t) ∷ n ∷ []) g ∙ by a b c
  where
    by : (a b c : Bool) → ◌≡◌ {A = List NodeState} ((if a then Lost else s) ∷ (if b then Lost else t) ∷ (if c then Lost else u) ∷ []) (left_of a b c (s ∷ t ∷ u ∷ []))
    by false false false = refl
    by false false true = refl
    by false true false = refl
    by false true true = refl
    by true false false = refl
    by true false true = refl
    by true true false = refl
    by true true true = refl

-- ---- one node

some-left : (end long : ℕ) → end ≡ long → (end ≡ 0 → ⊥) → 0 < long
some-left zero long is none = absurd (none refl)
some-left (suc n) long is none = omega (arith, is)

rises-one : (old new : ℕ) → Rises old new → GrewBy 1 old new
rises-one old new (inl less) = omega (arith, less)
rises-one old new (inr last) = omega (arith, last)

stays-none : (old new : ℕ) → old ≤ new → GrewBy 0 old new
stays-none old new less = omega (arith, less)

gone-synchronised : (end : ℕ) (s : NodeState) (node : Replica) → is_gone end s node ≡ true → s ≡ Synchronised
gone-synchronised end Synchronised node gone = refl
gone-synchronised end Lost node gone = absurd (cc)
gone-synchronised end (Joining n) node gone = absurd (cc)

pub gone-stood : (end : ℕ) (s : NodeState) (node : Replica) → is_gone end s node ≡ true → is_lost s ≡ false
gone-stood end s node gone = ap is_lost (gone-synchronised end s node gone)

gone-shorter : (end : ℕ) (s : NodeState) (node : Replica) → is_gone end s node ≡ true → length node.contents ≡ end → ⊥
gone-shorter end s node gone long = grind (arith, nat_tests)

not-gone : (end : ℕ) (node : Replica) → is_gone end Synchronised node ≡ false → length node.contents ≡ end
not-gone end node stays = grind (arith, nat_tests)

module _ (journal : List (List ℕ)) (end : ℕ) (end_is : end ≡ length journal) (s : NodeState) (old new : Replica) (holds : HoldsAs journal s old.contents) (tried : WasTried end old new) where
  -- a synchronised node that has not all records any more failed
  pub gone-failed : s ≡ Synchronised → (length new.contents ≡ end → ⊥) → (new.contents ≡ []) × Rises old.faults new.faults
  gone-failed is shorter = elim tried.either [
    | inl same ↦
        let whole : old.contents ≡ journal = subst (λ (t : NodeState). HoldsAs journal t old.contents) is holds in
        absurd (shorter (ap length (same ∙ whole) ∙ sym end_is))
    | inr down ↦ down
  ]

  -- one that was joining is untouched
  joining-untouched : (n : ℕ) → s ≡ Joining n → new ≡ old
  joining-untouched n is =
      let front : (old.contents ≡ take n journal) × (n < length journal) = subst (λ (t : NodeState). HoldsAs journal t old.contents) is holds in
      let short : length old.contents ≡ n = ap length front.0 ∙ length-take-le n journal (omega (arith, front.1)) in
      tried.untouched (λ long. absurd (omega (arith, short, long, front.1, end_is)))

  pub by-gone : (b : Bool) → is_gone end s new ≡ b → HoldsAs journal (if b then Lost else s) new.contents
  by-gone true gone = (gone-failed (gone-synchronised end s new gone) (gone-shorter end s new gone)).0
  by-gone false stays = by s refl
    where
      none : (js : List (List ℕ)) → length js ≡ 0 → [] ≡ js
      none [] e = refl
      none (j ∷ js) e = absurd (omega (arith, e))

      by : (t : NodeState) → s ≡ t → HoldsAs journal t new.contents
      by Synchronised is =
          let whole : old.contents ≡ journal = subst (λ (t : NodeState). HoldsAs journal t old.contents) is holds in
          let long : length new.contents ≡ end = not-gone end new (ap (λ (t : NodeState). is_gone end t new) (sym is) ∙ stays) in
          elim tried.either [
            | inl same ↦ same ∙ whole
            | inr down ↦ down.0 ∙ none journal (sym end_is ∙ sym long ∙ ap length down.0)
          ]
      by (Joining n) is =
          let front : (old.contents ≡ take n journal) × (n < length journal) = subst (λ (t : NodeState). HoldsAs journal t old.contents) is holds in
          (ap (λ (r : Replica). r.contents) (joining-untouched n is) ∙ front.0, front.1)
      by Lost is =
          let empty : old.contents ≡ [] = subst (λ (t : NodeState). HoldsAs journal t old.contents) is holds in
          elim tried.either [ inl same ↦ same ∙ empty | inr down ↦ down.0 ]

  grew-by : (b : Bool) → is_gone end s new ≡ b → GrewBy (if b then 1 else 0) old.faults new.faults
  grew-by true gone = rises-one old.faults new.faults (gone-failed (gone-synchronised end s new gone) (gone-shorter end s new gone)).1
  grew-by false stays = stays-none old.faults new.faults tried.count

  gone-behind : is_gone end s new ≡ true → 0 < length journal
  gone-behind gone =
      let empty : new.contents ≡ [] = (gone-failed (gone-synchronised end s new gone) (gone-shorter end s new gone)).0 in
      some-left end (length journal) end_is (λ none. gone-shorter end s new gone (ap length empty ∙ sym none))

  -- one that was not synchronised is untouched
  pub not-untouched : (s ≡ Lost → 0 < end) → s ≢ Synchronised → new ≡ old
  not-untouched later other = by s refl
    where
      by : (t : NodeState) → s ≡ t → new ≡ old
      by Synchronised is = absurd (other is)
      by (Joining n) is = joining-untouched n is
      by Lost is =
          let empty : old.contents ≡ [] = subst (λ (t : NodeState). HoldsAs journal t old.contents) is holds in
          tried.untouched (λ long. absurd (omega (arith, later is, long, ap length empty)))

  stays-state : (t : NodeState) → t ≢ Synchronised → (if is_gone end t new then Lost else t) ≡ t
  stays-state Synchronised other = absurd (other refl)
  stays-state (Joining n) other = refl
  stays-state Lost other = refl

  not-changed : (s ≡ Lost → 0 < end) → s ≢ Synchronised → replica (if is_gone end s new then Lost else s) new.contents new.spare new.label new.most new.faults
      ≡ replica s old.contents old.spare old.label old.most old.faults
  not-changed later other =
      ap (λ (t : NodeState). replica t new.contents new.spare new.label new.most new.faults) (stays-state s other)
      ∙ ap (λ (r : Replica). replica s r.contents r.spare r.label r.most r.faults) (not-untouched later other)

  -- the node in its new state
  pub was-left : (left mid : Replica) → (s ≡ Lost → 0 < end) → left ≡ replica s old.contents old.spare old.label old.most old.faults
      → mid ≡ replica (if is_gone end s new then Lost else s) new.contents new.spare new.label new.most new.faults → WasLeft journal (is_gone end s new) left mid
  was-left left mid later one two =
      subst (λ (l : Replica). WasLeft journal (is_gone end s new) l mid) (sym one)
      (subst (λ (m : Replica). WasLeft journal (is_gone end s new) (replica s old.contents old.spare old.label old.most old.faults) m) (sym two) (record {
        state_is = refl;
        holds = by-gone (is_gone end s new) refl;
        stood = gone-stood end s new;
        behind = gone-behind;
        grew = grew-by (is_gone end s new) refl;
        count = tried.count;
        untouched = not-changed later;
        label_is = tried.label_is;
        room = tried.room;
        most_is = tried.most_is;
      }))
