-- The mirror of nodes that were read.
use Rattle.std.proofs.Common.{◌≡◌, ℕ, ◌<◌, Bool, List, [], length, map, refl, sym, ap, subst, ◌∙◌, if◌then◌else◌}
use Rattle.std.proofs.lemmas.List.{length-map}
use Rattle.mkt_base.specs.declared.event.Entry.{Entry}
use Rattle.mkt_base.specs.declared.journal.NodeState.{NodeState}
use Rattle.mkt_base.specs.declared.journal.NodeState.TheVariants.{Lost}
use Rattle.record_codec.specs.Entry.{spelling}
use Rattle.node_rules.specs.Nodes.{state_at}
use Rattle.mirror.specs.Mirrored.{AreMirrored, HoldsAs}
use Rattle.mirror.specs.Replicas.{Replica, Replicas, replica, states}
use Rattle.issue_machine.specs.History.{nodes_after}
use Rattle.issue_journal.specs.Reading.{IsMet, WasLeft, WasReadBack, WasTried, bare, is_gone, lose_if, lost_if, met}
use Rattle.issue_journal.proofs.Adopting.{by-gone, left-first, left-second, left-third, left_of, was-left}
use Rattle.issue_journal.proofs.Leaving.{first-later, second-later, third-later}

module _ (log : List Entry) (end : ℕ) (m : Replicas) (f s t : Replica) (read : WasReadBack log end m f s t) (nodes after : List NodeState) (nodes_are : nodes ≡ nodes_after log)
    (a b c : Bool) (ea : a ≡ is_gone end (state_at nodes 0) f) (eb : b ≡ is_gone end (state_at nodes 1) s) (ec : c ≡ is_gone end (state_at nodes 2) t) (after_is : after ≡ left_of a b c nodes) where
  abbrev journal : List (List ℕ)
  journal = map spelling log

  end-is : end ≡ length journal
  end-is = read.end_is ∙ sym (length-map log spelling)

  same : nodes ≡ states m
  same = nodes_are ∙ sym read.states_are

  gone-first : a ≡ is_gone end m.first.state f
  gone-first = ea ∙ ap (λ (ns : List NodeState). is_gone end (state_at ns 0) f) same

  gone-second : b ≡ is_gone end m.second.state s
  gone-second = eb ∙ ap (λ (ns : List NodeState). is_gone end (state_at ns 1) s) same

  gone-third : c ≡ is_gone end m.third.state t
  gone-third = ec ∙ ap (λ (ns : List NodeState). is_gone end (state_at ns 2) t) same

  state-first : state_at after 0 ≡ (if is_gone end m.first.state f then Lost else m.first.state)
  state-first =
      ap (λ (ns : List NodeState). state_at ns 0) (after_is ∙ ap (left_of a b c) same) ∙ left-first m.first.state m.second.state m.third.state a b c
      ∙ ap (λ (x : Bool). if x then Lost else m.first.state) gone-first

  state-second : state_at after 1 ≡ (if is_gone end m.second.state s then Lost else m.second.state)
  state-second =
      ap (λ (ns : List NodeState). state_at ns 1) (after_is ∙ ap (left_of a b c) same) ∙ left-second m.first.state m.second.state m.third.state a b c
      ∙ ap (λ (x : Bool). if x then Lost else m.second.state) gone-second

  state-third : state_at after 2 ≡ (if is_gone end m.third.state t then Lost else m.third.state)
  state-third =
      ap (λ (ns : List NodeState). state_at ns 2) (after_is ∙ ap (left_of a b c) same) ∙ left-third m.first.state m.second.state m.third.state a b c
      ∙ ap (λ (x : Bool). if x then Lost else m.third.state) gone-third

  holds : (L x : Replica) (z : NodeState) → HoldsAs journal L.state L.contents → WasTried end (bare L) x → z ≡ (if is_gone end L.state x then Lost else L.state) → HoldsAs journal z x.contents
  holds L x z was tried is = subst (λ (y : NodeState). HoldsAs journal y x.contents) (sym is) (by-gone journal end end-is L.state (bare L) x was tried (is_gone end L.state x) refl)

  pub met-mirrored : AreMirrored journal end (state_at after 0) (state_at after 1) (state_at after 2) f.contents s.contents t.contents
  met-mirrored = record {
    entries_are = end-is;
    first = holds m.first f (state_at after 0) read.mirrors.first read.first_tried state-first;
    second = holds m.second s (state_at after 1) read.mirrors.second read.second_tried state-second;
    third = holds m.third t (state_at after 2) read.mirrors.third read.third_tried state-third;
  }

  left : (L x mid : Replica) (z : NodeState) → HoldsAs journal L.state L.contents → WasTried end (bare L) x → (L.state ≡ Lost → 0 < end) → z ≡ (if is_gone end L.state x then Lost else L.state)
      → mid ≡ replica z x.contents x.spare x.label x.most x.faults → WasLeft journal (is_gone end L.state x) L mid
  left L x mid z was tried later is same_mid =
      was-left journal end end-is L.state (bare L) x was tried L mid later refl
      (same_mid ∙ ap (λ (y : NodeState). replica y x.contents x.spare x.label x.most x.faults) is)

  pub is-met : (mid : Replicas) (lost : List ℕ) → lost ≡ met a b c → mid.first ≡ replica (state_at after 0) f.contents f.spare f.label f.most f.faults
      → mid.second ≡ replica (state_at after 1) s.contents s.spare s.label s.most s.faults → mid.third ≡ replica (state_at after 2) t.contents t.spare t.label t.most t.faults → IsMet journal m mid lost
  is-met mid lost lost_is one two three = record {
    a = is_gone end m.first.state f;
    b = is_gone end m.second.state s;
    c = is_gone end m.third.state t;
    first = left m.first f mid.first (state_at after 0) read.mirrors.first read.first_tried (first-later m log end read.states_are read.end_is) state-first one;
    second = left m.second s mid.second (state_at after 1) read.mirrors.second read.second_tried (second-later m log end read.states_are read.end_is) state-second two;
    third = left m.third t mid.third (state_at after 2) read.mirrors.third read.third_tried (third-later m log end read.states_are read.end_is) state-third three;
    lost_is = lost_is ∙ ap (λ (x : Bool). met x b c) gone-first ∙ ap (λ (x : Bool). met (is_gone end m.first.state f) x c) gone-second
        ∙ ap (λ (x : Bool). met (is_gone end m.first.state f) (is_gone end m.second.state s) x) gone-third;
  }

-- the three tests in a row
pub left-chain : (nodes x y z : List NodeState) (a b c : Bool) (k l n : ℕ) → x ≡ lose_if a k nodes → y ≡ lose_if b l x → z ≡ lose_if c n y → k ≡ 0 → l ≡ 1 → n ≡ 2 → z ≡ left_of a b c nodes
left-chain nodes x y z a b c k l n one two three zero first second =
    three ∙ ap (λ (j : ℕ). lose_if c j y) second
    ∙ ap (lose_if c 2) (two ∙ ap (λ (j : ℕ). lose_if b j x) first)
    ∙ ap (λ (ns : List NodeState). lose_if c 2 (lose_if b 1 ns)) (one ∙ ap (λ (j : ℕ). lose_if a j nodes) zero)

pub met-chain : (start x y z : List ℕ) (a b c : Bool) (k l n : ℕ) → start ≡ [] → x ≡ lost_if a k start → y ≡ lost_if b l x → z ≡ lost_if c n y → k ≡ 0 → l ≡ 1 → n ≡ 2 → z ≡ met a b c
met-chain start x y z a b c k l n none one two three zero first second =
    three ∙ ap (λ (j : ℕ). lost_if c j y) second
    ∙ ap (lost_if c 2) (two ∙ ap (λ (j : ℕ). lost_if b j x) first)
    ∙ ap (λ (ks : List ℕ). lost_if c 2 (lost_if b 1 ks)) (one ∙ ap (λ (j : ℕ). lost_if a j start) zero ∙ ap (lost_if a 0) none)
