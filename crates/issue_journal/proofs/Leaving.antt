-- An issue that was left: what its nodes tell, and how they are given back.
use Rattle.std.proofs.Common.{All, ltb, ◌≡◌, ◌≢◌, ℕ, ◌<◌, ◌≤◌, Bool, true, false, ◌||◌, List, [], ◌∷◌, length, map, max, inl, inr, ◌⊎◌, refl, sym, ap, subst, ◌∙◌, arith, if◌then◌else◌}
use Rattle.std.proofs.lemmas.Bool.{ltb-false, ltb-true}
use Rattle.std.proofs.lemmas.Bool.Decides.{nat_tests}
use Rattle.std.proofs.lemmas.List.{length-map, length-take-le}
use Rattle.mkt_base.specs.declared.event.Entry.{Entry}
use Rattle.mkt_base.specs.declared.journal.NodeState.{NodeState}
use Rattle.mkt_base.specs.declared.journal.NodeState.TheVariants.{Lost, Joining, Synchronised}
use Rattle.mkt_io.specs.Faults.{Rises}
use Rattle.record_codec.specs.Entry.{IsEntry, spelling}
use Rattle.node_rules.specs.Nodes.{is_synchronised}
use Rattle.mirror.specs.Calls.{Keeps}
use Rattle.mirror.specs.Mirrored.{HoldsAs, Mirrors}
use Rattle.mirror.specs.Replicas.{Replica, Replicas, states}
use Rattle.turn_writer.specs.Losses.{GrewBy}
use Rattle.turn_writer.specs.Writing.{HasFailed, IsRoomy}
use Rattle.issue_machine.specs.History.{IsHistory, nodes_after}
use Rattle.issue_journal.specs.Adopted.{IsFor, IsGivenBack}
use Rattle.issue_journal.specs.Inside.{WorkView}
use Rattle.issue_journal.specs.Issue.{IsRunning, IssueNow, RoomView, Stands}
use Rattle.issue_journal.specs.Reading.{AreLeft, HoldsOf, WasLeft, WasReadBack, WasTried, bare}
use Rattle.issue_journal.proofs.Adopting.{gone-failed, not-untouched}
use Rattle.issue_journal.proofs.AdoptedLemmas.{IsAdoptable}
use Rattle.issue_journal.proofs.ReadLemmas.{holds-of, rises-before, spelled-history}

-- ---- lengths

holds-most : (s : NodeState) (journal contents : List (List ℕ)) → HoldsAs journal s contents → length contents ≤ length journal
holds-most Synchronised journal contents holds = omega (arith, ap length holds)
holds-most (Joining n) journal contents holds = omega (arith, ap length holds.0, length-take-le n journal (omega (arith, holds.1)), holds.1)
holds-most Lost journal contents holds = omega (arith, ap length holds)

holds-whole : (s : NodeState) (journal contents : List (List ℕ)) → is_synchronised s ≡ true → HoldsAs journal s contents → length contents ≡ length journal
holds-whole Synchronised journal contents sync holds = ap length holds
holds-whole (Joining n) journal contents sync holds = absurd (cc)
holds-whole Lost journal contents sync holds = absurd (cc)

greatest : (x y z n : ℕ) (a b c : Bool) → x ≤ n → y ≤ n → z ≤ n → (a ≡ true → x ≡ n) → (b ≡ true → y ≡ n) → (c ≡ true → z ≡ n) → (a || b || c) ≡ true → max (max x y) z ≡ n
greatest x y z n true b c p q r f g h e = let one : x ≡ n = f refl in grind (arith, nat_tests)
greatest x y z n false true c p q r f g h e = let one : y ≡ n = g refl in grind (arith, nat_tests)
greatest x y z n false false true p q r f g h e = let one : z ≡ n = h refl in grind (arith, nat_tests)
greatest x y z n false false false p q r f g h e = absurd (cc)

-- ---- an issue that was left, and the room

module _ (room : RoomView) (left : IssueNow) (is : IsFor room left) where
  running : IsRunning left
  running = subst (Stands left) is.running is.issue.stands

  journal-long : length (map spelling left.entries) ≡ length left.entries
  journal-long = length-map left.entries spelling

  holds-node : (L A : Replica) → HoldsAs (map spelling left.entries) L.state L.contents → A ≡ bare L → HoldsOf left.entries (length left.entries) A
  holds-node L A holds same long =
      let contents : A.contents ≡ L.contents = ap (λ (r : Replica). r.contents) same in
      contents ∙ holds-of L.state (map spelling left.entries) L.contents holds (ap length (sym contents) ∙ long ∙ sym journal-long)

  module _ (A B C : Replica) (first : A ≡ bare left.nodes.first) (second : B ≡ bare left.nodes.second) (third : C ≡ bare left.nodes.third) where
    pub left-are : AreLeft left.entries (length left.entries) A B C
    left-are = record {
      length_is = refl;
      spelled = spelled-history left.fixed.participants left.entries is.issue.history is.issue.numbers;
      first_holds = holds-node left.nodes.first A running.mirrors.first first;
      second_holds = holds-node left.nodes.second B running.mirrors.second second;
      third_holds = holds-node left.nodes.third C running.mirrors.third third;
    }

    pub longest-is : max (max (length A.contents) (length B.contents)) (length C.contents) ≡ length left.entries
    longest-is =
        let journal = map spelling left.entries in
        let a : length A.contents ≡ length left.nodes.first.contents = ap (λ (r : Replica). length r.contents) first in
        let b : length B.contents ≡ length left.nodes.second.contents = ap (λ (r : Replica). length r.contents) second in
        let c : length C.contents ≡ length left.nodes.third.contents = ap (λ (r : Replica). length r.contents) third in
        let x : length left.nodes.first.contents ≤ length journal = holds-most left.nodes.first.state journal left.nodes.first.contents running.mirrors.first in
        let y : length left.nodes.second.contents ≤ length journal = holds-most left.nodes.second.state journal left.nodes.second.contents running.mirrors.second in
        let z : length left.nodes.third.contents ≤ length journal = holds-most left.nodes.third.state journal left.nodes.third.contents running.mirrors.third in
        greatest (length A.contents) (length B.contents) (length C.contents) (length left.entries)
        (is_synchronised left.nodes.first.state) (is_synchronised left.nodes.second.state) (is_synchronised left.nodes.third.state)
        (omega (arith, a, x, journal-long)) (omega (arith, b, y, journal-long)) (omega (arith, c, z, journal-long))
        (λ s. a ∙ holds-whole left.nodes.first.state journal left.nodes.first.contents s running.mirrors.first ∙ journal-long)
        (λ s. b ∙ holds-whole left.nodes.second.state journal left.nodes.second.contents s running.mirrors.second ∙ journal-long)
        (λ s. c ∙ holds-whole left.nodes.third.state journal left.nodes.third.contents s running.mirrors.third ∙ journal-long)
        running.some

    -- after all was read
    pub read-back : (log : List Entry) (end : ℕ) (f s t : Replica) → log ≡ left.entries → end ≡ length left.entries → WasTried end A f → WasTried end B s → WasTried end C t
        → WasReadBack log end left.nodes f s t
    read-back log end f s t same long x y z =
        subst (λ (es : List Entry). WasReadBack es end left.nodes f s t) (sym same) (record {
          mirrors = running.mirrors;
          states_are = running.states_are;
          end_is = long;
          first_tried = subst (λ (r : Replica). WasTried end r f) first x;
          second_tried = subst (λ (r : Replica). WasTried end r s) second y;
          third_tried = subst (λ (r : Replica). WasTried end r t) third z;
        })

  capacity-is : (w : WorkView) → w.capacity ≡ room.capacity → w.capacity ≡ left.fixed.capacity
  capacity-is w same = same ∙ sym is.capacity

  -- its working list and nodes
  pub adoptable : (w : WorkView) → w.entries ≡ left.entries → w.participants ≡ room.participants → w.capacity ≡ room.capacity → IsAdoptable w left.nodes
  adoptable w entries participants capacity =
      let full : w.capacity ≡ left.fixed.capacity = capacity-is w capacity in
      let long : length w.entries ≡ length left.entries = ap length entries in
      record {
        history = subst (λ (n : ℕ). IsHistory n w.entries) (is.participants ∙ sym participants) (subst (IsHistory left.fixed.participants) (sym entries) is.issue.history);
        numbers = subst (All IsEntry) (sym entries) is.issue.numbers;
        small = omega (arith, full, is.issue.small);
        roomy = subst (λ (n : ℕ). IsRoomy n left.nodes) (sym full) is.issue.roomy;
        running = record {
          mirrors = subst (λ (es : List Entry). Mirrors (map spelling es) left.nodes) (sym entries) running.mirrors;
          states_are = running.states_are ∙ ap nodes_after (sym entries);
          some = running.some;
          fits = omega (arith, running.fits, long, full);
          first_most = omega (arith, running.first_most, long);
          second_most = omega (arith, running.second_most, long);
          third_most = omega (arith, running.third_most, long);
        };
      }

-- ---- nodes that are given back

-- a node is lost only behind an entry
lost-later : (s t u : NodeState) (entries : List Entry) → ◌≡◌ {A = List NodeState} (s ∷ t ∷ u ∷ []) (nodes_after entries) → (s ≡ Lost) ⊎ ((t ≡ Lost) ⊎ (u ≡ Lost)) → 0 < length entries
unfolding nodes_after
lost-later s t u [] is (inl lost) = absurd (cc)
lost-later s t u [] is (inr (inl lost)) = absurd (cc)
lost-later s t u [] is (inr (inr lost)) = absurd (cc)
lost-later s t u (e ∷ es) is lost = omega arith

module _ (m : Replicas) (entries : List Entry) (end : ℕ) (is : states m ≡ nodes_after entries) (long : end ≡ length entries) where
  pub first-later : m.first.state ≡ Lost → 0 < end
  first-later lost = omega (arith, long, lost-later m.first.state m.second.state m.third.state entries is (inl lost))

  pub second-later : m.second.state ≡ Lost → 0 < end
  second-later lost = omega (arith, long, lost-later m.first.state m.second.state m.third.state entries is (inr (inl lost)))

  pub third-later : m.third.state ≡ Lost → 0 < end
  third-later lost = omega (arith, long, lost-later m.first.state m.second.state m.third.state entries is (inr (inr lost)))

module _ (journal : List (List ℕ)) (end : ℕ) (end_is : end ≡ length journal) (L now : Replica) (holds : HoldsAs journal L.state L.contents) (later : L.state ≡ Lost → 0 < end)
    (tried : WasTried end (bare L) now) (shorter : length now.contents ≡ end → ⊥) where
  failed : L.state ≡ Synchronised → (now.contents ≡ []) × Rises L.faults now.faults
  failed sync = gone-failed journal end end_is L.state (bare L) now holds tried sync shorter

  kept-by : (s : NodeState) → L.state ≡ s → ((now.contents ≡ L.contents) × (now.spare ≡ L.spare) × (now.faults ≡ L.faults)) ⊎ ((now.contents ≡ []) × Rises L.faults now.faults)
  kept-by Synchronised sync = inr (failed sync)
  kept-by (Joining n) joins = inl (same-parts (not-untouched journal end end_is L.state (bare L) now holds tried later (λ e. absurd (cc))))
    where
      same-parts : now ≡ bare L → (now.contents ≡ L.contents) × (now.spare ≡ L.spare) × (now.faults ≡ L.faults)
      same-parts e = (ap (λ (r : Replica). r.contents) e, ap (λ (r : Replica). r.spare) e, ap (λ (r : Replica). r.faults) e)
  kept-by Lost lost = inl (same-parts (not-untouched journal end end_is L.state (bare L) now holds tried later (λ e. absurd (cc))))
    where
      same-parts : now ≡ bare L → (now.contents ≡ L.contents) × (now.spare ≡ L.spare) × (now.faults ≡ L.faults)
      same-parts e = (ap (λ (r : Replica). r.contents) e, ap (λ (r : Replica). r.spare) e, ap (λ (r : Replica). r.faults) e)

  -- where no record could be read any more
  pub back-read : IsGivenBack L now.contents now.spare now.label now.faults
  back-read = record { kept = kept-by L.state refl; label_is = tried.label_is; room = tried.room; failed = failed }

rises-one : (old new : ℕ) → GrewBy 1 old new → Rises old new
rises-one old new grew = by (ltb old new) refl
  where
    by : (b : Bool) → ltb old new ≡ b → Rises old new
    by true less = inl (ltb-true old new less)
    by false more = inr (omega (arith, grew, ltb-false old new more))

module _ (journal : List (List ℕ)) (gone : Bool) (L mid final : Replica) (n : ℕ) (left : WasLeft journal gone L mid) (down : HasFailed mid final) (keeps : Keeps n mid final) where
  failed-by : (b : Bool) → gone ≡ b → L.state ≡ Synchronised → (final.contents ≡ []) × Rises L.faults final.faults
  failed-by true is sync =
      let lost : mid.state ≡ Lost = left.state_is ∙ ap (λ (b : Bool). if b then Lost else L.state) is in
      let same : final ≡ mid = down.untouched (λ e. absurd (cc)) in
      let empty : mid.contents ≡ [] = subst (λ (s : NodeState). HoldsAs journal s mid.contents) lost left.holds in
      let grew : GrewBy 1 L.faults mid.faults = subst (λ (b : Bool). GrewBy (if b then 1 else 0) L.faults mid.faults) is left.grew in
      (ap (λ (r : Replica). r.contents) same ∙ empty, subst (λ (r : Replica). Rises L.faults r.faults) (sym same) (rises-one L.faults mid.faults grew))
  failed-by false is sync =
      let here : mid.state ≡ Synchronised = left.state_is ∙ ap (λ (b : Bool). if b then Lost else L.state) is ∙ sync in
      (down.empty here, rises-before L.faults mid.faults final.faults left.count (down.rose here))

  same-final : L.state ≢ Synchronised → final ≡ L
  same-final other =
      let same : mid ≡ L = left.untouched other in
      down.untouched (λ e. other (ap (λ (r : Replica). r.state) (sym same) ∙ e)) ∙ same

  kept-final : (s : NodeState) → L.state ≡ s → ((final.contents ≡ L.contents) × (final.spare ≡ L.spare) × (final.faults ≡ L.faults)) ⊎ ((final.contents ≡ []) × Rises L.faults final.faults)
  kept-final Synchronised sync = inr (failed-by gone refl sync)
  kept-final (Joining k) joins = inl (parts (same-final (λ e. absurd (cc))))
    where
      parts : final ≡ L → (final.contents ≡ L.contents) × (final.spare ≡ L.spare) × (final.faults ≡ L.faults)
      parts e = (ap (λ (r : Replica). r.contents) e, ap (λ (r : Replica). r.spare) e, ap (λ (r : Replica). r.faults) e)
  kept-final Lost lost = inl (parts (same-final (λ e. absurd (cc))))
    where
      parts : final ≡ L → (final.contents ≡ L.contents) × (final.spare ≡ L.spare) × (final.faults ≡ L.faults)
      parts e = (ap (λ (r : Replica). r.contents) e, ap (λ (r : Replica). r.spare) e, ap (λ (r : Replica). r.faults) e)

  -- where the losses could not be written
  pub back-written : IsGivenBack L final.contents final.spare final.label final.faults
  back-written = record {
    kept = kept-final L.state refl;
    label_is = keeps.label ∙ left.label_is;
    room = keeps.room ∙ left.room;
    failed = failed-by gone refl;
  }
