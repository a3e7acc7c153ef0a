-- An adoption from its beginning to its end.
use Rattle.std.proofs.Common.{◌≡◌, ℕ, ◌+◌, ◌<◌, ◌≤◌, ◌^◌, Bool, true, false, List, [], ◌++◌, length, map, max, None, refl, sym, ap, subst, ◌∙◌, arith}
use Rattle.std.proofs.lemmas.List.{length-map}
use Rattle.mkt_base.specs.declared.event.Entry.{Entry}
use Rattle.record_codec.specs.Entry.{spelling}
use Rattle.node_rules.specs.Nodes.{has_synchronised}
use Rattle.mirror.specs.Replicas.{Replica, Replicas, states}
use Rattle.mirror.specs.Calls.{Keeps}
use Rattle.memory_node.specs.declared.node.Label.{Label}
use Rattle.turn_writer.specs.Losses.{AreLosses, Grew, losses_from, with_lost}
use Rattle.turn_writer.specs.Writing.{HasLossRoom, LossesWritten}
use Rattle.issue_machine.specs.History.{FollowOn, entries_by, nodes_after}
use Rattle.issue_machine.specs.Journal.{MachineView}
use Rattle.issue_journal.specs.Adopted.{IsFor, IsGivenBack, WasAdopted}
use Rattle.issue_journal.specs.Inside.{IsWork, WorkView, issue_of, losses_at, room_of, work_of, worked}
use Rattle.issue_journal.specs.Issue.{Fixed, IsIssueNow, IsRunning, IssueNow, RoomView, Stands, fixed_in}
use Rattle.issue_book.specs.State.{Terms}
use Rattle.issue_journal.specs.Reading.{AreLeft, IsMet, WasReadBack, WasTried, bare, met}
use Rattle.issue_journal.proofs.AdoptedLemmas.{IsAdoptable, adopted-grew, adopted-stands, loss-room, losses-on, lost-are, lost-room, mid-states, own-few}
use Rattle.issue_journal.proofs.Leaving.{adoptable, back-read, first-later, left-are, longest-is, read-back, second-later, third-later}

same-fixed : (t t' : Terms) (p p' i i' c c' e e' : ℕ) (a a' b b' d d' : Label) → t ≡ t' → p ≡ p' → i ≡ i' → c ≡ c' → e ≡ e' → a ≡ a' → b ≡ b' → d ≡ d'
    → ◌≡◌ {A = Fixed} (record { terms = t; participants = p; issue = i; capacity = c; place = e; first = a; second = b; third = d })
    (record { terms = t'; participants = p'; issue = i'; capacity = c'; place = e'; first = a'; second = b'; third = d' })
same-fixed t t' p p' i i' c c' e e' a a' b b' d d' q r s u v x y z = cc

module _ (room : RoomView) (left : IssueNow) (is : IsFor room left) (m : MachineView) (old : List Entry) (space capacity issue : ℕ) (ready : IsWork m old space capacity) (none : old ≡ [])
    (room_is : room_of (work_of m old) issue ≡ room) (A B C : Replica) (first : A ≡ bare left.nodes.first) (second : B ≡ bare left.nodes.second) (third : C ≡ bare left.nodes.third)
    (end : ℕ) (end_is : end ≡ max (max (length A.contents) (length B.contents)) (length C.contents)) where
  pub end-long : end ≡ length left.entries
  end-long = end_is ∙ longest-is room left is A B C first second third

  capacity-room : capacity ≡ room.capacity
  capacity-room = ready.capacity_is ∙ ap (λ (r : RoomView). r.capacity) room_is

  pub end-fits : end ≤ space
  end-fits = omega (arith, end-long, is.issue.within, is.capacity, capacity-room, ready.spacious)

  pub ready-none : IsWork m [] space capacity
  ready-none = subst (λ (es : List Entry). IsWork m es space capacity) none ready

  pub left-here : AreLeft left.entries end A B C
  left-here = subst (λ (n : ℕ). AreLeft left.entries n A B C) (sym end-long) (left-are room left is A B C first second third)

  runs : IsRunning left
  runs = subst (Stands left) is.running is.issue.stands

  journal-is : end ≡ length (map spelling left.entries)
  journal-is = end-long ∙ sym (length-map left.entries spelling)

  -- the nodes where no record could be read any more
  pub back-first : (f : Replica) → WasTried end A f → (length f.contents ≡ end → ⊥) → IsGivenBack left.nodes.first f.contents f.spare f.label f.faults
  back-first f tried shorter =
      back-read (map spelling left.entries) end journal-is left.nodes.first f runs.mirrors.first (first-later left.nodes left.entries end runs.states_are end-long) (subst (λ (r : Replica). WasTried end r f) first tried) shorter

  pub back-second : (f : Replica) → WasTried end B f → (length f.contents ≡ end → ⊥) → IsGivenBack left.nodes.second f.contents f.spare f.label f.faults
  back-second f tried shorter =
      back-read (map spelling left.entries) end journal-is left.nodes.second f runs.mirrors.second (second-later left.nodes left.entries end runs.states_are end-long) (subst (λ (r : Replica). WasTried end r f) second tried) shorter

  pub back-third : (f : Replica) → WasTried end C f → (length f.contents ≡ end → ⊥) → IsGivenBack left.nodes.third f.contents f.spare f.label f.faults
  back-third f tried shorter =
      back-read (map spelling left.entries) end journal-is left.nodes.third f runs.mirrors.third (third-later left.nodes left.entries end runs.states_are end-long) (subst (λ (r : Replica). WasTried end r f) third tried) shorter

  module _ (log : List Entry) (log_is : log ≡ left.entries) where
    pub back-all : (f s t : Replica) → WasTried end A f → WasTried end B s → WasTried end C t → WasReadBack log end left.nodes f s t
    back-all f s t x y z = read-back room left is A B C first second third log end f s t log_is end-long x y z

    long : length log ≡ length left.entries
    long = ap length log_is

    pub log-few : length log ≤ 100000000
    log-few = omega (arith, long, is.issue.within, is.issue.small)

    pub log-within : length log ≤ capacity
    log-within = omega (arith, long, is.issue.within, is.capacity, capacity-room)

    pub able : IsAdoptable (work_of m log) left.nodes
    able = adoptable room left is (work_of m log) log_is (ap (λ (r : RoomView). r.participants) room_is) (ap (λ (r : RoomView). r.capacity) room_is)

    module _ (mid : Replicas) (lost : List ℕ) (is_met : IsMet (map spelling log) left.nodes mid lost) (mid_long : mid.length ≡ end) where
      mid-end : mid.length ≡ length log
      mid-end = mid_long ∙ end-long ∙ sym long

      pub whole-room : HasLossRoom lost mid
      whole-room = subst (λ (ks : List ℕ). HasLossRoom ks mid) (sym is_met.lost_is)
          (loss-room (work_of m log) left.nodes mid able is_met.a is_met.b is_met.c is_met.first is_met.second is_met.third mid-end)

      pub whole-own : length (entries_by 0 log) + 3 < 2 ^ 32
      whole-own = own-few (work_of m log) left.nodes mid able is_met.a is_met.b is_met.c is_met.first is_met.second is_met.third mid-end

      none-lost : (a b c : Bool) → length (met a b c) ≡ 0 → met a b c ≡ []
      none-lost false false false e = refl
      none-lost false false true e = absurd (omega (arith, e))
      none-lost false true false e = absurd (omega (arith, e))
      none-lost false true true e = absurd (omega (arith, e))
      none-lost true false false e = absurd (omega (arith, e))
      none-lost true false true e = absurd (omega (arith, e))
      none-lost true true false e = absurd (omega (arith, e))
      none-lost true true true e = absurd (omega (arith, e))

      pub whole-some : length lost ≡ 0 → has_synchronised (states mid) ≡ true
      whole-some empty =
          let nothing : met is_met.a is_met.b is_met.c ≡ [] = none-lost is_met.a is_met.b is_met.c (ap length (sym is_met.lost_is) ∙ empty) in
          ap has_synchronised (mid-states (work_of m log) left.nodes mid able is_met.a is_met.b is_met.c is_met.first is_met.second is_met.third mid-end ∙ ap (λ (ks : List ℕ). with_lost ks (states left.nodes)) nothing)
          ∙ able.running.some

      module _ (m' : Replicas) (own : ℕ) (own_is : own ≡ length (entries_by 0 log)) (all more : List ℕ) (all_is : all ≡ lost ++ more) (none_if : length lost ≡ 0 → more ≡ [])
          (written : LossesWritten own lost more mid m') where
        abbrev start : List ℕ
        start = met is_met.a is_met.b is_met.c

        all-start : all ≡ start ++ more
        all-start = all_is ∙ ap (λ (ks : List ℕ). ks ++ more) is_met.lost_is

        written-start : LossesWritten (length (entries_by 0 log)) start more mid m'
        written-start =
            subst (λ (n : ℕ). LossesWritten n start more mid m') own_is (subst (λ (ks : List ℕ). LossesWritten own ks more mid m') is_met.lost_is written)

        some-behind : (a b c : Bool) → (a ≡ true → 0 < length log) → (b ≡ true → 0 < length log) → (c ≡ true → 0 < length log) → (length (met a b c) ≡ 0 → more ≡ []) → 0 < length (met a b c ++ more) → 0 < length log
        some-behind true b c f g h e less = f refl
        some-behind false true c f g h e less = g refl
        some-behind false false true f g h e less = h refl
        some-behind false false false f g h e less = absurd (omega (arith, less, ap length (e refl)))

        some : 0 < length (start ++ more) → 0 < length log
        some = some-behind is_met.a is_met.b is_met.c
            (λ e. omega (arith, is_met.first.behind e, length-map log spelling)) (λ e. omega (arith, is_met.second.behind e, length-map log spelling)) (λ e. omega (arith, is_met.third.behind e, length-map log spelling))
            (λ e. none_if (ap length is_met.lost_is ∙ e))

        pub whole-follow : FollowOn m.participants log (losses_at (work_of m log) all)
        whole-follow = subst (λ (ks : List ℕ). FollowOn m.participants log (losses_at (work_of m log) ks)) (sym all-start)
            (losses-on (work_of m log) left.nodes mid able is_met.a is_met.b is_met.c is_met.first is_met.second is_met.third mid-end m' more some written-start)

        pub whole-fits : length log + length all ≤ m.issue.capacity
        whole-fits = subst (λ (ks : List ℕ). length log + length ks ≤ m.issue.capacity) (sym all-start)
            (lost-room (work_of m log) left.nodes mid able is_met.a is_met.b is_met.c is_met.first is_met.second is_met.third mid-end m' more some written-start)

        pub whole-stands : (w : WorkView) → w ≡ worked (losses_at (work_of m log) all) (work_of m log) → IsIssueNow (issue_of w m' None issue end)
        whole-stands w same =
            subst (λ (n : ℕ). IsIssueNow (issue_of w m' None issue n)) (sym (end-long ∙ sym long))
            (subst (λ (v : WorkView). IsIssueNow (issue_of v m' None issue (length log))) (sym same)
            (subst (λ (ks : List ℕ). IsIssueNow (issue_of (worked (losses_at (work_of m log) ks) (work_of m log)) m' None issue (length log))) (sym all-start)
            (adopted-stands (work_of m log) left.nodes mid able is_met.a is_met.b is_met.c is_met.first is_met.second is_met.third mid-end m' more some written-start issue)))

        grew : Grew all left.nodes m'
        grew = subst (λ (ks : List ℕ). Grew ks left.nodes m') (sym all-start)
            (adopted-grew (work_of m log) left.nodes mid able is_met.a is_met.b is_met.c is_met.first is_met.second is_met.third mid-end m' more some written-start)

        lost-all : AreLosses (nodes_after left.entries) all
        lost-all = subst (λ (es : List Entry). AreLosses (nodes_after es) all) log_is (subst (AreLosses (nodes_after log)) (sym all-start)
            (lost-are (work_of m log) left.nodes mid able is_met.a is_met.b is_met.c is_met.first is_met.second is_met.third mid-end m' more some written-start))

        label : (L md new : Replica) (n : ℕ) → md.label ≡ L.label → Keeps n md new → new.label ≡ L.label
        label L md new n one keeps = keeps.label ∙ one

        fixed-is : (w : WorkView) → w ≡ worked (losses_at (work_of m log) all) (work_of m log) → (issue_of w m' None issue end).fixed ≡ fixed_in room (length left.entries) left.fixed.first left.fixed.second left.fixed.third
        fixed-is w same =
            let terms : w.terms ≡ room.terms = ap (λ (v : WorkView). v.terms) same ∙ ap (λ (r : RoomView). r.terms) room_is in
            let participants : w.participants ≡ room.participants = ap (λ (v : WorkView). v.participants) same ∙ ap (λ (r : RoomView). r.participants) room_is in
            let number : issue ≡ room.issue = ap (λ (r : RoomView). r.issue) room_is in
            let fits : w.capacity ≡ room.capacity = ap (λ (v : WorkView). v.capacity) same ∙ ap (λ (r : RoomView). r.capacity) room_is in
            let one : m'.first.label ≡ left.fixed.first = label left.nodes.first mid.first m'.first m'.length is_met.first.label_is written.keeps.first ∙ is.issue.labels.first in
            let two : m'.second.label ≡ left.fixed.second = label left.nodes.second mid.second m'.second m'.length is_met.second.label_is written.keeps.second ∙ is.issue.labels.second in
            let three : m'.third.label ≡ left.fixed.third = label left.nodes.third mid.third m'.third m'.length is_met.third.label_is written.keeps.third ∙ is.issue.labels.third in
            same-fixed w.terms room.terms w.participants room.participants issue room.issue w.capacity room.capacity end (length left.entries)
            m'.first.label left.fixed.first m'.second.label left.fixed.second m'.third.label left.fixed.third terms participants number fits end-long one two three

        pub whole-adopted : (w : WorkView) → w ≡ worked (losses_at (work_of m log) all) (work_of m log) → WasAdopted room left (issue_of w m' None issue end)
        whole-adopted w same = record {
          losses = all;
          fixed = fixed-is w same;
          entries = ap (λ (v : WorkView). v.entries) same ∙ ap (λ (es : List Entry). es ++ losses_from (length es) (length (entries_by 0 es)) all) log_is;
          lost = lost-all;
          grew = grew;
          halt = refl;
        }
