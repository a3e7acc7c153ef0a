use Rattle.std.proofs.Common.{◌≡◌, ℕ, ◌+◌, ◌≤◌, List, [], length, map, refl, sym, ap, subst, ◌∙◌, arith}
use Rattle.mkt_base.specs.declared.event.Entry.{Entry}
use Rattle.record_codec.specs.Entry.{spelling}
use Rattle.mirror.specs.Replicas.{Replica, Replicas}
use Rattle.issue_machine.specs.History.{FollowOn, entries_by}
use Rattle.issue_journal.specs.Adopted.{IsGivenBack}
use Rattle.issue_journal.specs.Inside.{WorkView, losses_at, room_of, work_of, worked}
use Rattle.issue_journal.specs.Issue.{IssueNow}
use Rattle.issue_journal.specs.Reading.{IsMet, WasReadBack, bare, seen}
use Rattle.issue_journal.proofs.Leaving.{back-written}
use Rattle.issue_journal.proofs.Whole.{able, back-all, back-first, back-second, back-third, end-fits, left-here, log-few, log-within, whole-adopted, whole-fits, whole-follow, whole-own, whole-room, whole-some, whole-stands}
use Rattle.issue_journal.proofs.issue.Issue.adopt.Goals as goal

pub read_all-requires-clause-room : goal.read_all-requires-clause-room
read_all-requires-clause-room g c =
    let left : IssueNow = c.requires.0 in
    let is = c.requires.1 in
    let n1 = c.requires.2 in
    let n2 = c.requires.3 in
    let n3 = c.requires.4 in
    let m = c.work.inside.machine in
    let old = c.work.inside.log.items in
    let none : old ≡ [] = ap (λ (w : WorkView). w.entries) c.work.view_is ∙ c.room.invariant.0 in
    let room_is : room_of (work_of m old) c.room.inside.issue ≡ c.args.room = ap (λ (w : WorkView). room_of w c.room.inside.issue) c.work.view_is ∙ c.room.view_is in
    let A : Replica = seen (g.N.MemoryNode.contents c.args.a) (g.N.MemoryNode.spare c.args.a) (g.N.MemoryNode.label c.args.a) (g.N.MemoryNode.most c.args.a) (g.N.MemoryNode.faults c.args.a) in
    let B : Replica = seen (g.N.MemoryNode.contents c.args.b) (g.N.MemoryNode.spare c.args.b) (g.N.MemoryNode.label c.args.b) (g.N.MemoryNode.most c.args.b) (g.N.MemoryNode.faults c.args.b) in
    let C : Replica = seen (g.N.MemoryNode.contents c.args.c) (g.N.MemoryNode.spare c.args.c) (g.N.MemoryNode.label c.args.c) (g.N.MemoryNode.most c.args.c) (g.N.MemoryNode.faults c.args.c) in
    let first : A ≡ bare left.nodes.first = sym (ap bare n1) in
    let second : B ≡ bare left.nodes.second = sym (ap bare n2) in
    let third : C ≡ bare left.nodes.third = sym (ap bare n3) in
    end-fits c.args.room left is m old _ c.work.inside.capacity c.room.inside.issue c.work.invariant none room_is A B C first second third c.longest-end.result c.longest-end.ensures

pub returns-then-not-read_all-clause-given_up : goal.returns-then-not-read_all-clause-given_up
returns-then-not-read_all-clause-given_up g c = λ left is n1 n2 n3.
    let m = c.work.inside.machine in
    let old = c.work.inside.log.items in
    let none : old ≡ [] = ap (λ (w : WorkView). w.entries) c.work.view_is ∙ c.room.invariant.0 in
    let room_is : room_of (work_of m old) c.room.inside.issue ≡ c.args.room = ap (λ (w : WorkView). room_of w c.room.inside.issue) c.work.view_is ∙ c.room.view_is in
    let A : Replica = seen (g.N.MemoryNode.contents c.args.a) (g.N.MemoryNode.spare c.args.a) (g.N.MemoryNode.label c.args.a) (g.N.MemoryNode.most c.args.a) (g.N.MemoryNode.faults c.args.a) in
    let B : Replica = seen (g.N.MemoryNode.contents c.args.b) (g.N.MemoryNode.spare c.args.b) (g.N.MemoryNode.label c.args.b) (g.N.MemoryNode.most c.args.b) (g.N.MemoryNode.faults c.args.b) in
    let C : Replica = seen (g.N.MemoryNode.contents c.args.c) (g.N.MemoryNode.spare c.args.c) (g.N.MemoryNode.label c.args.c) (g.N.MemoryNode.most c.args.c) (g.N.MemoryNode.faults c.args.c) in
    let first : A ≡ bare left.nodes.first = sym (ap bare n1) in
    let second : B ≡ bare left.nodes.second = sym (ap bare n2) in
    let third : C ≡ bare left.nodes.third = sym (ap bare n3) in
    let here = left-here c.args.room left is m old _ c.work.inside.capacity c.room.inside.issue c.work.invariant none room_is A B C first second third c.longest-end.result c.longest-end.ensures in (
      subst (λ (r : Replica). IsGivenBack left.nodes.first r.contents r.spare r.label r.faults) (sym c.first.view_is)
          (back-first c.args.room left is m old _ c.work.inside.capacity c.room.inside.issue c.work.invariant none room_is A B C first second third c.longest-end.result c.longest-end.ensures c.read_all.new.first c.read_all.ensures.first_tried (c.if-not-read_all.ensures.first_none refl left.entries here)),
      subst (λ (r : Replica). IsGivenBack left.nodes.second r.contents r.spare r.label r.faults) (sym c.second.view_is)
          (back-second c.args.room left is m old _ c.work.inside.capacity c.room.inside.issue c.work.invariant none room_is A B C first second third c.longest-end.result c.longest-end.ensures c.read_all.new.second c.read_all.ensures.second_tried (c.if-not-read_all.ensures.second_none refl left.entries here)),
      subst (λ (r : Replica). IsGivenBack left.nodes.third r.contents r.spare r.label r.faults) (sym c.third.view_is)
          (back-third c.args.room left is m old _ c.work.inside.capacity c.room.inside.issue c.work.invariant none room_is A B C first second third c.longest-end.result c.longest-end.ensures c.read_all.new.third c.read_all.ensures.third_tried (c.if-not-read_all.ensures.third_none refl left.entries here)),
    )

pub system_entries-own-requires : goal.system_entries-own-requires
system_entries-own-requires g c =
    let left : IssueNow = c.requires.0 in
    let is = c.requires.1 in
    let n1 = c.requires.2 in
    let n2 = c.requires.3 in
    let n3 = c.requires.4 in
    let m = c.work.inside.machine in
    let old = c.work.inside.log.items in
    let none : old ≡ [] = ap (λ (w : WorkView). w.entries) c.work.view_is ∙ c.room.invariant.0 in
    let room_is : room_of (work_of m old) c.room.inside.issue ≡ c.args.room = ap (λ (w : WorkView). room_of w c.room.inside.issue) c.work.view_is ∙ c.room.view_is in
    let A : Replica = seen (g.N.MemoryNode.contents c.args.a) (g.N.MemoryNode.spare c.args.a) (g.N.MemoryNode.label c.args.a) (g.N.MemoryNode.most c.args.a) (g.N.MemoryNode.faults c.args.a) in
    let B : Replica = seen (g.N.MemoryNode.contents c.args.b) (g.N.MemoryNode.spare c.args.b) (g.N.MemoryNode.label c.args.b) (g.N.MemoryNode.most c.args.b) (g.N.MemoryNode.faults c.args.b) in
    let C : Replica = seen (g.N.MemoryNode.contents c.args.c) (g.N.MemoryNode.spare c.args.c) (g.N.MemoryNode.label c.args.c) (g.N.MemoryNode.most c.args.c) (g.N.MemoryNode.faults c.args.c) in
    let first : A ≡ bare left.nodes.first = sym (ap bare n1) in
    let second : B ≡ bare left.nodes.second = sym (ap bare n2) in
    let third : C ≡ bare left.nodes.third = sym (ap bare n3) in
    let log = c.read_all.new.log.items in
    let log_is : log ≡ left.entries = c.if-not-read_all.ensures.read refl left.entries (left-here c.args.room left is m old _ c.work.inside.capacity c.room.inside.issue c.work.invariant none room_is A B C first second third c.longest-end.result c.longest-end.ensures) in
    omega (arith, ap length c.deref.ensures.value, log-few c.args.room left is m old _ c.work.inside.capacity c.room.inside.issue c.work.invariant none room_is A B C first second third c.longest-end.result c.longest-end.ensures log log_is)

pub mirror_of-mirror-requires-clause-read : goal.mirror_of-mirror-requires-clause-read
mirror_of-mirror-requires-clause-read g c =
    let left : IssueNow = c.requires.0 in
    let is = c.requires.1 in
    let n1 = c.requires.2 in
    let n2 = c.requires.3 in
    let n3 = c.requires.4 in
    let m = c.work.inside.machine in
    let old = c.work.inside.log.items in
    let none : old ≡ [] = ap (λ (w : WorkView). w.entries) c.work.view_is ∙ c.room.invariant.0 in
    let room_is : room_of (work_of m old) c.room.inside.issue ≡ c.args.room = ap (λ (w : WorkView). room_of w c.room.inside.issue) c.work.view_is ∙ c.room.view_is in
    let A : Replica = seen (g.N.MemoryNode.contents c.args.a) (g.N.MemoryNode.spare c.args.a) (g.N.MemoryNode.label c.args.a) (g.N.MemoryNode.most c.args.a) (g.N.MemoryNode.faults c.args.a) in
    let B : Replica = seen (g.N.MemoryNode.contents c.args.b) (g.N.MemoryNode.spare c.args.b) (g.N.MemoryNode.label c.args.b) (g.N.MemoryNode.most c.args.b) (g.N.MemoryNode.faults c.args.b) in
    let C : Replica = seen (g.N.MemoryNode.contents c.args.c) (g.N.MemoryNode.spare c.args.c) (g.N.MemoryNode.label c.args.c) (g.N.MemoryNode.most c.args.c) (g.N.MemoryNode.faults c.args.c) in
    let first : A ≡ bare left.nodes.first = sym (ap bare n1) in
    let second : B ≡ bare left.nodes.second = sym (ap bare n2) in
    let third : C ≡ bare left.nodes.third = sym (ap bare n3) in
    let log = c.read_all.new.log.items in
    let log_is : log ≡ left.entries = c.if-not-read_all.ensures.read refl left.entries (left-here c.args.room left is m old _ c.work.inside.capacity c.room.inside.issue c.work.invariant none room_is A B C first second third c.longest-end.result c.longest-end.ensures) in (
      left.nodes,
      subst (λ (es : List Entry). WasReadBack es c.longest-end.result left.nodes c.read_all.new.first c.read_all.new.second c.read_all.new.third) (sym c.deref-2.ensures.value)
          (back-all c.args.room left is m old _ c.work.inside.capacity c.room.inside.issue c.work.invariant none room_is A B C first second third c.longest-end.result c.longest-end.ensures log log_is c.read_all.new.first c.read_all.new.second c.read_all.new.third c.read_all.ensures.first_tried c.read_all.ensures.second_tried c.read_all.ensures.third_tried),
    )

pub write_met-requires-clause-room : goal.write_met-requires-clause-room
write_met-requires-clause-room g c =
    let left : IssueNow = c.requires.0 in
    let is = c.requires.1 in
    let n1 = c.requires.2 in
    let n2 = c.requires.3 in
    let n3 = c.requires.4 in
    let m = c.work.inside.machine in
    let old = c.work.inside.log.items in
    let none : old ≡ [] = ap (λ (w : WorkView). w.entries) c.work.view_is ∙ c.room.invariant.0 in
    let room_is : room_of (work_of m old) c.room.inside.issue ≡ c.args.room = ap (λ (w : WorkView). room_of w c.room.inside.issue) c.work.view_is ∙ c.room.view_is in
    let A : Replica = seen (g.N.MemoryNode.contents c.args.a) (g.N.MemoryNode.spare c.args.a) (g.N.MemoryNode.label c.args.a) (g.N.MemoryNode.most c.args.a) (g.N.MemoryNode.faults c.args.a) in
    let B : Replica = seen (g.N.MemoryNode.contents c.args.b) (g.N.MemoryNode.spare c.args.b) (g.N.MemoryNode.label c.args.b) (g.N.MemoryNode.most c.args.b) (g.N.MemoryNode.faults c.args.b) in
    let C : Replica = seen (g.N.MemoryNode.contents c.args.c) (g.N.MemoryNode.spare c.args.c) (g.N.MemoryNode.label c.args.c) (g.N.MemoryNode.most c.args.c) (g.N.MemoryNode.faults c.args.c) in
    let first : A ≡ bare left.nodes.first = sym (ap bare n1) in
    let second : B ≡ bare left.nodes.second = sym (ap bare n2) in
    let third : C ≡ bare left.nodes.third = sym (ap bare n3) in
    let log = c.read_all.new.log.items in
    let log_is : log ≡ left.entries = c.if-not-read_all.ensures.read refl left.entries (left-here c.args.room left is m old _ c.work.inside.capacity c.room.inside.issue c.work.invariant none room_is A B C first second third c.longest-end.result c.longest-end.ensures) in
    let back = back-all c.args.room left is m old _ c.work.inside.capacity c.room.inside.issue c.work.invariant none room_is A B C first second third c.longest-end.result c.longest-end.ensures log log_is c.read_all.new.first c.read_all.new.second c.read_all.new.third c.read_all.ensures.first_tried c.read_all.ensures.second_tried c.read_all.ensures.third_tried in
    let mid : Replicas = c.mirror_of-mirror.result.0 in
    let lost : List ℕ = c.mirror_of-mirror.result.1 in
    let is_met : IsMet (map spelling log) left.nodes mid lost = subst (λ (es : List Entry). IsMet (map spelling es) left.nodes mid lost) c.deref-2.ensures.value
    (c.mirror_of-mirror.ensures.met left.nodes (subst (λ (es : List Entry). WasReadBack es c.longest-end.result left.nodes c.read_all.new.first c.read_all.new.second c.read_all.new.third) (sym c.deref-2.ensures.value) back)) in
    whole-room c.args.room left is m old _ c.work.inside.capacity c.room.inside.issue c.work.invariant none room_is A B C first second third c.longest-end.result c.longest-end.ensures log log_is mid lost is_met c.mirror_of-mirror.ensures.length

pub write_met-requires-clause-own : goal.write_met-requires-clause-own
write_met-requires-clause-own g c =
    let left : IssueNow = c.requires.0 in
    let is = c.requires.1 in
    let n1 = c.requires.2 in
    let n2 = c.requires.3 in
    let n3 = c.requires.4 in
    let m = c.work.inside.machine in
    let old = c.work.inside.log.items in
    let none : old ≡ [] = ap (λ (w : WorkView). w.entries) c.work.view_is ∙ c.room.invariant.0 in
    let room_is : room_of (work_of m old) c.room.inside.issue ≡ c.args.room = ap (λ (w : WorkView). room_of w c.room.inside.issue) c.work.view_is ∙ c.room.view_is in
    let A : Replica = seen (g.N.MemoryNode.contents c.args.a) (g.N.MemoryNode.spare c.args.a) (g.N.MemoryNode.label c.args.a) (g.N.MemoryNode.most c.args.a) (g.N.MemoryNode.faults c.args.a) in
    let B : Replica = seen (g.N.MemoryNode.contents c.args.b) (g.N.MemoryNode.spare c.args.b) (g.N.MemoryNode.label c.args.b) (g.N.MemoryNode.most c.args.b) (g.N.MemoryNode.faults c.args.b) in
    let C : Replica = seen (g.N.MemoryNode.contents c.args.c) (g.N.MemoryNode.spare c.args.c) (g.N.MemoryNode.label c.args.c) (g.N.MemoryNode.most c.args.c) (g.N.MemoryNode.faults c.args.c) in
    let first : A ≡ bare left.nodes.first = sym (ap bare n1) in
    let second : B ≡ bare left.nodes.second = sym (ap bare n2) in
    let third : C ≡ bare left.nodes.third = sym (ap bare n3) in
    let log = c.read_all.new.log.items in
    let log_is : log ≡ left.entries = c.if-not-read_all.ensures.read refl left.entries (left-here c.args.room left is m old _ c.work.inside.capacity c.room.inside.issue c.work.invariant none room_is A B C first second third c.longest-end.result c.longest-end.ensures) in
    let back = back-all c.args.room left is m old _ c.work.inside.capacity c.room.inside.issue c.work.invariant none room_is A B C first second third c.longest-end.result c.longest-end.ensures log log_is c.read_all.new.first c.read_all.new.second c.read_all.new.third c.read_all.ensures.first_tried c.read_all.ensures.second_tried c.read_all.ensures.third_tried in
    let mid : Replicas = c.mirror_of-mirror.result.0 in
    let lost : List ℕ = c.mirror_of-mirror.result.1 in
    let is_met : IsMet (map spelling log) left.nodes mid lost = subst (λ (es : List Entry). IsMet (map spelling es) left.nodes mid lost) c.deref-2.ensures.value
    (c.mirror_of-mirror.ensures.met left.nodes (subst (λ (es : List Entry). WasReadBack es c.longest-end.result left.nodes c.read_all.new.first c.read_all.new.second c.read_all.new.third) (sym c.deref-2.ensures.value) back)) in
    let own_is : c.system_entries-own.result ≡ length (entries_by 0 log) = c.system_entries-own.ensures ∙ ap (λ (es : List Entry). length (entries_by 0 es)) c.deref.ensures.value in
    omega (arith, own_is, whole-own c.args.room left is m old _ c.work.inside.capacity c.room.inside.issue c.work.invariant none room_is A B C first second third c.longest-end.result c.longest-end.ensures log log_is mid lost is_met c.mirror_of-mirror.ensures.length)

pub write_met-requires-clause-some : goal.write_met-requires-clause-some
write_met-requires-clause-some g c =
    let left : IssueNow = c.requires.0 in
    let is = c.requires.1 in
    let n1 = c.requires.2 in
    let n2 = c.requires.3 in
    let n3 = c.requires.4 in
    let m = c.work.inside.machine in
    let old = c.work.inside.log.items in
    let none : old ≡ [] = ap (λ (w : WorkView). w.entries) c.work.view_is ∙ c.room.invariant.0 in
    let room_is : room_of (work_of m old) c.room.inside.issue ≡ c.args.room = ap (λ (w : WorkView). room_of w c.room.inside.issue) c.work.view_is ∙ c.room.view_is in
    let A : Replica = seen (g.N.MemoryNode.contents c.args.a) (g.N.MemoryNode.spare c.args.a) (g.N.MemoryNode.label c.args.a) (g.N.MemoryNode.most c.args.a) (g.N.MemoryNode.faults c.args.a) in
    let B : Replica = seen (g.N.MemoryNode.contents c.args.b) (g.N.MemoryNode.spare c.args.b) (g.N.MemoryNode.label c.args.b) (g.N.MemoryNode.most c.args.b) (g.N.MemoryNode.faults c.args.b) in
    let C : Replica = seen (g.N.MemoryNode.contents c.args.c) (g.N.MemoryNode.spare c.args.c) (g.N.MemoryNode.label c.args.c) (g.N.MemoryNode.most c.args.c) (g.N.MemoryNode.faults c.args.c) in
    let first : A ≡ bare left.nodes.first = sym (ap bare n1) in
    let second : B ≡ bare left.nodes.second = sym (ap bare n2) in
    let third : C ≡ bare left.nodes.third = sym (ap bare n3) in
    let log = c.read_all.new.log.items in
    let log_is : log ≡ left.entries = c.if-not-read_all.ensures.read refl left.entries (left-here c.args.room left is m old _ c.work.inside.capacity c.room.inside.issue c.work.invariant none room_is A B C first second third c.longest-end.result c.longest-end.ensures) in
    let back = back-all c.args.room left is m old _ c.work.inside.capacity c.room.inside.issue c.work.invariant none room_is A B C first second third c.longest-end.result c.longest-end.ensures log log_is c.read_all.new.first c.read_all.new.second c.read_all.new.third c.read_all.ensures.first_tried c.read_all.ensures.second_tried c.read_all.ensures.third_tried in
    let mid : Replicas = c.mirror_of-mirror.result.0 in
    let lost : List ℕ = c.mirror_of-mirror.result.1 in
    let is_met : IsMet (map spelling log) left.nodes mid lost = subst (λ (es : List Entry). IsMet (map spelling es) left.nodes mid lost) c.deref-2.ensures.value
    (c.mirror_of-mirror.ensures.met left.nodes (subst (λ (es : List Entry). WasReadBack es c.longest-end.result left.nodes c.read_all.new.first c.read_all.new.second c.read_all.new.third) (sym c.deref-2.ensures.value) back)) in
    whole-some c.args.room left is m old _ c.work.inside.capacity c.room.inside.issue c.work.invariant none room_is A B C first second third c.longest-end.result c.longest-end.ensures log log_is mid lost is_met c.mirror_of-mirror.ensures.length

pub returns-then-not-write_met-clause-given_up : goal.returns-then-not-write_met-clause-given_up
returns-then-not-write_met-clause-given_up g c = λ left is n1 n2 n3.
    let m = c.work.inside.machine in
    let old = c.work.inside.log.items in
    let none : old ≡ [] = ap (λ (w : WorkView). w.entries) c.work.view_is ∙ c.room.invariant.0 in
    let room_is : room_of (work_of m old) c.room.inside.issue ≡ c.args.room = ap (λ (w : WorkView). room_of w c.room.inside.issue) c.work.view_is ∙ c.room.view_is in
    let A : Replica = seen (g.N.MemoryNode.contents c.args.a) (g.N.MemoryNode.spare c.args.a) (g.N.MemoryNode.label c.args.a) (g.N.MemoryNode.most c.args.a) (g.N.MemoryNode.faults c.args.a) in
    let B : Replica = seen (g.N.MemoryNode.contents c.args.b) (g.N.MemoryNode.spare c.args.b) (g.N.MemoryNode.label c.args.b) (g.N.MemoryNode.most c.args.b) (g.N.MemoryNode.faults c.args.b) in
    let C : Replica = seen (g.N.MemoryNode.contents c.args.c) (g.N.MemoryNode.spare c.args.c) (g.N.MemoryNode.label c.args.c) (g.N.MemoryNode.most c.args.c) (g.N.MemoryNode.faults c.args.c) in
    let first : A ≡ bare left.nodes.first = sym (ap bare n1) in
    let second : B ≡ bare left.nodes.second = sym (ap bare n2) in
    let third : C ≡ bare left.nodes.third = sym (ap bare n3) in
    let log = c.read_all.new.log.items in
    let log_is : log ≡ left.entries = c.if-not-read_all.ensures.read refl left.entries (left-here c.args.room left is m old _ c.work.inside.capacity c.room.inside.issue c.work.invariant none room_is A B C first second third c.longest-end.result c.longest-end.ensures) in
    let back = back-all c.args.room left is m old _ c.work.inside.capacity c.room.inside.issue c.work.invariant none room_is A B C first second third c.longest-end.result c.longest-end.ensures log log_is c.read_all.new.first c.read_all.new.second c.read_all.new.third c.read_all.ensures.first_tried c.read_all.ensures.second_tried c.read_all.ensures.third_tried in
    let mid : Replicas = c.mirror_of-mirror.result.0 in
    let lost : List ℕ = c.mirror_of-mirror.result.1 in
    let is_met : IsMet (map spelling log) left.nodes mid lost = subst (λ (es : List Entry). IsMet (map spelling es) left.nodes mid lost) c.deref-2.ensures.value
    (c.mirror_of-mirror.ensures.met left.nodes (subst (λ (es : List Entry). WasReadBack es c.longest-end.result left.nodes c.read_all.new.first c.read_all.new.second c.read_all.new.third) (sym c.deref-2.ensures.value) back)) in
    let failed = c.if-not-write_met.ensures.none_left refl in (
      subst (λ (r : Replica). IsGivenBack left.nodes.first r.contents r.spare r.label r.faults) c.close-a.ensures.first
          (back-written (map spelling log) is_met.a left.nodes.first mid.first c.write_met.new.mirror.first _ is_met.first failed.first failed.keeps.first),
      subst (λ (r : Replica). IsGivenBack left.nodes.second r.contents r.spare r.label r.faults) c.close-a.ensures.second
          (back-written (map spelling log) is_met.b left.nodes.second mid.second c.write_met.new.mirror.second _ is_met.second failed.second failed.keeps.second),
      subst (λ (r : Replica). IsGivenBack left.nodes.third r.contents r.spare r.label r.faults) c.close-a.ensures.third
          (back-written (map spelling log) is_met.c left.nodes.third mid.third c.write_met.new.mirror.third _ is_met.third failed.third failed.keeps.third),
    )

pub replayed-work-requires-clause-history : goal.replayed-work-requires-clause-history
replayed-work-requires-clause-history g c =
    let left : IssueNow = c.requires.0 in
    let is = c.requires.1 in
    let n1 = c.requires.2 in
    let n2 = c.requires.3 in
    let n3 = c.requires.4 in
    let m = c.work.inside.machine in
    let old = c.work.inside.log.items in
    let none : old ≡ [] = ap (λ (w : WorkView). w.entries) c.work.view_is ∙ c.room.invariant.0 in
    let room_is : room_of (work_of m old) c.room.inside.issue ≡ c.args.room = ap (λ (w : WorkView). room_of w c.room.inside.issue) c.work.view_is ∙ c.room.view_is in
    let A : Replica = seen (g.N.MemoryNode.contents c.args.a) (g.N.MemoryNode.spare c.args.a) (g.N.MemoryNode.label c.args.a) (g.N.MemoryNode.most c.args.a) (g.N.MemoryNode.faults c.args.a) in
    let B : Replica = seen (g.N.MemoryNode.contents c.args.b) (g.N.MemoryNode.spare c.args.b) (g.N.MemoryNode.label c.args.b) (g.N.MemoryNode.most c.args.b) (g.N.MemoryNode.faults c.args.b) in
    let C : Replica = seen (g.N.MemoryNode.contents c.args.c) (g.N.MemoryNode.spare c.args.c) (g.N.MemoryNode.label c.args.c) (g.N.MemoryNode.most c.args.c) (g.N.MemoryNode.faults c.args.c) in
    let first : A ≡ bare left.nodes.first = sym (ap bare n1) in
    let second : B ≡ bare left.nodes.second = sym (ap bare n2) in
    let third : C ≡ bare left.nodes.third = sym (ap bare n3) in
    let log = c.read_all.new.log.items in
    let log_is : log ≡ left.entries = c.if-not-read_all.ensures.read refl left.entries (left-here c.args.room left is m old _ c.work.inside.capacity c.room.inside.issue c.work.invariant none room_is A B C first second third c.longest-end.result c.longest-end.ensures) in
    (able c.args.room left is m old _ c.work.inside.capacity c.room.inside.issue c.work.invariant none room_is A B C first second third c.longest-end.result c.longest-end.ensures log log_is).history

pub replayed-work-requires-clause-within : goal.replayed-work-requires-clause-within
replayed-work-requires-clause-within g c =
    let left : IssueNow = c.requires.0 in
    let is = c.requires.1 in
    let n1 = c.requires.2 in
    let n2 = c.requires.3 in
    let n3 = c.requires.4 in
    let m = c.work.inside.machine in
    let old = c.work.inside.log.items in
    let none : old ≡ [] = ap (λ (w : WorkView). w.entries) c.work.view_is ∙ c.room.invariant.0 in
    let room_is : room_of (work_of m old) c.room.inside.issue ≡ c.args.room = ap (λ (w : WorkView). room_of w c.room.inside.issue) c.work.view_is ∙ c.room.view_is in
    let A : Replica = seen (g.N.MemoryNode.contents c.args.a) (g.N.MemoryNode.spare c.args.a) (g.N.MemoryNode.label c.args.a) (g.N.MemoryNode.most c.args.a) (g.N.MemoryNode.faults c.args.a) in
    let B : Replica = seen (g.N.MemoryNode.contents c.args.b) (g.N.MemoryNode.spare c.args.b) (g.N.MemoryNode.label c.args.b) (g.N.MemoryNode.most c.args.b) (g.N.MemoryNode.faults c.args.b) in
    let C : Replica = seen (g.N.MemoryNode.contents c.args.c) (g.N.MemoryNode.spare c.args.c) (g.N.MemoryNode.label c.args.c) (g.N.MemoryNode.most c.args.c) (g.N.MemoryNode.faults c.args.c) in
    let first : A ≡ bare left.nodes.first = sym (ap bare n1) in
    let second : B ≡ bare left.nodes.second = sym (ap bare n2) in
    let third : C ≡ bare left.nodes.third = sym (ap bare n3) in
    let log = c.read_all.new.log.items in
    let log_is : log ≡ left.entries = c.if-not-read_all.ensures.read refl left.entries (left-here c.args.room left is m old _ c.work.inside.capacity c.room.inside.issue c.work.invariant none room_is A B C first second third c.longest-end.result c.longest-end.ensures) in
    log-within c.args.room left is m old _ c.work.inside.capacity c.room.inside.issue c.work.invariant none room_is A B C first second third c.longest-end.result c.longest-end.ensures log log_is

pub record_losses-requires-clause-follow : goal.record_losses-requires-clause-follow
record_losses-requires-clause-follow g c =
    let left : IssueNow = c.requires.0 in
    let is = c.requires.1 in
    let n1 = c.requires.2 in
    let n2 = c.requires.3 in
    let n3 = c.requires.4 in
    let m = c.work.inside.machine in
    let old = c.work.inside.log.items in
    let none : old ≡ [] = ap (λ (w : WorkView). w.entries) c.work.view_is ∙ c.room.invariant.0 in
    let room_is : room_of (work_of m old) c.room.inside.issue ≡ c.args.room = ap (λ (w : WorkView). room_of w c.room.inside.issue) c.work.view_is ∙ c.room.view_is in
    let A : Replica = seen (g.N.MemoryNode.contents c.args.a) (g.N.MemoryNode.spare c.args.a) (g.N.MemoryNode.label c.args.a) (g.N.MemoryNode.most c.args.a) (g.N.MemoryNode.faults c.args.a) in
    let B : Replica = seen (g.N.MemoryNode.contents c.args.b) (g.N.MemoryNode.spare c.args.b) (g.N.MemoryNode.label c.args.b) (g.N.MemoryNode.most c.args.b) (g.N.MemoryNode.faults c.args.b) in
    let C : Replica = seen (g.N.MemoryNode.contents c.args.c) (g.N.MemoryNode.spare c.args.c) (g.N.MemoryNode.label c.args.c) (g.N.MemoryNode.most c.args.c) (g.N.MemoryNode.faults c.args.c) in
    let first : A ≡ bare left.nodes.first = sym (ap bare n1) in
    let second : B ≡ bare left.nodes.second = sym (ap bare n2) in
    let third : C ≡ bare left.nodes.third = sym (ap bare n3) in
    let log = c.read_all.new.log.items in
    let log_is : log ≡ left.entries = c.if-not-read_all.ensures.read refl left.entries (left-here c.args.room left is m old _ c.work.inside.capacity c.room.inside.issue c.work.invariant none room_is A B C first second third c.longest-end.result c.longest-end.ensures) in
    let back = back-all c.args.room left is m old _ c.work.inside.capacity c.room.inside.issue c.work.invariant none room_is A B C first second third c.longest-end.result c.longest-end.ensures log log_is c.read_all.new.first c.read_all.new.second c.read_all.new.third c.read_all.ensures.first_tried c.read_all.ensures.second_tried c.read_all.ensures.third_tried in
    let mid : Replicas = c.mirror_of-mirror.result.0 in
    let lost : List ℕ = c.mirror_of-mirror.result.1 in
    let is_met : IsMet (map spelling log) left.nodes mid lost = subst (λ (es : List Entry). IsMet (map spelling es) left.nodes mid lost) c.deref-2.ensures.value
    (c.mirror_of-mirror.ensures.met left.nodes (subst (λ (es : List Entry). WasReadBack es c.longest-end.result left.nodes c.read_all.new.first c.read_all.new.second c.read_all.new.third) (sym c.deref-2.ensures.value) back)) in
    let wrote = c.if-not-write_met.ensures.written refl in
    let own_is : c.system_entries-own.result ≡ length (entries_by 0 log) = c.system_entries-own.ensures ∙ ap (λ (es : List Entry). length (entries_by 0 es)) c.deref.ensures.value in
    subst (λ (v : WorkView). FollowOn v.participants v.entries (losses_at v c.write_met.new.lost)) (sym c.replayed-work.ensures) (whole-follow c.args.room left is m old _ c.work.inside.capacity c.room.inside.issue c.work.invariant none room_is A B C first second third c.longest-end.result c.longest-end.ensures log log_is mid lost is_met c.mirror_of-mirror.ensures.length c.write_met.new.mirror c.system_entries-own.result own_is c.write_met.new.lost wrote.0 wrote.1 wrote.2 wrote.3)

pub record_losses-requires-clause-room : goal.record_losses-requires-clause-room
record_losses-requires-clause-room g c =
    let left : IssueNow = c.requires.0 in
    let is = c.requires.1 in
    let n1 = c.requires.2 in
    let n2 = c.requires.3 in
    let n3 = c.requires.4 in
    let m = c.work.inside.machine in
    let old = c.work.inside.log.items in
    let none : old ≡ [] = ap (λ (w : WorkView). w.entries) c.work.view_is ∙ c.room.invariant.0 in
    let room_is : room_of (work_of m old) c.room.inside.issue ≡ c.args.room = ap (λ (w : WorkView). room_of w c.room.inside.issue) c.work.view_is ∙ c.room.view_is in
    let A : Replica = seen (g.N.MemoryNode.contents c.args.a) (g.N.MemoryNode.spare c.args.a) (g.N.MemoryNode.label c.args.a) (g.N.MemoryNode.most c.args.a) (g.N.MemoryNode.faults c.args.a) in
    let B : Replica = seen (g.N.MemoryNode.contents c.args.b) (g.N.MemoryNode.spare c.args.b) (g.N.MemoryNode.label c.args.b) (g.N.MemoryNode.most c.args.b) (g.N.MemoryNode.faults c.args.b) in
    let C : Replica = seen (g.N.MemoryNode.contents c.args.c) (g.N.MemoryNode.spare c.args.c) (g.N.MemoryNode.label c.args.c) (g.N.MemoryNode.most c.args.c) (g.N.MemoryNode.faults c.args.c) in
    let first : A ≡ bare left.nodes.first = sym (ap bare n1) in
    let second : B ≡ bare left.nodes.second = sym (ap bare n2) in
    let third : C ≡ bare left.nodes.third = sym (ap bare n3) in
    let log = c.read_all.new.log.items in
    let log_is : log ≡ left.entries = c.if-not-read_all.ensures.read refl left.entries (left-here c.args.room left is m old _ c.work.inside.capacity c.room.inside.issue c.work.invariant none room_is A B C first second third c.longest-end.result c.longest-end.ensures) in
    let back = back-all c.args.room left is m old _ c.work.inside.capacity c.room.inside.issue c.work.invariant none room_is A B C first second third c.longest-end.result c.longest-end.ensures log log_is c.read_all.new.first c.read_all.new.second c.read_all.new.third c.read_all.ensures.first_tried c.read_all.ensures.second_tried c.read_all.ensures.third_tried in
    let mid : Replicas = c.mirror_of-mirror.result.0 in
    let lost : List ℕ = c.mirror_of-mirror.result.1 in
    let is_met : IsMet (map spelling log) left.nodes mid lost = subst (λ (es : List Entry). IsMet (map spelling es) left.nodes mid lost) c.deref-2.ensures.value
    (c.mirror_of-mirror.ensures.met left.nodes (subst (λ (es : List Entry). WasReadBack es c.longest-end.result left.nodes c.read_all.new.first c.read_all.new.second c.read_all.new.third) (sym c.deref-2.ensures.value) back)) in
    let wrote = c.if-not-write_met.ensures.written refl in
    let own_is : c.system_entries-own.result ≡ length (entries_by 0 log) = c.system_entries-own.ensures ∙ ap (λ (es : List Entry). length (entries_by 0 es)) c.deref.ensures.value in
    subst (λ (v : WorkView). length v.entries + length c.write_met.new.lost ≤ v.capacity) (sym c.replayed-work.ensures) (whole-fits c.args.room left is m old _ c.work.inside.capacity c.room.inside.issue c.work.invariant none room_is A B C first second third c.longest-end.result c.longest-end.ensures log log_is mid lost is_met c.mirror_of-mirror.ensures.length c.write_met.new.mirror c.system_entries-own.result own_is c.write_met.new.lost wrote.0 wrote.1 wrote.2 wrote.3)

pub invariant_of-result : goal.invariant_of-result
invariant_of-result g c =
    let left : IssueNow = c.requires.0 in
    let is = c.requires.1 in
    let n1 = c.requires.2 in
    let n2 = c.requires.3 in
    let n3 = c.requires.4 in
    let m = c.work.inside.machine in
    let old = c.work.inside.log.items in
    let none : old ≡ [] = ap (λ (w : WorkView). w.entries) c.work.view_is ∙ c.room.invariant.0 in
    let room_is : room_of (work_of m old) c.room.inside.issue ≡ c.args.room = ap (λ (w : WorkView). room_of w c.room.inside.issue) c.work.view_is ∙ c.room.view_is in
    let A : Replica = seen (g.N.MemoryNode.contents c.args.a) (g.N.MemoryNode.spare c.args.a) (g.N.MemoryNode.label c.args.a) (g.N.MemoryNode.most c.args.a) (g.N.MemoryNode.faults c.args.a) in
    let B : Replica = seen (g.N.MemoryNode.contents c.args.b) (g.N.MemoryNode.spare c.args.b) (g.N.MemoryNode.label c.args.b) (g.N.MemoryNode.most c.args.b) (g.N.MemoryNode.faults c.args.b) in
    let C : Replica = seen (g.N.MemoryNode.contents c.args.c) (g.N.MemoryNode.spare c.args.c) (g.N.MemoryNode.label c.args.c) (g.N.MemoryNode.most c.args.c) (g.N.MemoryNode.faults c.args.c) in
    let first : A ≡ bare left.nodes.first = sym (ap bare n1) in
    let second : B ≡ bare left.nodes.second = sym (ap bare n2) in
    let third : C ≡ bare left.nodes.third = sym (ap bare n3) in
    let log = c.read_all.new.log.items in
    let log_is : log ≡ left.entries = c.if-not-read_all.ensures.read refl left.entries (left-here c.args.room left is m old _ c.work.inside.capacity c.room.inside.issue c.work.invariant none room_is A B C first second third c.longest-end.result c.longest-end.ensures) in
    let back = back-all c.args.room left is m old _ c.work.inside.capacity c.room.inside.issue c.work.invariant none room_is A B C first second third c.longest-end.result c.longest-end.ensures log log_is c.read_all.new.first c.read_all.new.second c.read_all.new.third c.read_all.ensures.first_tried c.read_all.ensures.second_tried c.read_all.ensures.third_tried in
    let mid : Replicas = c.mirror_of-mirror.result.0 in
    let lost : List ℕ = c.mirror_of-mirror.result.1 in
    let is_met : IsMet (map spelling log) left.nodes mid lost = subst (λ (es : List Entry). IsMet (map spelling es) left.nodes mid lost) c.deref-2.ensures.value
    (c.mirror_of-mirror.ensures.met left.nodes (subst (λ (es : List Entry). WasReadBack es c.longest-end.result left.nodes c.read_all.new.first c.read_all.new.second c.read_all.new.third) (sym c.deref-2.ensures.value) back)) in
    let wrote = c.if-not-write_met.ensures.written refl in
    let own_is : c.system_entries-own.result ≡ length (entries_by 0 log) = c.system_entries-own.ensures ∙ ap (λ (es : List Entry). length (entries_by 0 es)) c.deref.ensures.value in
    let work : c.record_losses.new.work ≡ worked (losses_at (work_of m log) c.write_met.new.lost) (work_of m log) =
    c.record_losses.ensures ∙ ap (λ (v : WorkView). worked (losses_at v c.write_met.new.lost) v) c.replayed-work.ensures in
    whole-stands c.args.room left is m old _ c.work.inside.capacity c.room.inside.issue c.work.invariant none room_is A B C first second third c.longest-end.result c.longest-end.ensures log log_is mid lost is_met c.mirror_of-mirror.ensures.length c.write_met.new.mirror c.system_entries-own.result own_is c.write_met.new.lost wrote.0 wrote.1 wrote.2 wrote.3 c.record_losses.new.work work

pub returns-clause-adopted : goal.returns-clause-adopted
returns-clause-adopted g c = λ left is n1 n2 n3.
    let m = c.work.inside.machine in
    let old = c.work.inside.log.items in
    let none : old ≡ [] = ap (λ (w : WorkView). w.entries) c.work.view_is ∙ c.room.invariant.0 in
    let room_is : room_of (work_of m old) c.room.inside.issue ≡ c.args.room = ap (λ (w : WorkView). room_of w c.room.inside.issue) c.work.view_is ∙ c.room.view_is in
    let A : Replica = seen (g.N.MemoryNode.contents c.args.a) (g.N.MemoryNode.spare c.args.a) (g.N.MemoryNode.label c.args.a) (g.N.MemoryNode.most c.args.a) (g.N.MemoryNode.faults c.args.a) in
    let B : Replica = seen (g.N.MemoryNode.contents c.args.b) (g.N.MemoryNode.spare c.args.b) (g.N.MemoryNode.label c.args.b) (g.N.MemoryNode.most c.args.b) (g.N.MemoryNode.faults c.args.b) in
    let C : Replica = seen (g.N.MemoryNode.contents c.args.c) (g.N.MemoryNode.spare c.args.c) (g.N.MemoryNode.label c.args.c) (g.N.MemoryNode.most c.args.c) (g.N.MemoryNode.faults c.args.c) in
    let first : A ≡ bare left.nodes.first = sym (ap bare n1) in
    let second : B ≡ bare left.nodes.second = sym (ap bare n2) in
    let third : C ≡ bare left.nodes.third = sym (ap bare n3) in
    let log = c.read_all.new.log.items in
    let log_is : log ≡ left.entries = c.if-not-read_all.ensures.read refl left.entries (left-here c.args.room left is m old _ c.work.inside.capacity c.room.inside.issue c.work.invariant none room_is A B C first second third c.longest-end.result c.longest-end.ensures) in
    let back = back-all c.args.room left is m old _ c.work.inside.capacity c.room.inside.issue c.work.invariant none room_is A B C first second third c.longest-end.result c.longest-end.ensures log log_is c.read_all.new.first c.read_all.new.second c.read_all.new.third c.read_all.ensures.first_tried c.read_all.ensures.second_tried c.read_all.ensures.third_tried in
    let mid : Replicas = c.mirror_of-mirror.result.0 in
    let lost : List ℕ = c.mirror_of-mirror.result.1 in
    let is_met : IsMet (map spelling log) left.nodes mid lost = subst (λ (es : List Entry). IsMet (map spelling es) left.nodes mid lost) c.deref-2.ensures.value
    (c.mirror_of-mirror.ensures.met left.nodes (subst (λ (es : List Entry). WasReadBack es c.longest-end.result left.nodes c.read_all.new.first c.read_all.new.second c.read_all.new.third) (sym c.deref-2.ensures.value) back)) in
    let wrote = c.if-not-write_met.ensures.written refl in
    let own_is : c.system_entries-own.result ≡ length (entries_by 0 log) = c.system_entries-own.ensures ∙ ap (λ (es : List Entry). length (entries_by 0 es)) c.deref.ensures.value in
    let work : c.record_losses.new.work ≡ worked (losses_at (work_of m log) c.write_met.new.lost) (work_of m log) =
    c.record_losses.ensures ∙ ap (λ (v : WorkView). worked (losses_at v c.write_met.new.lost) v) c.replayed-work.ensures in
    whole-adopted c.args.room left is m old _ c.work.inside.capacity c.room.inside.issue c.work.invariant none room_is A B C first second third c.longest-end.result c.longest-end.ensures log log_is mid lost is_met c.mirror_of-mirror.ensures.length c.write_met.new.mirror c.system_entries-own.result own_is c.write_met.new.lost wrote.0 wrote.1 wrote.2 wrote.3 c.record_losses.new.work work

pub returns-clause-stands : goal.returns-clause-stands
returns-clause-stands g c =
    let left : IssueNow = c.requires.0 in
    let is = c.requires.1 in
    let n1 = c.requires.2 in
    let n2 = c.requires.3 in
    let n3 = c.requires.4 in
    let m = c.work.inside.machine in
    let old = c.work.inside.log.items in
    let none : old ≡ [] = ap (λ (w : WorkView). w.entries) c.work.view_is ∙ c.room.invariant.0 in
    let room_is : room_of (work_of m old) c.room.inside.issue ≡ c.args.room = ap (λ (w : WorkView). room_of w c.room.inside.issue) c.work.view_is ∙ c.room.view_is in
    let A : Replica = seen (g.N.MemoryNode.contents c.args.a) (g.N.MemoryNode.spare c.args.a) (g.N.MemoryNode.label c.args.a) (g.N.MemoryNode.most c.args.a) (g.N.MemoryNode.faults c.args.a) in
    let B : Replica = seen (g.N.MemoryNode.contents c.args.b) (g.N.MemoryNode.spare c.args.b) (g.N.MemoryNode.label c.args.b) (g.N.MemoryNode.most c.args.b) (g.N.MemoryNode.faults c.args.b) in
    let C : Replica = seen (g.N.MemoryNode.contents c.args.c) (g.N.MemoryNode.spare c.args.c) (g.N.MemoryNode.label c.args.c) (g.N.MemoryNode.most c.args.c) (g.N.MemoryNode.faults c.args.c) in
    let first : A ≡ bare left.nodes.first = sym (ap bare n1) in
    let second : B ≡ bare left.nodes.second = sym (ap bare n2) in
    let third : C ≡ bare left.nodes.third = sym (ap bare n3) in
    let log = c.read_all.new.log.items in
    let log_is : log ≡ left.entries = c.if-not-read_all.ensures.read refl left.entries (left-here c.args.room left is m old _ c.work.inside.capacity c.room.inside.issue c.work.invariant none room_is A B C first second third c.longest-end.result c.longest-end.ensures) in
    let back = back-all c.args.room left is m old _ c.work.inside.capacity c.room.inside.issue c.work.invariant none room_is A B C first second third c.longest-end.result c.longest-end.ensures log log_is c.read_all.new.first c.read_all.new.second c.read_all.new.third c.read_all.ensures.first_tried c.read_all.ensures.second_tried c.read_all.ensures.third_tried in
    let mid : Replicas = c.mirror_of-mirror.result.0 in
    let lost : List ℕ = c.mirror_of-mirror.result.1 in
    let is_met : IsMet (map spelling log) left.nodes mid lost = subst (λ (es : List Entry). IsMet (map spelling es) left.nodes mid lost) c.deref-2.ensures.value
    (c.mirror_of-mirror.ensures.met left.nodes (subst (λ (es : List Entry). WasReadBack es c.longest-end.result left.nodes c.read_all.new.first c.read_all.new.second c.read_all.new.third) (sym c.deref-2.ensures.value) back)) in
    let wrote = c.if-not-write_met.ensures.written refl in
    let own_is : c.system_entries-own.result ≡ length (entries_by 0 log) = c.system_entries-own.ensures ∙ ap (λ (es : List Entry). length (entries_by 0 es)) c.deref.ensures.value in
    let work : c.record_losses.new.work ≡ worked (losses_at (work_of m log) c.write_met.new.lost) (work_of m log) =
    c.record_losses.ensures ∙ ap (λ (v : WorkView). worked (losses_at v c.write_met.new.lost) v) c.replayed-work.ensures in
    whole-stands c.args.room left is m old _ c.work.inside.capacity c.room.inside.issue c.work.invariant none room_is A B C first second third c.longest-end.result c.longest-end.ensures log log_is mid lost is_met c.mirror_of-mirror.ensures.length c.write_met.new.mirror c.system_entries-own.result own_is c.write_met.new.lost wrote.0 wrote.1 wrote.2 wrote.3 c.record_losses.new.work work
