use Rattle.std.proofs.Common.{ℕ, ◌≡◌, ◌+◌, ◌≤◌, List, length, Option, Some, sym, ap, subst, ◌∙◌, arith, rules}
use Rattle.mkt_base.specs.declared.event.Entry.{Entry}
use Rattle.mkt_base.specs.declared.journal.Halt.{Halt}
use Rattle.mirror.specs.Replicas.{Replicas}
use Rattle.turn_writer.specs.Writing.{NoneLeft, Written, turn_entries}
use Rattle.issue_machine.specs.History.{FollowOn, entries_by}
use Rattle.issue_journal.specs.Inside.{WorkView, issue_of, losses_at, worked}
use Rattle.issue_journal.specs.Issue.{IsIssueNow}
use Rattle.issue_journal.proofs.Entering.{Entering, entering, was-halted}
use Rattle.issue_journal.proofs.Halting.{halt-stands}
use Rattle.issue_journal.proofs.Turning.{grown-is, losses-behind, room-behind, system-few, turn-follows, turn-stands}
use Rattle.issue_journal.proofs.issue.Issue.enter.Goals as goal

pub write_turn-requires-clause-own : goal.write_turn-requires-clause-own
write_turn-requires-clause-own g c =
    let w : WorkView = c.self.inside.work in
    let m : Replicas = c.self.inside.mirror in
    let n = c.self.inside.issue in
    let p = c.self.inside.place in
    let e : Entry = c.args.entry.now in
    let f : Entering w m c.self.inside.halt n p e =
    entering w m c.self.inside.halt n p c.args.self.now e c.self.view_is c.self.invariant c.requires.running c.requires.entry c.requires.event c.requires.place in
    omega (arith, c.next_own-own.ensures, system-few w m n p f.stands)

pub invariant_of-self : goal.invariant_of-self
invariant_of-self g c =
    let w : WorkView = c.self.inside.work in
    let m : Replicas = c.self.inside.mirror in
    let n = c.self.inside.issue in
    let p = c.self.inside.place in
    let e : Entry = c.args.entry.now in
    let f : Entering w m c.self.inside.halt n p e =
    entering w m c.self.inside.halt n p c.args.self.now e c.self.view_is c.self.invariant c.requires.running c.requires.entry c.requires.event c.requires.place in
    let after : Replicas = c.write_turn.new.mirror in
    let left : NoneLeft e m after = search rules in
    subst (λ (x : Replicas). IsIssueNow (issue_of w x (Some (record { caller = e.caller; own = e.own; event = e.event })) n p)) (sym c.wipe_all.ensures)
    (halt-stands w m n p f.stands e f.place_is c.requires.caller f.own f.event after left)

pub returns-in_default-clause-stands : goal.returns-in_default-clause-stands
returns-in_default-clause-stands g c =
    let w : WorkView = c.self.inside.work in
    let m : Replicas = c.self.inside.mirror in
    let n = c.self.inside.issue in
    let p = c.self.inside.place in
    let e : Entry = c.args.entry.now in
    let f : Entering w m c.self.inside.halt n p e =
    entering w m c.self.inside.halt n p c.args.self.now e c.self.view_is c.self.invariant c.requires.running c.requires.entry c.requires.event c.requires.place in
    let after : Replicas = c.write_turn.new.mirror in
    let left : NoneLeft e m after = search rules in
    subst (λ (x : Replicas). IsIssueNow (issue_of w x (Some (record { caller = e.caller; own = e.own; event = e.event })) n p)) (sym c.wipe_all.ensures)
    (halt-stands w m n p f.stands e f.place_is c.requires.caller f.own f.event after left)

pub returns-in_default-clause-halted : goal.returns-in_default-clause-halted
returns-in_default-clause-halted g c = λ _.
    let m : Replicas = c.self.inside.mirror in
    let left : NoneLeft c.args.entry.now m c.write_turn.new.mirror = search rules in
    was-halted c.self.inside.work m c.self.inside.halt c.self.inside.issue c.self.inside.place c.args.self.now c.args.entry.now c.write_turn.new.mirror c.wipe_all.new.mirror
    c.self.view_is c.requires.running c.requires.entry left c.wipe_all.ensures

pub step-reply-requires-clause-follows : goal.step-reply-requires-clause-follows
step-reply-requires-clause-follows g c =
    let w : WorkView = c.self.inside.work in
    let m : Replicas = c.self.inside.mirror in
    let n = c.self.inside.issue in
    let p = c.self.inside.place in
    let e : Entry = c.args.entry.now in
    let f : Entering w m c.self.inside.halt n p e =
    entering w m c.self.inside.halt n p c.args.self.now e c.self.view_is c.self.invariant c.requires.running c.requires.entry c.requires.event c.requires.place in
    let lost = c.in-Some.lost in
    let after : Replicas = c.write_turn.new.mirror in
    let written : Written e (length (entries_by 0 w.entries)) lost m after = subst (λ (s : ℕ). Written e s lost m after) c.next_own-own.ensures c.in-Some.ensures.written in
    turn-follows w m n p f.stands e f.place_is c.requires.caller f.own f.event after lost f.fits c.entry_numbers.ensures written

pub record_losses-requires-clause-follow : goal.record_losses-requires-clause-follow
record_losses-requires-clause-follow g c =
    let w : WorkView = c.self.inside.work in
    let m : Replicas = c.self.inside.mirror in
    let n = c.self.inside.issue in
    let p = c.self.inside.place in
    let e : Entry = c.args.entry.now in
    let f : Entering w m c.self.inside.halt n p e =
    entering w m c.self.inside.halt n p c.args.self.now e c.self.view_is c.self.invariant c.requires.running c.requires.entry c.requires.event c.requires.place in
    let lost = c.in-Some.lost in
    let after : Replicas = c.write_turn.new.mirror in
    let written : Written e (length (entries_by 0 w.entries)) lost m after = subst (λ (s : ℕ). Written e s lost m after) c.next_own-own.ensures c.in-Some.ensures.written in
    subst (λ (v : WorkView). FollowOn v.participants v.entries (losses_at v lost)) (sym c.step-reply.ensures.work) (losses-behind w m n p f.stands e f.place_is c.requires.caller f.own f.event after lost f.fits c.entry_numbers.ensures written)

pub record_losses-requires-clause-room : goal.record_losses-requires-clause-room
record_losses-requires-clause-room g c =
    let w : WorkView = c.self.inside.work in
    let m : Replicas = c.self.inside.mirror in
    let n = c.self.inside.issue in
    let p = c.self.inside.place in
    let e : Entry = c.args.entry.now in
    let f : Entering w m c.self.inside.halt n p e =
    entering w m c.self.inside.halt n p c.args.self.now e c.self.view_is c.self.invariant c.requires.running c.requires.entry c.requires.event c.requires.place in
    let lost = c.in-Some.lost in
    let after : Replicas = c.write_turn.new.mirror in
    let written : Written e (length (entries_by 0 w.entries)) lost m after = subst (λ (s : ℕ). Written e s lost m after) c.next_own-own.ensures c.in-Some.ensures.written in
    subst (λ (v : WorkView). length v.entries + length lost ≤ v.capacity) (sym c.step-reply.ensures.work) (room-behind w m n p f.stands e f.place_is c.requires.caller f.own f.event after lost f.fits c.entry_numbers.ensures written)

pub invariant_of-self-2 : goal.invariant_of-self-2
invariant_of-self-2 g c =
    let w : WorkView = c.self.inside.work in
    let m : Replicas = c.self.inside.mirror in
    let n = c.self.inside.issue in
    let p = c.self.inside.place in
    let e : Entry = c.args.entry.now in
    let f : Entering w m c.self.inside.halt n p e =
    entering w m c.self.inside.halt n p c.args.self.now e c.self.view_is c.self.invariant c.requires.running c.requires.entry c.requires.event c.requires.place in
    let lost = c.in-Some.lost in
    let after : Replicas = c.write_turn.new.mirror in
    let written : Written e (length (entries_by 0 w.entries)) lost m after = subst (λ (s : ℕ). Written e s lost m after) c.next_own-own.ensures c.in-Some.ensures.written in
    let work : c.record_losses.new.work ≡ worked (turn_entries e (length (entries_by 0 w.entries)) lost) w =
    c.record_losses.ensures ∙ ap (λ (v : WorkView). worked (losses_at v lost) v) c.step-reply.ensures.work ∙ ap (λ (es : List Entry). record w { entries = es }) (grown-is w m n p f.stands e f.place_is c.requires.caller f.own f.event after lost f.fits c.entry_numbers.ensures written) in
    subst (λ (v : WorkView). IsIssueNow (issue_of v after c.self.inside.halt n p)) (sym work)
    (subst (λ (h : Option Halt). IsIssueNow (issue_of (worked (turn_entries e (length (entries_by 0 w.entries)) lost) w) after h n p)) (sym f.running) (turn-stands w m n p f.stands e f.place_is c.requires.caller f.own f.event after lost f.fits c.entry_numbers.ensures written))

pub returns-clause-stands : goal.returns-clause-stands
returns-clause-stands g c =
    let w : WorkView = c.self.inside.work in
    let m : Replicas = c.self.inside.mirror in
    let n = c.self.inside.issue in
    let p = c.self.inside.place in
    let e : Entry = c.args.entry.now in
    let f : Entering w m c.self.inside.halt n p e =
    entering w m c.self.inside.halt n p c.args.self.now e c.self.view_is c.self.invariant c.requires.running c.requires.entry c.requires.event c.requires.place in
    let lost = c.in-Some.lost in
    let after : Replicas = c.write_turn.new.mirror in
    let written : Written e (length (entries_by 0 w.entries)) lost m after = subst (λ (s : ℕ). Written e s lost m after) c.next_own-own.ensures c.in-Some.ensures.written in
    let work : c.record_losses.new.work ≡ worked (turn_entries e (length (entries_by 0 w.entries)) lost) w =
    c.record_losses.ensures ∙ ap (λ (v : WorkView). worked (losses_at v lost) v) c.step-reply.ensures.work ∙ ap (λ (es : List Entry). record w { entries = es }) (grown-is w m n p f.stands e f.place_is c.requires.caller f.own f.event after lost f.fits c.entry_numbers.ensures written) in
    subst (λ (v : WorkView). IsIssueNow (issue_of v after c.self.inside.halt n p)) (sym work)
    (subst (λ (h : Option Halt). IsIssueNow (issue_of (worked (turn_entries e (length (entries_by 0 w.entries)) lost) w) after h n p)) (sym f.running) (turn-stands w m n p f.stands e f.place_is c.requires.caller f.own f.event after lost f.fits c.entry_numbers.ensures written))
