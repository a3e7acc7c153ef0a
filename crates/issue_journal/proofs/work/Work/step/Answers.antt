use Rattle.std.proofs.Common.{◌<◌, length, sym, subst, arith}
use Rattle.issue_machine.specs.History.{Follows}
use Rattle.issue_journal.specs.Inside.{WorkView}
use Rattle.issue_journal.proofs.Working.{may-step, work-more}
use Rattle.issue_journal.proofs.work.Work.step.Goals as goal

pub step-reply-requires : goal.step-reply-requires
step-reply-requires c =
    let m = c.self.inside.machine in
    let es = c.self.inside.log.items in
    let follows : Follows m.participants es c.args.entry.now = subst (λ (w : WorkView). Follows w.participants w.entries c.args.entry.now) (sym c.self.view_is) c.requires.follows in
    let room : length es < m.issue.capacity = subst (λ (w : WorkView). length w.entries < w.capacity) (sym c.self.view_is) c.requires.room in
    may-step m es c.self.invariant.done c.args.entry.now follows room

pub invariant_of-self : goal.invariant_of-self
invariant_of-self c =
    let m = c.self.inside.machine in
    let es = c.self.inside.log.items in
    let follows : Follows m.participants es c.args.entry.now = subst (λ (w : WorkView). Follows w.participants w.entries c.args.entry.now) (sym c.self.view_is) c.requires.follows in
    let room : length es < m.issue.capacity = subst (λ (w : WorkView). length w.entries < w.capacity) (sym c.self.view_is) c.requires.room in
    work-more m es c.self.invariant.done c.args.entry.now follows c.step-reply.new.self c.push.new.list.items _ _ c.self.inside.capacity c.self.invariant
    (omega (arith, room, c.self.invariant.capacity_is)) c.step-reply.ensures.state c.push.ensures.items c.push.ensures.capacity
