use Rattle.std.proofs.Common.{◌+◌, ◌*◌, arith, refl}
use Rattle.script_run.proofs.OpeningLemmas.{opened-is, room-holds}
use Rattle.script_run.proofs.opening.open_issue.Goals as goal

pub begin-requires-clause-first : goal.begin-requires-clause-first
begin-requires-clause-first g c =
    (c.in_ok-first.ensures.empty, room-holds c.args.rules.now c.args.issue (2 * c.args.count + 4) c.in-Ok.room c.requires.number c.in-Ok.ensures _ c.in_ok-first.ensures.room, c.in_ok-first.ensures.most)

pub begin-requires-clause-second : goal.begin-requires-clause-second
begin-requires-clause-second g c =
    (c.in_ok-second.ensures.empty, room-holds c.args.rules.now c.args.issue (2 * c.args.count + 4) c.in-Ok.room c.requires.number c.in-Ok.ensures _ c.in_ok-second.ensures.room, c.in_ok-second.ensures.most)

pub begin-requires-clause-third : goal.begin-requires-clause-third
begin-requires-clause-third g c =
    (c.in_ok-third.ensures.empty, room-holds c.args.rules.now c.args.issue (2 * c.args.count + 4) c.in-Ok.room c.requires.number c.in-Ok.ensures _ c.in_ok-third.ensures.room, c.in_ok-third.ensures.most)

pub returns-clause-opened : goal.returns-clause-opened
returns-clause-opened g c =
    opened-is c.args.rules.now c.args.issue (2 * c.args.count + 4) c.in-Ok.room c.requires.number c.in-Ok.ensures c.args.count c.begin.result _ _ _ refl
    c.begin.ensures.fixed c.begin.ensures.entries c.begin.ensures.halt c.begin.ensures.stands c.in_ok-first.ensures.label c.in_ok-second.ensures.label c.in_ok-third.ensures.label

pub returns-clause-others : goal.returns-clause-others
returns-clause-others g c l other =
    let a = c.in_ok-first.ensures.others l (other 0 (omega arith)) in
    let b = c.in_ok-second.ensures.others l (other 1 (omega arith)) in
    let d = c.in_ok-third.ensures.others l (other 2 (omega arith)) in
    (λ out. a.0 (b.0 (d.0 out)), λ out. d.1 (b.1 (a.1 out)))
