use Rattle.std.proofs.Common.{ap, arith}
use Rattle.issue_journal.specs.Issue.{RoomView}
use Rattle.issue_journal.proofs.Beginning.{begin-stands}
use Rattle.issue_journal.proofs.issue.Issue.begin.Goals as goal

pub invariant_of-result : goal.invariant_of-result
invariant_of-result g c =
    let fits = ap (λ (r : RoomView). r.capacity) c.room.view_is in
    begin-stands c.room.inside.work c.make-mirror.result c.room.inside.issue _ _ _ _ _ _ _ _ _ _ _ _ _ _ _ c.room.invariant.0 c.room.invariant.1 c.stands.ensures.small
    c.make-mirror.ensures.first c.make-mirror.ensures.second c.make-mirror.ensures.third
    (c.requires.first.0, omega (arith, fits, c.requires.first.1), c.requires.first.2)
    (c.requires.second.0, omega (arith, fits, c.requires.second.1), c.requires.second.2)
    (c.requires.third.0, omega (arith, fits, c.requires.third.1), c.requires.third.2)
    c.make-mirror.ensures.mirrored

pub returns-clause-stands : goal.returns-clause-stands
returns-clause-stands g c =
    let fits = ap (λ (r : RoomView). r.capacity) c.room.view_is in
    begin-stands c.room.inside.work c.make-mirror.result c.room.inside.issue _ _ _ _ _ _ _ _ _ _ _ _ _ _ _ c.room.invariant.0 c.room.invariant.1 c.stands.ensures.small
    c.make-mirror.ensures.first c.make-mirror.ensures.second c.make-mirror.ensures.third
    (c.requires.first.0, omega (arith, fits, c.requires.first.1), c.requires.first.2)
    (c.requires.second.0, omega (arith, fits, c.requires.second.1), c.requires.second.2)
    (c.requires.third.0, omega (arith, fits, c.requires.third.1), c.requires.third.2)
    c.make-mirror.ensures.mirrored
