use Rattle.std.proofs.Common.{sym}
use Rattle.issue_journal.proofs.Working.{work-made}
use Rattle.issue_journal.proofs.work.Work.make.Goals as goal

pub invariant_of-result : goal.invariant_of-result
invariant_of-result c =
    work-made c.args.rules.now c.args.issue c.args.capacity _ c.in-Ok.machine c.in-Ok-with_capacity.log.items c.requires.issue c.requires.capacity
    c.in-Ok-with_capacity.ensures.capacity c.in-Ok-with_capacity.ensures.items c.in-Ok.ensures

pub returns-clause-capacity : goal.returns-clause-capacity
returns-clause-capacity c =
    sym (work-made c.args.rules.now c.args.issue c.args.capacity _ c.in-Ok.machine c.in-Ok-with_capacity.log.items c.requires.issue c.requires.capacity
    c.in-Ok-with_capacity.ensures.capacity c.in-Ok-with_capacity.ensures.items c.in-Ok.ensures).capacity_is
