use Rattle.issue_machine.proofs.EventLemmas.{machine-made}
use Rattle.issue_machine.proofs.machine.Machine.make.Goals as goal

pub invariant_of-result : goal.invariant_of-result
invariant_of-result c =
    machine-made c.args.rules.now c.args.issue c.args.capacity c.participants.result c.in-Ok.floor c.requires.issue c.requires.capacity c.participants.ensures.within.1 c.in-Ok.ensures
