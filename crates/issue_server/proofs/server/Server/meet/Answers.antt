use Rattle.issue_server.proofs.Meeting.{halts-met, keep-halt}
use Rattle.issue_server.proofs.server.Server.meet.Goals as goal

pub returns-clause-keeps_halt : goal.returns-clause-keeps_halt
returns-clause-keeps_halt g c = keep-halt c.args.pass.now c.args.other c.meet.new.pass c.meet.ensures.grows

pub returns-clause-others_halt : goal.returns-clause-others_halt
returns-clause-others_halt g c = let e = c.meet.ensures in
    halts-met c.args.pass.now c.args.other c.meet.new.pass e.pass e.grows e.holds e.held
