use Rattle.std.proofs.Common.{length}
use Rattle.gateway.specs.Ran.{RunSoFar}
use Rattle.gateway.proofs.run.Gateway.run.Given as goal

abbrev pub invariant-loop-self : goal.invariant-loop-self
invariant-loop-self g l = RunSoFar g.D.Desk.state g.D.Desk.fixed g.D.Desk.tells l.stage l.fn.self l.self l.fn.desks l.desks

abbrev pub decreases-loop-self : goal.decreases-loop-self
decreases-loop-self g l = length l.self.lines
