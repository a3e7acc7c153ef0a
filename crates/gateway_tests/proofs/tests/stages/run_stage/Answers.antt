use Rattle.std.proofs.Common.{ℕ, ◌+◌, length, subst, sym}
use Rattle.gateway_tests.specs.Left.{AreLeft}
use Rattle.gateway_tests.proofs.Leaving.{left-after}
use Rattle.gateway_tests.proofs.tests.stages.run_stage.Goals as goal

pub returns : goal.returns
returns g c =
    let issues = length c.args.desks.now in
    subst (λ (n : ℕ). AreLeft (c.args.stage + 1) n c.run.new.self.lines) (sym c.run.ensures.ran.did.each)
    (subst (AreLeft (c.args.stage + 1) issues) (sym c.run.ensures.rest) (left-after c.args.stage issues c.args.gateway.now.lines c.requires))
