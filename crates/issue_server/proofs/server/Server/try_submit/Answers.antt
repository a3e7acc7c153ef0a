use Rattle.std.proofs.Common.{rules}
use Rattle.issue_server.proofs.Recording.{tried-entered, tried-stopped}
use Rattle.issue_server.proofs.server.Server.try_submit.Goals as goal
use Rattle.issue_server.proofs.server.Server.try_submit.Goals.{in-Ok-result, in-Err-result}

pub returns-after-result-clause-tried : goal.returns-after-result-clause-tried
returns-after-result-clause-tried g c =
    let served = c.record-pass.ensures c.args.pass c.in-Ok.ensures.pass c.in-Ok.ensures.finds in
    elim c.match-result.branch [
      | in-Ok-result w ↦ tried-entered _ _ _ _ _ _ served w.in-Ok-result.is (search rules)
      | in-Err-result w ↦ tried-stopped _ _ _ _ _ _ served w.in-Err-result.is (search rules)
    ]
